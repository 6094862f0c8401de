-- Sixty-four words that are read into two rows of lanes, and put back.
use Rattle.std.proofs.Common.{◌≡◌, ◌⊎◌, inl, inr, ℕ, Bool, true, false, ◌+◌, ◌-◌, ◌*◌, ◌%◌, ◌^◌, ◌<◌, ◌≤◌, List, length, map, sym, ◌∙◌, ap, subst, arith}
use Rattle.std.specs.Prelude.{slice_index}
use Rattle.std.proofs.lemmas.Bool.{cases_lt}
use native.Mathlib.Nat.{mod-eq_of_lt}
use Rattle.field_base.specs.Ring.{IsRing}
use Rattle.field_base.specs.Tower.{tower_mul}
use Rattle.ghash_slices.specs.Cantor.{point, polynomial_value}
use Rattle.word_tables.specs.Cantor.{cantor_vector}
use Rattle.additive_transforms.specs.Lanes.{AreLaneShifts, HoldInRows, TakesRows}
use Rattle.additive_transforms.specs.Rows.{level_of}
use Rattle.additive_transforms.specs.Transform.{HoldValuesAtPoints, TakesTransform}
use Rattle.additive_transforms.specs.Units.{ArePut, AreUnits, joint}
use Rattle.additive_transforms.specs.Words.{level_element}
use Rattle.additive_transforms.proofs.CantorSums.{value-same}
use Rattle.additive_transforms.proofs.Counts.{one_exponent}
use Rattle.additive_transforms.proofs.UnitFacts.{joint-first, joint-second}
use Rattle.additive_transforms.proofs.WordRows.{element-at}
use Rattle.additive_transforms.proofs.WordSteps.{numbers_put, numbers_read}

module _ {W : Type 0} (number : W → ℕ) (d size : ℕ) (same : size ≡ d) (n : ℕ) (lanes : n ≡ 32) (a b : ℕ → ℕ) where
  -- the lanes that are read are the elements of the words
  pub rows_read : (words : List W) → AreUnits d size 0 n a (map number words) → AreUnits d size 32 n b (map number words)
      → (p : ℕ) → p < 64 → joint 32 a b p ≡ slice_index (map (level_element number (level_of d)) words) p
  rows_read words first second p below = pick (cases_lt p 32) ∙ sym (element-at number (level_of d) words p)
    where
      pick : (p < 32) ⊎ (32 ≤ p) → joint 32 a b p ≡ slice_index (map number words) p % 2 ^ 2 ^ level_of d
      pick (inl early) =
          let at : 0 + p ≡ p = omega arith in
          joint-first 32 a b p early ∙ numbers_read d size 0 n a (map number words) same first p (omega (arith, lanes, early))
          ∙ ap (λ (q : ℕ). slice_index (map number words) q % 2 ^ 2 ^ level_of d) at
      pick (inr late) =
          let at : 32 + (p - 32) ≡ p = omega (arith, late) in
          joint-second 32 a b p late
          ∙ numbers_read d size 32 n b (map number words) same second (p - 32) (omega (arith, lanes, late, below))
          ∙ ap (λ (q : ℕ). slice_index (map number words) q % 2 ^ 2 ^ level_of d) at

  -- those that are put are the elements of the new ones
  pub rows_put : (old mid new : List W) → ((l : ℕ) → a l < 2 ^ 2 ^ level_of d) → ((l : ℕ) → b l < 2 ^ 2 ^ level_of d)
      → ArePut d size 0 n a (map number old) (map number mid) → ArePut d size 32 n b (map number mid) (map number new)
      → (p : ℕ) → p < 64 → joint 32 a b p ≡ slice_index (map (level_element number (level_of d)) new) p
  rows_put old mid new a_fits b_fits first second p below =
      pick (cases_lt p 32) ∙ sym (element-at number (level_of d) new p)
    where
      pick : (p < 32) ⊎ (32 ≤ p) → joint 32 a b p ≡ slice_index (map number new) p % 2 ^ 2 ^ level_of d
      pick (inl early) =
          let at : 0 + p ≡ p = omega arith in
          let is : slice_index (map number new) p ≡ a p =
          second.kept p (inl early) ∙ ap (slice_index (map number mid)) (sym at)
          ∙ numbers_put d size 0 n a (map number old) (map number mid) same first p (omega (arith, lanes, early)) in
          joint-first 32 a b p early ∙ sym (mod-eq_of_lt (a_fits p)) ∙ ap (λ (v : ℕ). v % 2 ^ 2 ^ level_of d) (sym is)
      pick (inr late) =
          let at : 32 + (p - 32) ≡ p = omega (arith, late) in
          let is : slice_index (map number new) p ≡ b (p - 32) =
          ap (slice_index (map number new)) (sym at)
          ∙ numbers_put d size 32 n b (map number mid) (map number new) same second (p - 32) (omega (arith, lanes, late, below)) in
          joint-second 32 a b p late ∙ sym (mod-eq_of_lt (b_fits (p - 32))) ∙ ap (λ (v : ℕ). v % 2 ^ 2 ^ level_of d) (sym is)

module _ {width : ℕ} {times : ℕ → ℕ → ℕ} (wide : 0 < width) (ring : IsRing width 1 times) (z : ℕ) where
  held : (old new : List ℕ) (x y : ℕ → ℕ) → length old ≡ 64 → ((p : ℕ) → p < 64 → x p ≡ slice_index old p)
      → ((p : ℕ) → p < 64 → y p ≡ slice_index new p) → HoldInRows width times z x y
      → HoldValuesAtPoints width times cantor_vector z old new
  held old new x y long first second hold m count p inside =
      let six : 6 ≡ m = one_exponent 6 m (sym long ∙ count) in
      let below : p < 64 = subst (λ (e : ℕ). p < 2 ^ e) (sym six) inside in
      sym (second p below) ∙ hold p below
      ∙ value-same width times wide ring 6 x (slice_index old) (point width cantor_vector z p) (λ k within. first k within)
      ∙ ap (λ (e : ℕ). polynomial_value times e (slice_index old) (point width cantor_vector z p)) six

  -- what is so in rows is so of lists
  pub rows_held : (inverse : Bool) (old new : List ℕ) (x y : ℕ → ℕ) → length old ≡ 64 → length new ≡ 64
      → ((p : ℕ) → p < 64 → x p ≡ slice_index old p) → ((p : ℕ) → p < 64 → y p ≡ slice_index new p)
      → TakesRows inverse width times z x y → TakesTransform inverse width times cantor_vector z old new
  rows_held false old new x y long also first second hold = held old new x y long first second hold
  rows_held true old new x y long also first second hold = held new old y x also second first hold

-- what is so at one level is so at the same
pub level_taken : {W : Type 0} (number : W → ℕ) (k level : ℕ) → level ≡ k → (inverse : Bool) (z : ℕ) (old new : List W) (shifts : List ℕ)
    → AreLaneShifts (tower_mul level) z shifts
    → ((s : ℕ) → AreLaneShifts (tower_mul k) s shifts
    → TakesTransform inverse (2 ^ k) (tower_mul k) cantor_vector s (map (level_element number k) old) (map (level_element number k) new))
    → TakesTransform inverse (2 ^ level) (tower_mul level) cantor_vector z (map (level_element number level) old)
    (map (level_element number level) new)
level_taken number k level is inverse z old new shifts are taken =
    subst
    (λ (m : ℕ). AreLaneShifts (tower_mul m) z shifts
    → TakesTransform inverse (2 ^ m) (tower_mul m) cantor_vector z (map (level_element number m) old) (map (level_element number m) new))
    (sym is) (taken z) are

-- words of which eight have sixteen bytes have two, and those of which four have them have four
pub two_bytes : (size count : ℕ) → count * 2 ^ size ≡ 16 → count ≡ 8 → size ≡ 1
two_bytes size count bytes is =
    let product : 8 * 2 ^ size ≡ 16 = ap (λ (c : ℕ). c * 2 ^ size) (sym is) ∙ bytes in
    one_exponent size 1 (omega (arith, product))

pub four_bytes : (size count : ℕ) → count * 2 ^ size ≡ 16 → count ≡ 4 → size ≡ 2
four_bytes size count bytes is =
    let product : 4 * 2 ^ size ≡ 16 = ap (λ (c : ℕ). c * 2 ^ size) (sym is) ∙ bytes in
    one_exponent size 2 (omega (arith, product))
