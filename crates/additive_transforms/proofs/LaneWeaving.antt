-- Vectors of bytes that are read from words and put into them, taken apart and woven.
use Rattle.std.proofs.Common.{◌≡◌, ℕ, ◌+◌, ◌-◌, ◌*◌, ◌/◌, ◌%◌, ◌^◌, ◌<◌, ◌≤◌, List, ◌++◌, length, get_or, true, refl, sym, ◌∙◌, ap, ap₂, subst, arith, lit<, w8, Fits}
use Rattle.std.specs.Prelude.{slice_index}
use Rattle.std.specs.Simd.Lanes.{Each1, pick_l}
use Rattle.std.proofs.lemmas.List.{get_or-append-add, get_or-map, get_or_append_left}
use native.Mathlib.Nat.{mod-eq_of_lt, mod-lt}
use Rattle.field_base.proofs.TableChecks.{tabulates, tabulates_at}
use Rattle.additive_transforms.specs.Rows.{byte_of_lane}
use Rattle.additive_transforms.specs.Units.{ArePut, AreUnits, AreUnwoven, byte_of}
use Rattle.additive_transforms.proofs.LaneFacts.{lane-byte}
use Rattle.additive_transforms.proofs.WordPlaces.{unit-byte}

-- the lanes of a vector that was read
pub lanes_read : (size start n : ℕ) (bytes numbers : List ℕ) → AreUnits 0 size start n (slice_index bytes) numbers
    → AreUnits 0 size start n (byte_of_lane bytes) numbers
lanes_read size start n bytes numbers are first at l below =
    let is = are first at l below ∙ unit-byte (byte_of size numbers) (first + l) in
    mod-eq_of_lt (subst (λ (x : ℕ). x < 256) (sym is) (mod-lt _ (lit< tt))) ∙ are first at l below

-- those of one that was put
pub lanes_put : (size start n : ℕ) (bytes old new : List ℕ) → length bytes ≡ n → Each1 (Fits w8) bytes
    → ArePut 0 size start n (slice_index bytes) old new → ArePut 0 size start n (byte_of_lane bytes) old new
lanes_put size start n bytes old new long fit are =
    record {
      put = λ first at l below. lane-byte bytes l fit (omega (arith, long, below)) ∙ are.put first at l below;
      fit = are.fit;
      kept = are.kept;
    }

-- two vectors as one
pub joined_first : (x y : List ℕ) (n p : ℕ) → length x ≡ n → p < n → slice_index (x ++ y) p ≡ slice_index x p
joined_first x y n p long below = get_or_append_left x y 0 p (omega (arith, long, below))

pub joined_second : (x y : List ℕ) (n p : ℕ) → length x ≡ n → n ≤ p → slice_index (x ++ y) p ≡ slice_index y (p - n)
joined_second x y n p long past =
    let at : p ≡ length x + (p - n) = omega (arith, long, past) in
    ap (λ (q : ℕ). get_or (x ++ y) q 0) at ∙ get_or-append-add x y (p - n) 0

-- ---- vectors of which lanes are picked

picked : (xs places : List ℕ) (f : ℕ → ℕ) (l n : ℕ) → length places ≡ n → tabulates f places ≡ true → l < n
    → byte_of_lane (pick_l 0 xs places) l ≡ slice_index xs (f l) % 2 ^ 8
picked xs places f l n long table below =
    let inside : l < length places = omega (arith, long, below) in
    ap (λ (x : ℕ). x % 2 ^ 8)
    (get_or-map (λ (k : ℕ). get_or xs k 0) places l 0 0 inside
    ∙ ap (λ (k : ℕ). get_or xs k 0) (tabulates_at f places l table inside))

module _ (n : ℕ) (x y : List ℕ) (long : length x ≡ n) (even : n % 16 ≡ 0) (firsts seconds : List ℕ) (count : length firsts ≡ n)
    (also : length seconds ≡ n) where
  at_first : (l p : ℕ) → l ≡ p → p < n → slice_index (x ++ y) l % 2 ^ 8 ≡ byte_of_lane x p
  at_first l p is below = ap (λ (v : ℕ). v % 2 ^ 8) (ap (λ (q : ℕ). get_or (x ++ y) q 0) is ∙ joined_first x y n p long below)

  at_second : (l p : ℕ) → l ≡ n + p → slice_index (x ++ y) l % 2 ^ 8 ≡ byte_of_lane y p
  at_second l p is =
      let past : n ≤ l = omega (arith, is) in
      let place : l - n ≡ p = omega (arith, is) in
      ap (λ (v : ℕ). v % 2 ^ 8) (joined_second x y n l long past ∙ ap (λ (q : ℕ). get_or y q 0) place)

  -- the even lanes of two vectors, and the odd ones
  pub lanes_unwoven : tabulates (λ l. 2 * l) firsts ≡ true → tabulates (λ l. 2 * l + 1) seconds ≡ true
      → AreUnwoven n (byte_of_lane x) (byte_of_lane y) (byte_of_lane (pick_l 0 (x ++ y) firsts)) (byte_of_lane (pick_l 0 (x ++ y) seconds))
  lanes_unwoven evens odds =
      record {
        first_evens =
            λ l before.
            picked (x ++ y) firsts (λ l. 2 * l) l n count evens (omega (arith, before)) ∙ at_first (2 * l) (2 * l) refl before;
        first_odds =
            λ l before.
            picked (x ++ y) seconds (λ l. 2 * l + 1) l n also odds (omega (arith, before))
            ∙ at_first (2 * l + 1) (2 * l + 1) refl (omega (arith, before, even));
        second_evens =
            λ l below past.
            picked (x ++ y) firsts (λ l. 2 * l) l n count evens below ∙ at_second (2 * l) (2 * l - n) (omega (arith, past));
        second_odds =
            λ l below past.
            picked (x ++ y) seconds (λ l. 2 * l + 1) l n also odds below
            ∙ at_second (2 * l + 1) (2 * l + 1 - n) (omega (arith, past));
      }

  -- two vectors whose even lanes are those of one vector, and whose odd lanes those of another
  pub lanes_woven : tabulates (λ p. p / 2 + n * (p % 2)) firsts ≡ true → tabulates (λ p. n / 2 + p / 2 + n * (p % 2)) seconds ≡ true
      → AreUnwoven n (byte_of_lane (pick_l 0 (x ++ y) firsts)) (byte_of_lane (pick_l 0 (x ++ y) seconds)) (byte_of_lane x) (byte_of_lane y)
  lanes_woven lower upper =
      record {
        first_evens =
            λ l before.
            let half : 2 * l / 2 ≡ l = omega arith in
            let none : 2 * l % 2 ≡ 0 = omega arith in
            sym (picked (x ++ y) firsts (λ p. p / 2 + n * (p % 2)) (2 * l) n count lower before
            ∙ at_first (2 * l / 2 + n * (2 * l % 2)) l (ap₂ (λ (h r : ℕ). h + n * r) half none ∙ first l) (omega (arith, before)));
        first_odds =
            λ l before.
            let half : (2 * l + 1) / 2 ≡ l = omega arith in
            let one : (2 * l + 1) % 2 ≡ 1 = omega arith in
            sym (picked (x ++ y) firsts (λ p. p / 2 + n * (p % 2)) (2 * l + 1) n count lower (omega (arith, before, even))
            ∙ at_second ((2 * l + 1) / 2 + n * ((2 * l + 1) % 2)) l (ap₂ (λ (h r : ℕ). h + n * r) half one ∙ second l));
        second_evens =
            λ l below past.
            let half : n / 2 + (2 * l - n) / 2 ≡ l = omega (arith, past, even) in
            let none : (2 * l - n) % 2 ≡ 0 = omega (arith, past, even) in
            sym (picked (x ++ y) seconds (λ p. n / 2 + p / 2 + n * (p % 2)) (2 * l - n) n also upper (omega (arith, below, past))
            ∙ at_first (n / 2 + (2 * l - n) / 2 + n * ((2 * l - n) % 2)) l (ap₂ (λ (h r : ℕ). h + n * r) half none ∙ first l) below);
        second_odds =
            λ l below past.
            let half : n / 2 + (2 * l + 1 - n) / 2 ≡ l = omega (arith, past, even) in
            let one : (2 * l + 1 - n) % 2 ≡ 1 = omega (arith, past, even) in
            sym (picked (x ++ y) seconds (λ p. n / 2 + p / 2 + n * (p % 2)) (2 * l + 1 - n) n also upper (omega (arith, below, past, even))
            ∙ at_second (n / 2 + (2 * l + 1 - n) / 2 + n * ((2 * l + 1 - n) % 2)) l (ap₂ (λ (h r : ℕ). h + n * r) half one ∙ second l));
      }
    where
      first : (l : ℕ) → l + n * 0 ≡ l
      first l = omega arith

      second : (l : ℕ) → l + n * 1 ≡ n + l
      second l = omega arith
