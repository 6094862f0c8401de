-- The line lemma: of two matrices that are not near a code together, few combinations are near it.
use Rattle.std.proofs.Common.{◌≡◌, ℕ, ◌+◌, ◌^◌, ◌<◌, Bool, false, refl, sym, ◌∙◌, ap, ap₂, arith}
use Rattle.std.specs.Prelude.{◌||◌, bit_xor, min}
use Rattle.std.proofs.lemmas.Nat.{xor_lt}
use native.Mathlib.Nat.{mod-eq_of_lt}
use lib.Bits.{xor_assoc}
use Rattle.field_base.specs.Field.{IsField}
use Rattle.field_base.proofs.RingLemmas.{sum_times, xor_cancel, xor_nothing}
use Rattle.field_base.specs.PolynomialRoots.{AreDistinctBelow}
use Rattle.field_slices.specs.Codes.{AgreeUnmarked, AreNearTogether, HasDistance, HaveSymbols, IsNear, IsWordOf, LinesAreNear, on_affine}
use Rattle.field_slices.specs.Marks.{marked_below}
use Rattle.field_slices.proofs.Counting.{few-places, nearly_all, none-of-three, not-nearly-all, three-marks}
use Rattle.field_slices.proofs.Words.{two-points, word-affine, word-fits, word-multiple, word-sum, xor-twice}

-- ---- numbers to e + 1

module _ (e : ℕ) where
  pub clamped : ℕ → ℕ
  clamped j = min j (e + 1)

  pub clamped-lt : (j : ℕ) → clamped j < e + 2
  unfolding clamped
  clamped-lt j = omega arith

  pub clamped-same : (j : ℕ) → j < e + 2 → clamped j ≡ j
  unfolding clamped
  clamped-same j below = omega arith

-- ---- the line through two matrices near the code

module _ (width : ℕ) (times : ℕ → ℕ → ℕ) (wide : 0 < width) (field : IsField width times) (size n d : ℕ) (generator : ℕ → ℕ → ℕ)
    (distance : HasDistance times size n generator d) (e height : ℕ) (u v : ℕ → ℕ → ℕ) (v_fits : HaveSymbols width n height v)
    (x y : ℕ) (x_fits : x < 2 ^ width) (y_fits : y < 2 ^ width) (apart : x ≡ y → ⊥)
    (first : IsNear times size n generator e height (on_affine times u v x))
    (second : IsNear times size n generator e height (on_affine times u v y)) where
  inverse : (i : ℕ) × (i < 2 ^ width) × (times (bit_xor x y) i ≡ 1)
  inverse = field.inverses (bit_xor x y) (xor_lt width x y x_fits y_fits) (λ e. apart (xor_nothing x y e))

  -- one + z other is the first at x, and the second at y
  pub other : ℕ → ℕ → ℕ
  other i p = times inverse.0 (bit_xor (first.matrix i p) (second.matrix i p))

  pub one : ℕ → ℕ → ℕ
  one i p = bit_xor (first.matrix i p) (times x (times inverse.0 (bit_xor (first.matrix i p) (second.matrix i p))))

  pub other-rows : (i : ℕ) → i < height → IsWordOf times size n generator (other i)
  unfolding other
  other-rows i below =
      word-multiple width times wide field.ring size n generator inverse.0 (λ p. bit_xor (first.matrix i p) (second.matrix i p))
      (word-sum width times wide field.ring size n generator (first.matrix i) (second.matrix i) (first.rows i below) (second.rows i below))

  pub one-rows : (i : ℕ) → i < height → IsWordOf times size n generator (one i)
  unfolding one other
  one-rows i below =
      word-affine width times wide field.ring size n generator x (first.matrix i) (other i) (first.rows i below) (other-rows i below)

  pub on_line : ℕ → ℕ → ℕ → ℕ
  on_line z i p = bit_xor (one i p) (times z (other i p))

  on-line-rows : (z i : ℕ) → i < height → IsWordOf times size n generator (on_line z i)
  unfolding on_line
  on-line-rows z i below =
      word-affine width times wide field.ring size n generator z (one i) (other i) (one-rows i below) (other-rows i below)

  at-first : (i p : ℕ) → on_line x i p ≡ first.matrix i p
  unfolding on_line one other
  at-first i p = xor-twice width times wide field (first.matrix i p) (times x (other i p))

  at-second : (i p : ℕ) → i < height → p < n → on_line y i p ≡ second.matrix i p
  unfolding on_line one other
  at-second i p below inside =
      xor_assoc a (times x (other i p)) (times y (other i p))
      ∙ ap (bit_xor a)
      (sym (sum_times width 1 times field.ring x y (other i p))
      ∙ sym (field.ring.assoc (bit_xor x y) inverse.0 (bit_xor a b))
      ∙ ap (λ (s : ℕ). times s (bit_xor a b)) inverse.2
      ∙ field.ring.one (bit_xor a b) ∙ mod-eq_of_lt (xor_lt width a b a_fits b_fits))
      ∙ xor_cancel a b
    where
      a : ℕ
      a = first.matrix i p

      b : ℕ
      b = second.matrix i p

      a_fits : first.matrix i p < 2 ^ width
      a_fits = word-fits width times wide field.ring size n generator (first.matrix i) (first.rows i below) p inside

      b_fits : second.matrix i p < 2 ^ width
      b_fits = word-fits width times wide field.ring size n generator (second.matrix i) (second.rows i below) p inside

  other-fits : (i p : ℕ) → other i p < 2 ^ width
  unfolding other
  other-fits i p = field.ring.below inverse.0 (bit_xor (first.matrix i p) (second.matrix i p))

  -- where two matrices that are on that line at place p are not marked there, it is the line of u and v
  same-line : (z w i p : ℕ) → z < 2 ^ width → w < 2 ^ width → (z ≡ w → ⊥) → i < height → p < n
      → on_affine times u v z i p ≡ on_line z i p → on_affine times u v w i p ≡ on_line w i p
      → (u i p ≡ one i p) × (v i p ≡ other i p)
  unfolding on_line
  same-line z w i p z_fits w_fits differ below inside z_on w_on =
      two-points width times wide field z w (u i p) (v i p) (one i p) (other i p) z_fits w_fits differ (v_fits i p below inside)
      (other-fits i p) z_on w_on

  -- the places that the first, the second or a third marks
  abbrev pub any_of : (z : ℕ) → IsNear times size n generator e height (on_affine times u v z) → ℕ → Bool
  any_of z third p = first.marked p || second.marked p || third.marked p

  -- a third matrix is on it, where these are fewer than the distance
  on-it : (z : ℕ) (third : IsNear times size n generator e height (on_affine times u v z)) → marked_below (any_of z third) n < d
      → (i p : ℕ) → i < height → p < n → third.matrix i p ≡ on_line z i p
  unfolding on_line
  on-it z third fewer i p below inside =
      distance (third.matrix i) (on_line z i) (third.rows i below) (on-line-rows z i below) (any_of z third) fewer agree p inside
    where
      agree : AgreeUnmarked n (any_of z third) (third.matrix i) (on_line z i)
      agree p inside unmarked =
          let each = none-of-three (first.marked p) (second.marked p) (third.marked p) unmarked in
          let same = same-line x y i p x_fits y_fits apart below inside
          (first.same i below p inside each.0 ∙ sym (at-first i p)) (second.same i below p inside each.1 ∙ sym (at-second i p below inside)) in
          sym (third.same i below p inside each.2) ∙ ap₂ (λ (a b : ℕ). bit_xor a (times z b)) same.0 same.1

  -- so where that holds of e + 2 matrices
  pub near-together : (z : ℕ → ℕ) → AreDistinctBelow (e + 2) (2 ^ width) z
      → (near : (j : ℕ) → IsNear times size n generator e height (on_affine times u v (z (clamped e j))))
      → ((j : ℕ) → j < e + 2 → marked_below (any_of (z (clamped e j)) (near j)) n < d)
      → AreNearTogether times size n generator e height u v
  near-together z distinct near fewer = record {
    one = one;
    other = other;
    one_rows = one-rows;
    other_rows = other-rows;
    marked = nearly_all e (e + 2) n (λ j. (near j).marked);
    few = few-places e (e + 2) n (λ j. (near j).marked) refl (λ j below. (near j).few);
    one_same = λ i below p inside unmarked. (both i below p inside unmarked).0;
    other_same = λ i below p inside unmarked. (both i below p inside unmarked).1;
  }
    where
      on : (j : ℕ) → j < e + 2 → (i p : ℕ) → i < height → p < n → (near j).marked p ≡ false
          → on_affine times u v (z (clamped e j)) i p ≡ on_line (z (clamped e j)) i p
      on j within i p below inside unmarked = (near j).same i below p inside unmarked ∙ on-it (z (clamped e j)) (near j) (fewer j within) i p below inside

      both : (i : ℕ) → i < height → (p : ℕ) → p < n → nearly_all e (e + 2) n (λ j. (near j).marked) p ≡ false
          → (u i p ≡ one i p) × (v i p ≡ other i p)
      both i below p inside unmarked =
          let two = not-nearly-all e (e + 2) n (λ j. (near j).marked) p unmarked in
          let j_within : two.0 < e + 2 = omega (arith, two.2, two.3) in
          let differ : z (clamped e two.0) ≡ z (clamped e two.1) → ⊥ =
          λ same.
          let is = distinct.differ (clamped e two.0) (clamped e two.1) (clamped-lt e two.0) (clamped-lt e two.1) same in
          let a = clamped-same e two.0 j_within in
          let b = clamped-same e two.1 two.3 in
          let less = two.2 in
          absurd (omega (arith, is, a, b, less)) in
          same-line (z (clamped e two.0)) (z (clamped e two.1)) i p (distinct.below (clamped e two.0) (clamped-lt e two.0))
          (distinct.below (clamped e two.1) (clamped-lt e two.1)) differ below inside
          (on two.0 j_within i p below inside two.4) (on two.1 two.3 i p below inside two.5)

pub lines_are_near : LinesAreNear
lines_are_near width times size n d generator wide field distance e few height u v v_fits m x distinct many near =
    near-together width times wide field size n d generator distance e height u v v_fits (x 0) (x 1) (distinct.below 0 (omega (arith, many)))
    (distinct.below 1 (omega (arith, many)))
    (λ same. let is = distinct.differ 0 1 (omega (arith, many)) (omega (arith, many)) same in absurd (omega (arith, is)))
    first second x
    (record {
      below = λ j below. distinct.below j (omega (arith, below, many));
      differ = λ i j i_below j_below. distinct.differ i j (omega (arith, i_below, many)) (omega (arith, j_below, many));
    })
    third fewer
  where
    first : IsNear times size n generator e height (on_affine times u v (x 0))
    first = near 0 (omega (arith, many))

    second : IsNear times size n generator e height (on_affine times u v (x 1))
    second = near 1 (omega (arith, many))

    third : (j : ℕ) → IsNear times size n generator e height (on_affine times u v (x (clamped e j)))
    third j = let within = clamped-lt e j in near (clamped e j) (omega (arith, within, many))

    fewer : (j : ℕ) → j < e + 2 → marked_below (λ p. first.marked p || second.marked p || (third j).marked p) n < d
    fewer j below =
        let three = three-marks first.marked second.marked (third j).marked n in
        let a = first.few in
        let b = second.few in
        let c = (third j).few in
        omega (arith, three, a, b, c, few)
