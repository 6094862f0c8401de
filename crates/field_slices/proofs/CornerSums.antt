-- Sums over the corners of the cube, by the halves where the first coordinate is 0 and 1.
use Rattle.std.proofs.Common.{◌≡◌, ℕ, zero, suc, ◌+◌, ◌-◌, ◌*◌, ◌%◌, ◌^◌, ◌<◌, ◌≤◌, List, [], ◌∷◌, length, refl, sym, ◌∙◌, ap, ap₂, arith}
use Rattle.std.specs.Prelude.{bit_xor}
use Rattle.std.specs.Int.{bit_at}
use Rattle.std.proofs.Math.Nat.{two-pow-succ, mod-eq_of_lt}
use Rattle.std.proofs.lemmas.Nat.{xor_comm, xor_lt, pow_pos}
use Rattle.std.proofs.lemmas.Nat.Bits.{bit_at_above, bit_at_cat_high, bit_at_cat_low}
use lib.Bits.{xor_assoc, xor_zero_r}
use Rattle.field_base.specs.Basis.{sum_below}
use Rattle.field_base.specs.Ring.{IsRing}
use Rattle.field_base.proofs.BasisSums.{sum_below-add, sum_below-same, sum_below_times}
use Rattle.field_base.proofs.RingLemmas.{xor_left_comm, sum_times, times-zero, mod-times}
use Rattle.field_slices.specs.Multilinear.{eq_coordinate, eq_corner, on_line}

-- ---- bits of corners

-- below bit m, i and 2 ^ m + i have the same bits
pub upper-bits : (m i j : ℕ) → j < m → bit_at (2 ^ m + i) j ≡ bit_at i j
upper-bits m i j below =
    let once : 2 ^ m + i ≡ 1 * 2 ^ m + i = omega arith in ap (λ (n : ℕ). bit_at n j) once ∙ bit_at_cat_low 1 m i j below

-- bit m is 0 of the first, and 1 of the second
pub first_bit-lower : (m i : ℕ) → i < 2 ^ m → bit_at i m ≡ 0
first_bit-lower m i below = bit_at_above i m m below (omega arith)

pub first_bit-upper : (m i : ℕ) → i < 2 ^ m → bit_at (2 ^ m + i) m ≡ 1
first_bit-upper m i below =
    let none : m - m ≡ 0 = omega arith in
    let once : 2 ^ m + i ≡ 1 * 2 ^ m + i = omega arith in
    ap (λ (n : ℕ). bit_at n m) once ∙ bit_at_cat_high 1 m i m below (omega arith) ∙ ap (bit_at 1) none

module _ (width : ℕ) (times : ℕ → ℕ → ℕ) (ring : IsRing width 1 times) where
  -- eq with the bits 0 and 1, as a factor
  pub eq-zero : (x e : ℕ) → times (eq_coordinate times x 0) e ≡ times (bit_xor 1 x) e
  eq-zero x e =
      ap (λ (z : ℕ). times z e)
      (ap₂ bit_xor (times-zero width 1 times ring x) (ring.comm (bit_xor 1 x) 1 ∙ ring.one (bit_xor 1 x)) ∙ xor_comm 0 (bit_xor 1 x % 2 ^ width)
      ∙ xor_zero_r (bit_xor 1 x % 2 ^ width))
      ∙ mod-times width 1 times ring (bit_xor 1 x) e

  pub eq-one : (x e : ℕ) → times (eq_coordinate times x 1) e ≡ times x e
  eq-one x e =
      ap (λ (z : ℕ). times z e)
      (ap₂ bit_xor (ring.comm x 1 ∙ ring.one x) (times-zero width 1 times ring (bit_xor 1 x)) ∙ xor_zero_r (x % 2 ^ width))
      ∙ mod-times width 1 times ring x e

  -- the corners of the upper half have the same other coordinates
  eq-upper : (xs : List ℕ) (m i : ℕ) → length xs ≤ m → eq_corner times xs (2 ^ m + i) ≡ eq_corner times xs i
  unfolding eq_corner
  eq-upper [] m i fits = refl
  eq-upper (x ∷ xs) m i fits =
      ap₂ (λ (b e : ℕ). times (eq_coordinate times x b) e) (upper-bits m i (length xs) (omega arith)) (eq-upper xs m i (omega arith))

  -- eq at a corner of the lower half and of the upper, by eq of the other coordinates
  pub eq_corner-lower : (r : ℕ) (rs : List ℕ) (i : ℕ) → i < 2 ^ length rs
      → eq_corner times (r ∷ rs) i ≡ times (bit_xor 1 r) (eq_corner times rs i)
  unfolding eq_corner
  eq_corner-lower r rs i below =
      ap (λ (b : ℕ). times (eq_coordinate times r b) (eq_corner times rs i)) (first_bit-lower (length rs) i below)
      ∙ eq-zero r (eq_corner times rs i)

  pub eq_corner-upper : (r : ℕ) (rs : List ℕ) (i : ℕ) → i < 2 ^ length rs
      → eq_corner times (r ∷ rs) (2 ^ length rs + i) ≡ times r (eq_corner times rs i)
  unfolding eq_corner
  eq_corner-upper r rs i below =
      ap₂ (λ (b e : ℕ). times (eq_coordinate times r b) e) (first_bit-upper (length rs) i below) (eq-upper rs (length rs) i (omega arith))
      ∙ eq-one r (eq_corner times rs i)

  -- ---- sums of values times weights

  -- the sum of the values times the weights
  abbrev pub weighted : (ℕ → ℕ) → (ℕ → ℕ) → ℕ → ℕ
  weighted value weight n = sum_below (λ i. times (value i) (weight i)) n

  pub weighted-lt : (value weight : ℕ → ℕ) (n : ℕ) → weighted value weight n < 2 ^ width
  unfolding sum_below
  weighted-lt value weight zero = pow_pos width
  weighted-lt value weight (suc n) =
      xor_lt width (weighted value weight n) (times (value n) (weight n)) (weighted-lt value weight n) (ring.below (value n) (weight n))

  -- weights times a scalar
  pub weighted-scaled : (value weight : ℕ → ℕ) (s n : ℕ) → weighted value (λ i. times s (weight i)) n ≡ times s (weighted value weight n)
  weighted-scaled value weight s n =
      sum_below-same (λ i. times (value i) (times s (weight i))) (λ i. times (times (value i) (weight i)) s) n
      (λ i below. sym (ring.assoc (value i) (weight i) s ∙ ap (times (value i)) (ring.comm (weight i) s)))
      ∙ sum_below_times width 1 times ring (λ i. times (value i) (weight i)) s n
      ∙ ring.comm (weighted value weight n) s

  -- (1 + r) V + r W is on the line through V and W
  pub line-weights : (r v w : ℕ) → v < 2 ^ width → bit_xor (times (bit_xor 1 r) v) (times r w) ≡ on_line times r v w
  line-weights r v w fits =
      ap (λ (z : ℕ). bit_xor z (times r w)) (sum_times width 1 times ring 1 r v ∙ ap (λ (z : ℕ). bit_xor z (times r v)) (ring.one v ∙ mod-eq_of_lt fits))
      ∙ xor_assoc v (times r v) (times r w) ∙ ap (bit_xor v) (sym (ring.over_sum r v w))

  -- one term more on each side
  line-more : (r v w a b e : ℕ)
      → bit_xor (on_line times r v w) (times (on_line times r a b) e) ≡ on_line times r (bit_xor v (times a e)) (bit_xor w (times b e))
  line-more r v w a b e =
      ap (bit_xor (on_line times r v w))
      (sum_times width 1 times ring a (times r (bit_xor a b)) e
      ∙ ap (bit_xor (times a e)) (ring.assoc r (bit_xor a b) e ∙ ap (times r) (sum_times width 1 times ring a b e)))
      ∙ regroup v (times r (bit_xor v w)) (times a e) (times r (bit_xor (times a e) (times b e)))
      ∙ ap (bit_xor (bit_xor v (times a e)))
      (sym (ring.over_sum r (bit_xor v w) (bit_xor (times a e) (times b e)))
      ∙ ap (times r) (regroup v w (times a e) (times b e)))
    where
      regroup : (a b c d : ℕ) → bit_xor (bit_xor a b) (bit_xor c d) ≡ bit_xor (bit_xor a c) (bit_xor b d)
      regroup a b c d = xor_assoc a b (bit_xor c d) ∙ ap (bit_xor a) (xor_left_comm b c d) ∙ sym (xor_assoc a c (bit_xor b d))

  -- the sum of values that are on lines is on the line through the sums
  pub weighted-line : (r : ℕ) (lower upper weight : ℕ → ℕ) (n : ℕ)
      → weighted (λ i. on_line times r (lower i) (upper i)) weight n ≡ on_line times r (weighted lower weight n) (weighted upper weight n)
  unfolding sum_below
  weighted-line r lower upper weight zero = sym (times-zero width 1 times ring r)
  weighted-line r lower upper weight (suc n) =
      ap (λ (z : ℕ). bit_xor z (times (on_line times r (lower n) (upper n)) (weight n))) (weighted-line r lower upper weight n)
      ∙ line-more r (weighted lower weight n) (weighted upper weight n) (lower n) (upper n) (weight n)

  -- the sum over all corners, by both halves
  pub corners-line : (value : ℕ → ℕ) (r : ℕ) (rs : List ℕ)
      → weighted value (eq_corner times (r ∷ rs)) (2 ^ suc (length rs))
      ≡ on_line times r (weighted value (eq_corner times rs) (2 ^ length rs))
      (weighted (λ i. value (2 ^ length rs + i)) (eq_corner times rs) (2 ^ length rs))
  corners-line value r rs =
      ap (weighted value (eq_corner times (r ∷ rs))) (let twice = two-pow-succ (length rs) in omega (arith, twice))
      ∙ sum_below-add (λ i. times (value i) (eq_corner times (r ∷ rs) i)) (2 ^ length rs) (2 ^ length rs)
      ∙ ap₂ bit_xor
      (sum_below-same (λ i. times (value i) (eq_corner times (r ∷ rs) i)) (λ i. times (value i) (times (bit_xor 1 r) (eq_corner times rs i)))
      (2 ^ length rs) (λ i below. ap (times (value i)) (eq_corner-lower r rs i below))
      ∙ weighted-scaled value (eq_corner times rs) (bit_xor 1 r) (2 ^ length rs))
      (sum_below-same (λ i. times (value (2 ^ length rs + i)) (eq_corner times (r ∷ rs) (2 ^ length rs + i)))
      (λ i. times (value (2 ^ length rs + i)) (times r (eq_corner times rs i))) (2 ^ length rs)
      (λ i below. ap (times (value (2 ^ length rs + i))) (eq_corner-upper r rs i below))
      ∙ weighted-scaled (λ i. value (2 ^ length rs + i)) (eq_corner times rs) r (2 ^ length rs))
      ∙ line-weights r (weighted value (eq_corner times rs) (2 ^ length rs))
      (weighted (λ i. value (2 ^ length rs + i)) (eq_corner times rs) (2 ^ length rs))
      (weighted-lt value (eq_corner times rs) (2 ^ length rs))
