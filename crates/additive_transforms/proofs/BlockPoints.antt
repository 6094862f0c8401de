-- The points behind whole blocks of 2 ^ k, and that points are elements.
use Rattle.std.proofs.Common.{◌≡◌, ◌⊎◌, inl, inr, ℕ, zero, suc, ◌+◌, ◌*◌, ◌^◌, ◌<◌, ◌≤◌, sym, ◌∙◌, ap, ap₂, subst, arith}
use Rattle.std.specs.Prelude.{bit_xor}
use Rattle.std.specs.Int.{bit_at}
use Rattle.std.proofs.lemmas.Bool.{cases_lt}
use Rattle.std.proofs.lemmas.Nat.{mod-mul-add, pow_pos, xor_lt}
use Rattle.std.proofs.lemmas.Nat.Bits.{bit_at-lt, bit_at-zero, bit_at_above, bit_at_cat_high}
use native.Mathlib.Nat.{one-mul, zero-mul}
use lib.Bits.{xor_assoc, xor_comm, xor_zero_r}
use Rattle.field_base.specs.Basis.{sum_below}
use Rattle.field_base.specs.lemmas.BitRing.{two_cases}
use Rattle.field_base.proofs.BasisSums.{bit_at-mod, sum_below-same}
use Rattle.ghash_slices.specs.Cantor.{point}
use Rattle.ghash_slices.proofs.StageSums.{sum_below-xor}

-- a low bit of a number is that of its remainder
pub low_bit : (k q p b : ℕ) → p < 2 ^ k → b < k → bit_at (q * 2 ^ k + p) b ≡ bit_at p b
low_bit k q p b below lower =
    sym (bit_at-mod (q * 2 ^ k + p) k b lower) ∙ ap (λ (x : ℕ). bit_at x b) (mod-mul-add q (2 ^ k) p below)

module _ (vector : ℕ → ℕ) (k q p : ℕ) (below : p < 2 ^ k) where
  -- the start of the block
  start : q * 2 ^ k ≡ q * 2 ^ k + 0
  start = omega arith

  -- bit b of q * 2 ^ k + p is that of q * 2 ^ k or of p
  term_joined : (b : ℕ) → bit_xor (bit_at (q * 2 ^ k) b * vector b) (bit_at p b * vector b) ≡ bit_at (q * 2 ^ k + p) b * vector b
  term_joined b = pick (cases_lt b k)
    where
      pick : (b < k) ⊎ (k ≤ b) → bit_xor (bit_at (q * 2 ^ k) b * vector b) (bit_at p b * vector b) ≡ bit_at (q * 2 ^ k + p) b * vector b
      pick (inl lower) =
          ap (λ (d : ℕ). bit_xor (d * vector b) (bit_at p b * vector b))
          (ap (λ (x : ℕ). bit_at x b) start ∙ low_bit k q 0 b (pow_pos k) lower ∙ bit_at-zero b)
          ∙ ap (λ (v : ℕ). bit_xor v (bit_at p b * vector b)) (zero-mul (vector b))
          ∙ xor_comm 0 (bit_at p b * vector b) ∙ xor_zero_r (bit_at p b * vector b)
          ∙ ap (λ (d : ℕ). d * vector b) (sym (low_bit k q p b below lower))
      pick (inr higher) =
          ap₂ bit_xor
          (ap (λ (d : ℕ). d * vector b)
          (ap (λ (x : ℕ). bit_at x b) start ∙ bit_at_cat_high q k 0 b (pow_pos k) higher ∙ sym (bit_at_cat_high q k p b below higher)))
          (ap (λ (d : ℕ). d * vector b) (bit_at_above p k b below higher) ∙ zero-mul (vector b))
          ∙ xor_zero_r (bit_at (q * 2 ^ k + p) b * vector b)

  -- point q * 2 ^ k + p is point p of the transform whose shift is point q * 2 ^ k
  pub point-joined : (count z : ℕ) → point count vector (point count vector z (q * 2 ^ k)) p ≡ point count vector z (q * 2 ^ k + p)
  unfolding point
  point-joined count z =
      xor_assoc z (sum_below (λ b. bit_at (q * 2 ^ k) b * vector b) count) (sum_below (λ b. bit_at p b * vector b) count)
      ∙ ap (bit_xor z)
      (sum_below-xor (λ b. bit_at (q * 2 ^ k) b * vector b) (λ b. bit_at p b * vector b) count
      ∙ sum_below-same (λ b. bit_xor (bit_at (q * 2 ^ k) b * vector b) (bit_at p b * vector b)) (λ b. bit_at (q * 2 ^ k + p) b * vector b) count
      (λ b within. term_joined b))

-- ---- points are elements

module _ (width : ℕ) (vector : ℕ → ℕ) (vector-lt : (b : ℕ) → b < width → vector b < 2 ^ width) where
  -- sums of vectors are elements
  sum-lt : (p n : ℕ) → n ≤ width → sum_below (λ b. bit_at p b * vector b) n < 2 ^ width
  unfolding sum_below
  sum-lt p zero few = pow_pos width
  sum-lt p (suc n) few =
      xor_lt width (sum_below (λ b. bit_at p b * vector b) n) (bit_at p n * vector n) (sum-lt p n (omega (arith, few)))
      (two_cases (λ d. d * vector n < 2 ^ width) (subst (λ (m : ℕ). m < 2 ^ width) (sym (zero-mul (vector n))) (pow_pos width))
      (subst (λ (m : ℕ). m < 2 ^ width) (sym (one-mul (vector n))) (vector-lt n (omega (arith, few)))) (bit_at p n) (bit_at-lt p n))

  -- and points
  pub point-lt : (p : ℕ) → point width vector 0 p < 2 ^ width
  unfolding point
  point-lt p =
      let all : width ≤ width = omega arith in
      xor_lt width 0 (sum_below (λ b. bit_at p b * vector b) width) (pow_pos width) (sum-lt p width all)
