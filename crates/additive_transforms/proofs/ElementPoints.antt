-- A point, bit by bit of its number.
use Rattle.std.proofs.Common.{◌≡◌, ℕ, suc, ◌+◌, ◌*◌, ◌/◌, ◌%◌, ◌^◌, sym, ◌∙◌, ap, arith}
use Rattle.std.specs.Int.{bit_at}
use Rattle.std.specs.Prelude.{bit_xor}
use native.Mathlib.Nat.{one-mul, zero-mul}
use native.Mathlib.Numerals.{add-one}
use lib.Bits.{xor_assoc, xor_zero_r}
use Rattle.field_base.specs.Basis.{sum_below}
use Rattle.ghash_slices.specs.Cantor.{point}
use Rattle.ghash_slices.proofs.Places.{next_quotient}

-- half of what is left of a number
pub halved : (p rest n : ℕ) → rest ≡ p / 2 ^ n → rest / 2 ≡ p / 2 ^ (n + 1)
halved p rest n left =
    let after : suc n ≡ n + 1 = omega arith in
    ap (λ (r : ℕ). r / 2) left ∙ sym (next_quotient p n) ∙ ap (λ (k : ℕ). p / 2 ^ k) after

module _ (vector : ℕ → ℕ) (z p : ℕ) where
  -- before the first bit there is the shift
  pub point_starts : z ≡ bit_xor z (sum_below (λ b. bit_at p b * vector b) 0)
  unfolding sum_below
  point_starts = sym (xor_zero_r z)

  -- one bit more
  one_more : (n : ℕ) → bit_xor z (sum_below (λ b. bit_at p b * vector b) (n + 1))
      ≡ bit_xor (bit_xor z (sum_below (λ b. bit_at p b * vector b) n)) (bit_at p n * vector n)
  unfolding sum_below
  one_more n =
      ap (λ (m : ℕ). bit_xor z (sum_below (λ b. bit_at p b * vector b) m)) (add-one n)
      ∙ sym (xor_assoc z (sum_below (λ b. bit_at p b * vector b) n) (bit_at p n * vector n))

  module _ (n rest sum : ℕ) (left : rest ≡ p / 2 ^ n) (so_far : sum ≡ bit_xor z (sum_below (λ b. bit_at p b * vector b) n)) where
    -- a set bit adds its vector
    pub bit_adds : (next added : ℕ) → rest % 2 ≡ 1 → next ≡ bit_xor sum added → added ≡ vector n
        → next ≡ bit_xor z (sum_below (λ b. bit_at p b * vector b) (n + 1))
    bit_adds next added set is vector_is =
        is ∙ ap (λ (s : ℕ). bit_xor s added) so_far
        ∙ ap (bit_xor (bit_xor z (sum_below (λ b. bit_at p b * vector b) n)))
        (vector_is
        ∙ sym (ap (λ (d : ℕ). d * vector n) (sym (ap (λ (r : ℕ). r % 2) left) ∙ set) ∙ one-mul (vector n)))
        ∙ sym (one_more n)

    -- and another nothing
    pub bit_passes : rest % 2 ≡ 0 → sum ≡ bit_xor z (sum_below (λ b. bit_at p b * vector b) (n + 1))
    bit_passes clear =
        so_far
        ∙ sym (one_more n
        ∙ ap (bit_xor (bit_xor z (sum_below (λ b. bit_at p b * vector b) n)))
        (ap (λ (d : ℕ). d * vector n) (sym (ap (λ (r : ℕ). r % 2) left) ∙ clear) ∙ zero-mul (vector n))
        ∙ xor_zero_r _)

  -- after all bits of the field there is the point
  pub point_ends : (width n sum : ℕ) → n ≡ width → sum ≡ bit_xor z (sum_below (λ b. bit_at p b * vector b) n)
      → sum ≡ point width vector z p
  unfolding point
  point_ends width n sum all so_far = so_far ∙ ap (λ (m : ℕ). bit_xor z (sum_below (λ b. bit_at p b * vector b) m)) all
