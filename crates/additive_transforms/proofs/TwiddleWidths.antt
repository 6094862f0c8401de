-- The twiddles of a stage lie in the subfield that the vectors span which they are sums of.
use Rattle.std.proofs.Common.{◌≡◌, ◌⊎◌, inl, inr, ℕ, zero, suc, ◌+◌, ◌-◌, ◌*◌, ◌^◌, ◌<◌, ◌≤◌, sym, ◌∙◌, ap, subst, arith}
use Rattle.std.specs.Prelude.{bit_xor}
use Rattle.std.specs.Int.{bit_at}
use Rattle.std.proofs.lemmas.Bool.{cases_lt}
use Rattle.std.proofs.lemmas.Nat.{pow_pos, xor_lt}
use Rattle.std.proofs.lemmas.Nat.Bits.{bit_at-lt, bit_at_above}
use native.Mathlib.Nat.{one-mul, zero-mul}
use lib.Bits.{xor_comm, xor_zero_r}
use Rattle.field_base.specs.Basis.{sum_below}
use Rattle.field_base.specs.lemmas.BitRing.{two_cases}
use Rattle.field_base.specs.Orders.{AreCantorVectors}
use Rattle.field_base.specs.Ring.{IsRing}
use Rattle.field_base.proofs.AdditiveMaps.{keeps_zero}
use Rattle.ghash_slices.specs.Cantor.{SubspaceValues, point, subspace_value}
use Rattle.ghash_slices.proofs.CantorValues.{cantor_vectors_step_down, sum_below-image}
use Rattle.additive_transforms.specs.Subfields.{TwiddlesLieInSubfield}

sum_below-lt : (size : ℕ) (f : ℕ → ℕ) (n : ℕ) → ((k : ℕ) → k < n → f k < 2 ^ size) → sum_below f n < 2 ^ size
unfolding sum_below
sum_below-lt size f zero small = pow_pos size
sum_below-lt size f (suc n) small =
    xor_lt size (sum_below f n) (f n) (sum_below-lt size f n (λ k below. small k (omega arith))) (small n (omega arith))

module _ (width : ℕ) (times : ℕ → ℕ → ℕ) (vector : ℕ → ℕ) (wide : 0 < width) (ring : IsRing width 1 times)
    (vectors : AreCantorVectors width times vector) (n size : ℕ) (small : (i : ℕ) → i < n → vector i < 2 ^ size) where
  values : SubspaceValues width times vector
  values = cantor_vectors_step_down width times vector wide ring vectors

  lies : (j c p : ℕ) → c ≤ j + n → c ≤ width → p < 2 ^ c → subspace_value times j (point width vector 0 p) < 2 ^ size
  unfolding point
  lies j c p most within fits =
      subst (λ (x : ℕ). x < 2 ^ size) (sym value)
      (sum_below-lt size (λ b. subspace_value times j (bit_at p b * vector b)) width (λ b below. each b below (cases_lt b c) (cases_lt b j)))
    where
      value : subspace_value times j (bit_xor 0 (sum_below (λ b. bit_at p b * vector b) width))
          ≡ sum_below (λ b. subspace_value times j (bit_at p b * vector b)) width
      value =
          ap (subspace_value times j)
          (xor_comm 0 (sum_below (λ b. bit_at p b * vector b) width) ∙ xor_zero_r (sum_below (λ b. bit_at p b * vector b) width))
          ∙ sum_below-image (subspace_value times j) (values.of_sum j) (λ b. bit_at p b * vector b) width

      of_none : (v : ℕ) → subspace_value times j (0 * v) ≡ 0
      of_none v = ap (subspace_value times j) (zero-mul v) ∙ keeps_zero (subspace_value times j) (values.of_sum j)

      none_lies : (x : ℕ) → x ≡ 0 → x < 2 ^ size
      none_lies x is = subst (λ (y : ℕ). y < 2 ^ size) (sym is) (pow_pos size)

      one_lies : (b : ℕ) → b < width → b < c → (b < j) ⊎ (j ≤ b) → subspace_value times j (1 * vector b) < 2 ^ size
      one_lies b below inside (inl lower) =
          none_lies (subspace_value times j (1 * vector b)) (ap (subspace_value times j) (one-mul (vector b)) ∙ values.of_lower_vector j b lower below)
      one_lies b below inside (inr past) =
          let near : b - j < n = omega (arith, past, inside, most) in
          subst (λ (y : ℕ). y < 2 ^ size) (sym (ap (subspace_value times j) (one-mul (vector b)) ∙ values.of_vector j b past below)) (small (b - j) near)

      each : (b : ℕ) → b < width → (b < c) ⊎ (c ≤ b) → (b < j) ⊎ (j ≤ b) → subspace_value times j (bit_at p b * vector b) < 2 ^ size
      each b below (inl inside) side =
          two_cases (λ d. subspace_value times j (d * vector b) < 2 ^ size) (none_lies (subspace_value times j (0 * vector b)) (of_none (vector b)))
          (one_lies b below inside side) (bit_at p b) (bit_at-lt p b)
      each b below (inr outside) side =
          none_lies (subspace_value times j (bit_at p b * vector b))
          (ap (λ (d : ℕ). subspace_value times j (d * vector b)) (bit_at_above p c b fits outside) ∙ of_none (vector b))

pub twiddles_lie_in_subfield : TwiddlesLieInSubfield
twiddles_lie_in_subfield width times vector wide ring vectors n size small = lies width times vector wide ring vectors n size small
