-- The twiddle of the next block, by the carry of its number.
use Rattle.std.proofs.Common.{◌≡◌, ◌⊎◌, inl, inr, ℕ, suc, ◌+◌, ◌-◌, ◌*◌, ◌/◌, ◌%◌, ◌^◌, ◌<◌, ◌≤◌, List, length, sym, ◌∙◌, ap, arith, lit<}
use Rattle.std.specs.Int.Bits.{xor_shifted}
use Rattle.std.specs.Prelude.{bit_xor, slice_index}
use Rattle.std.proofs.Math.Nat.{mul-le-mul_right, pow-le-pow_right, two-pow-succ}
use Rattle.std.proofs.lemmas.Bool.{cases_lt}
use native.Mathlib.Nat.{one-mul}
use lib.Bits.{xor_assoc, xor_self, xor_zero_r}
use Rattle.field_base.specs.LinearMaps.{linear_image}
use Rattle.field_base.proofs.CarrylessProduct.{xor_shl}
use Rattle.field_base.proofs.BasisColumns.{sum_of_columns-nothing}
use Rattle.field_base.proofs.LinearMapLemmas.{linear_image-columns, the_linear_map}
use Rattle.additive_transforms.specs.Elements.{twiddle_basis}
use Rattle.additive_transforms.proofs.ElementStages.{basis_at, basis_length}

-- ---- how far a carry goes

-- where (rest + 1) 2 ^ e is below 2 ^ n, e is below n
pub carry_below : (rest e next n : ℕ) → (rest + 1) * 2 ^ e ≡ next → next < 2 ^ n → e < n
carry_below rest e next n is below = pick (cases_lt e n)
  where
    pick : (e < n) ⊎ (n ≤ e) → e < n
    pick (inl less) = less
    pick (inr past) =
        let more : 2 ^ n ≤ 2 ^ e = pow-le-pow_right (lit< tt) past in
        let one : 1 ≤ rest + 1 = omega arith in
        let part : 1 * 2 ^ e ≤ (rest + 1) * 2 ^ e = mul-le-mul_right (2 ^ e) one in
        absurd (omega (arith, more, part, is, below))

-- a number of 64 bits has fewer than 65 digits
pub carry_short : (rest e next : ℕ) → (rest + 1) * 2 ^ e ≡ next → next ≤ 2 ^ 64 → e < 65
carry_short rest e next is fits =
    let more : 2 ^ 64 < 2 ^ 65 = lit< tt in
    carry_below rest e next 65 is (omega (arith, fits, more))

-- one digit further
pub carry_on : (rest e next : ℕ) → rest % 2 ≡ 1 → (rest + 1) * 2 ^ e ≡ next → (rest / 2 + 1) * 2 ^ (e + 1) ≡ next
carry_on rest e next odd is =
    let whole : rest + 1 ≡ (rest / 2 + 1) * 2 = omega (arith, odd) in
    let after : e + 1 ≡ suc e = omega arith in
    ap (λ (k : ℕ). (rest / 2 + 1) * k) (ap (λ (k : ℕ). 2 ^ k) after ∙ two-pow-succ e)
    ∙ (let same : (rest / 2 + 1) * (2 ^ e + 2 ^ e) ≡ (rest / 2 + 1) * 2 * 2 ^ e = omega arith in same)
    ∙ ap (λ (k : ℕ). k * 2 ^ e) (sym whole) ∙ is

-- ---- images

-- the number 0 has none
pub no_image : (images : List ℕ) (number shift : ℕ) → number ≡ 0 → shift ≡ bit_xor shift (linear_image images number)
no_image images number shift none =
    sym
    (ap (bit_xor shift) (ap (linear_image images) none ∙ linear_image-columns images 0 ∙ sum_of_columns-nothing images)
    ∙ xor_zero_r shift)

-- bit e enters the image of a number that has zeros there and below
image_more : (images : List ℕ) (even e : ℕ) → even % 2 ≡ 0 → e < length images
    → linear_image images ((even + 1) * 2 ^ e) ≡ bit_xor (linear_image images (even * 2 ^ e)) (slice_index images e)
image_more images even e none within =
    let linear = the_linear_map images in
    let halves : even ≡ even / 2 * 2 ^ 1 = omega (arith, none) in
    let next : bit_xor even 1 ≡ even + 1 =
    ap (λ (n : ℕ). bit_xor n 1) halves ∙ xor_shifted (even / 2) 1 1 (lit< tt) ∙ ap (λ (n : ℕ). n + 1) (sym halves) in
    ap (linear_image images) (ap (λ (n : ℕ). n * 2 ^ e) (sym next) ∙ sym (xor_shl e even 1))
    ∙ linear.of_sum (even * 2 ^ e) (1 * 2 ^ e)
    ∙ ap (bit_xor (linear_image images (even * 2 ^ e))) (ap (linear_image images) (one-mul (2 ^ e)) ∙ linear.of_bit e within)

module _ (width : ℕ) (vector : ℕ → ℕ) (wide : 0 < width) (shift rest e : ℕ) (within : e < width - 1) (sum next added : ℕ) (so_far : sum ≡ bit_xor shift (linear_image (twiddle_basis width vector) (rest * 2 ^ e))) (is : next ≡ bit_xor sum added) (vector_is : added ≡ vector (e + 1)) where
  image_next : (even : ℕ) → even % 2 ≡ 0
      → linear_image (twiddle_basis width vector) ((even + 1) * 2 ^ e)
      ≡ bit_xor (linear_image (twiddle_basis width vector) (even * 2 ^ e)) added
  image_next even none =
      let long = basis_length width vector wide in
      let after : suc e ≡ e + 1 = omega arith in
      image_more (twiddle_basis width vector) even e none (omega (arith, long, within))
      ∙ ap (bit_xor (linear_image (twiddle_basis width vector) (even * 2 ^ e)))
      (basis_at width vector e within ∙ ap vector after ∙ sym vector_is)

  -- a one that becomes a zero
  pub one_leaves : rest % 2 ≡ 1 → next ≡ bit_xor shift (linear_image (twiddle_basis width vector) (rest / 2 * 2 ^ (e + 1)))
  one_leaves odd =
      let half = rest / 2 in
      let whole : rest ≡ half * 2 + 1 = omega (arith, odd) in
      let even : half * 2 % 2 ≡ 0 = omega arith in
      let after : e + 1 ≡ suc e = omega arith in
      let same : half * 2 * 2 ^ e ≡ half * (2 ^ e + 2 ^ e) = omega arith in
      is
      ∙ ap (λ (n : ℕ). bit_xor n added)
      (so_far
      ∙ ap (bit_xor shift) (ap (λ (n : ℕ). linear_image (twiddle_basis width vector) (n * 2 ^ e)) whole ∙ image_next (half * 2) even))
      ∙ xor_assoc shift _ added
      ∙ ap (bit_xor shift)
      (xor_assoc _ added added
      ∙ ap (bit_xor (linear_image (twiddle_basis width vector) (half * 2 * 2 ^ e))) (xor_self added) ∙ xor_zero_r _
      ∙ ap (linear_image (twiddle_basis width vector))
      (same ∙ ap (λ (k : ℕ). half * k) (sym (ap (λ (k : ℕ). 2 ^ k) after ∙ two-pow-succ e))))

  -- the zero above them becomes a one
  pub one_enters : (number : ℕ) → rest % 2 ≡ 0 → (rest + 1) * 2 ^ e ≡ number
      → next ≡ bit_xor shift (linear_image (twiddle_basis width vector) number)
  one_enters number none last =
      is ∙ ap (λ (n : ℕ). bit_xor n added) so_far ∙ xor_assoc shift _ added
      ∙ ap (bit_xor shift) (sym (image_next rest none) ∙ ap (linear_image (twiddle_basis width vector)) last)
