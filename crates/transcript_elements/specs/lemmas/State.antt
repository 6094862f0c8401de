-- What a challenger does depends on the state of its byte challenger alone. It stands here since implementations of the traits cite
-- it.
use Rattle.std.proofs.Common.{◌≡◌, ◌<◌, ◌+◌, ◌*◌, ◌%◌, ◌^◌, ℕ, zero, suc, ap, ap₂, arith, sym, subst, ◌∙◌}
use Rattle.std.proofs.Math.Nat.{mod-eq_of_lt, mod-one}
use Rattle.std.proofs.lemmas.List.{same_from_push}
use Rattle.std.proofs.lemmas.Nat.{mod-pow-add}
use native.Mathlib.Nat.{mul-suc, mul-zero}
use Rattle.field_base.specs.Chunks.{chunk, chunks}
use Rattle.transcripts.specs.ByteCalls.{after, sampling, squeezed_word, Transitions}
use Rattle.transcripts.specs.lemmas.State.{same_value}
use Rattle.transcript_elements.specs.Sampled.{SamplesBits, SamplesCoefficients, squeezed_elements}

-- numbers with the same first n digits are equal modulo the power of n digits
same_low_digits : (width n x y : ℕ) → chunks width n x ≡ chunks width n y → x % 2 ^ (width * n) ≡ y % 2 ^ (width * n)
unfolding chunks
same_low_digits width zero x y same = none x ∙ sym (none y)
  where
    none : (z : ℕ) → z % 2 ^ (width * 0) ≡ 0
    none z = ap (λ (k : ℕ). z % 2 ^ k) (mul-zero width) ∙ mod-one z
same_low_digits width (suc n) x y same =
    let both = same_from_push (chunks width n x) (chunks width n y) (chunk width n x) (chunk width n y) same in
    more x ∙ ap₂ (λ (c low : ℕ). c * 2 ^ (width * n) + low) both.1 (same_low_digits width n x y both.0) ∙ sym (more y)
  where
    more : (z : ℕ) → z % 2 ^ (width * suc n) ≡ chunk width n z * 2 ^ (width * n) + z % 2 ^ (width * n)
    more z =
        let bits : width * suc n ≡ width + width * n = mul-suc width n ∙ omega arith in
        ap (λ (k : ℕ). z % 2 ^ k) bits ∙ mod-pow-add z width (width * n)

-- two samples of n coefficients that begin in one state give one number, below the power of n coefficients, and end in one state
pub same_samples : {S : Type 0} (transitions : Transitions S) (size width n : ℕ) (old new other_old other_new : S) (x y : ℕ)
    → x < 2 ^ (width * n) → y < 2 ^ (width * n) → old ≡ other_old → SamplesCoefficients transitions size width n old x new
    → SamplesCoefficients transitions size width n other_old y other_new → (x ≡ y) × (new ≡ other_new)
same_samples transitions size width n old new other_old other_new x y fits others same is are = (
  sym (mod-eq_of_lt fits)
      ∙ same_low_digits width n x y (same_value (squeezed_elements transitions size width n) old other_old _ _ same is.1 are.1)
      ∙ mod-eq_of_lt others,
  same_value (after transitions (sampling (size * n))) old other_old new other_new same is.0 are.0,
)

-- .. and so do those of elements, which are determined by their representations
pub same_elements : {E S : Type 0} (repr : E → ℕ) (bits : ℕ) (transitions : Transitions S) (size width n : ℕ)
    (old new other_old other_new : S) (x y : E) → bits ≡ width * n → ((z : E) → repr z < 2 ^ bits)
    → ((z w : E) → repr z ≡ repr w → z ≡ w) → old ≡ other_old → SamplesCoefficients transitions size width n old (repr x) new
    → SamplesCoefficients transitions size width n other_old (repr y) other_new → (x ≡ y) × (new ≡ other_new)
same_elements {E} repr bits transitions size width n old new other_old other_new x y whole range one same is are = (one x y both.0, both.1)
  where
    below : (z : E) → repr z < 2 ^ (width * n)
    below z = subst (λ (k : ℕ). repr z < 2 ^ k) whole (range z)

    both : (repr x ≡ repr y) × (new ≡ other_new)
    both = same_samples transitions size width n old new other_old other_new (repr x) (repr y) (below x) (below y) same is are

-- two samples of bits that begin in one state give one number and end in one state
pub same_bits : {S : Type 0} (transitions : Transitions S) (old new other_old other_new : S) (bits x y : ℕ) → old ≡ other_old
    → SamplesBits transitions old bits x new → SamplesBits transitions other_old bits y other_new → (x ≡ y) × (new ≡ other_new)
same_bits transitions old new other_old other_new bits x y same is are = (
  same_value (λ state. squeezed_word transitions (sampling 8) state % 2 ^ bits) old other_old x y same is.1 are.1,
  same_value (after transitions (sampling 8)) old other_old new other_new same is.0 are.0,
)
