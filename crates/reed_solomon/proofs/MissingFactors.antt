-- The factors of shards at hand in one that is missing, at the places of the shards.
use Rattle.std.proofs.Common.{◌≡◌, ◌≢◌, inl, inr, ℕ, ◌+◌, ◌<◌, ◌≤◌, Bool, List, length, get_or, set, replicate, refl, sym, ◌∙◌, ap, subst, arith, lit<, add-one}
use Rattle.std.specs.Prelude.{bit_xor}
use Rattle.std.proofs.lemmas.Bool.{cases_lt}
use Rattle.std.proofs.lemmas.List.{get_or-replicate, get_or-set_same, get_or-set_other, get_or_past, length-replicate}
use Rattle.field_base.specs.Basis.{sum_below}
use Rattle.field_base.specs.Codewords.{IsCodeword}
use Rattle.field_base.specs.Interpolation.{lagrange}
use Rattle.field_base.proofs.BasisSums.{sum_below-none, sum_below-same, sum_below-zeros}
use Rattle.field_base.proofs.Codewords.{codeword_exists, codeword_is_unique}
use Rattle.field_base.proofs.RingLemmas.{zero-times}
use Rattle.reed_solomon.specs.ByteFields.{byte_times}
use Rattle.reed_solomon.specs.declared.byte_field.ByteField.TheVariants.{Qr}
use Rattle.reed_solomon.specs.Samples.{IsSample}
use Rattle.reed_solomon.specs.Shards.{IsAmongFirst}
use Rattle.reed_solomon.proofs.AddedShards.{sum_below-more}
use Rattle.reed_solomon.proofs.ByteFields.{erasure_field}
use Rattle.reed_solomon.proofs.Samples.{sample_distinct}

-- ---- factors that are put at their places

-- a product by no factor
times_nothing : (byte : ℕ) → byte_times Qr 0 byte ≡ 0
times_nothing byte = zero-times 8 1 (byte_times Qr) erasure_field.ring byte

pub zeros_have_no_factor : (n i : ℕ) → get_or (replicate {A = ℕ} n 0) i 0 ≡ 0
zeros_have_no_factor n i =
    elim (cases_lt i n) [
      | inl below ↦ get_or-replicate n i 0 0 below
      | inr past ↦ get_or_past (replicate {A = ℕ} n 0) i 0 (omega (arith, length-replicate {A = ℕ} n 0, past))
    ]

-- at first the sum is 0
pub no_factor_placed : (total : ℕ) (symbol factor place : ℕ → ℕ)
    → sum_below (λ i. byte_times Qr (get_or (replicate {A = ℕ} 256 0) i 0) (symbol i)) total
    ≡ sum_below (λ j. byte_times Qr (factor j) (symbol (place j))) 0
no_factor_placed total symbol factor place =
    sum_below-zeros (λ i. byte_times Qr (get_or (replicate {A = ℕ} 256 0) i 0) (symbol i)) total
    (λ i below. ap (λ (f : ℕ). byte_times Qr f (symbol i)) (zeros_have_no_factor 256 i) ∙ times_nothing (symbol i))
    ∙ sym (sum_below-none (λ j. byte_times Qr (factor j) (symbol (place j))))

sum_next : (f : ℕ → ℕ) (n : ℕ) → sum_below f (n + 1) ≡ bit_xor (sum_below f n) (f n)
unfolding sum_below
sum_next f n = rw add-one refl

-- one factor more, at a place that had none
pub factor_placed : (total j : ℕ) (symbol factor place : ℕ → ℕ) (placed : List ℕ) → place j < total → place j < length placed
    → get_or placed (place j) 0 ≡ 0
    → sum_below (λ i. byte_times Qr (get_or placed i 0) (symbol i)) total ≡ sum_below (λ n. byte_times Qr (factor n) (symbol (place n))) j
    → sum_below (λ i. byte_times Qr (get_or (set placed (place j) (factor j)) i 0) (symbol i)) total
    ≡ sum_below (λ n. byte_times Qr (factor n) (symbol (place n))) (j + 1)
factor_placed total j symbol factor place placed within room free so_far =
    let term : ℕ → ℕ = λ n. byte_times Qr (factor n) (symbol (place n)) in
    let was : ℕ → ℕ = λ i. byte_times Qr (get_or placed i 0) (symbol i) in
    let is : ℕ → ℕ = λ i. byte_times Qr (get_or (set placed (place j) (factor j)) i 0) (symbol i) in
    sum_below-more total (place j) (term j) was is within
    (ap (λ (f : ℕ). byte_times Qr f (symbol (place j))) free ∙ times_nothing (symbol (place j)))
    (ap (λ (f : ℕ). byte_times Qr f (symbol (place j))) (get_or-set_same placed (place j) (factor j) 0 room))
    (λ i other. ap (λ (f : ℕ). byte_times Qr f (symbol i)) (get_or-set_other placed (place j) i (factor j) 0 other))
    ∙ ap (λ (s : ℕ). bit_xor s (term j)) so_far ∙ sym (sum_next term j)

-- ---- what they make

module _ (k total : ℕ) (present : List Bool) (places : List ℕ) (count : ℕ) (sample : IsSample k present total places count) where
  -- a shard that is not among the first k at hand is not of the sample
  pub not_sampled : (i : ℕ) → (IsAmongFirst k present i → ⊥) → (j : ℕ) → j < count → get_or places j 0 ≢ i
  not_sampled i other j below same =
      other (subst (IsAmongFirst k present) same (sample.is_present j below, omega (arith, sample.number j below, below, sample.at_most)))

  -- the sum of the products of the symbols of a codeword by Lagrange's factors is its symbol
  pub made_symbol : (symbol : ℕ → ℕ) (shard : ℕ) (factor : ℕ → ℕ) → count ≡ k → total ≤ 256 → shard < total
      → IsCodeword (byte_times Qr) k total symbol → ((i : ℕ) → i < total → symbol i < 256)
      → ((j : ℕ) → j < count → factor j ≡ lagrange 8 (byte_times Qr) (λ j. get_or places j 0) count j shard)
      → symbol shard ≡ sum_below (λ j. byte_times Qr (factor j) (symbol (get_or places j 0))) count
  made_symbol symbol shard factor all fits within word bytes factors =
      let place : ℕ → ℕ = λ j. get_or places j 0 in
      let distinct = sample_distinct k present total places count total sample (omega arith) in
      let same_word : IsCodeword (byte_times Qr) count total symbol =
      subst (λ (n : ℕ). IsCodeword (byte_times Qr) n total symbol) (sym all) word in
      let found =
      codeword_exists 8 (byte_times Qr) count total place (λ j. symbol (place j)) (lit< tt) erasure_field fits distinct
      (λ j below. bytes (place j) (sample.inside j below)) in
      codeword_is_unique 8 (byte_times Qr) count total place symbol _ (lit< tt) erasure_field fits distinct same_word found.0
      (λ j below. sym (found.1 j below)) shard within
      ∙ sum_below-same (λ j. byte_times Qr (lagrange 8 (byte_times Qr) place count j shard) (symbol (place j)))
      (λ j. byte_times Qr (factor j) (symbol (place j))) count
      (λ j below. ap (λ (f : ℕ). byte_times Qr f (symbol (place j))) (sym (factors j below)))
