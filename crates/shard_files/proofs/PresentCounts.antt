-- Shards that are at hand, and those that are missing, are all.
use Rattle.std.proofs.Common.{◌≡◌, ℕ, zero, suc, ◌+◌, ◌≤◌, Bool, true, false, cond, List, [], ◌∷◌, length, if◌then◌else◌, refl, ◌∙◌, ap, arith}
use Rattle.std.proofs.lemmas.List.Sums.{sum_by-cons}
use Rattle.reed_solomon.specs.Shards.{present_count}
use Rattle.reed_solomon.specs.Locators.{lost_count}
use Rattle.reed_solomon.specs.Restoring.{is_missing}

-- one flag more
pub without : (flags : List Bool) → present_count (false ∷ flags) ≡ 0 + present_count flags
without flags = sum_by-cons (λ (flag : Bool). cond flag 1 0) false flags

pub with_one : (flags : List Bool) → present_count (true ∷ flags) ≡ 1 + present_count flags
with_one flags = sum_by-cons (λ (flag : Bool). cond flag 1 0) true flags

abbrev more : Bool → ℕ → ℕ
more flag count = if flag then suc count else count

turned : (one other : Bool) (count : ℕ) → more one (more other count) ≡ more other (more one count)
turned true true count = refl
turned true false count = refl
turned false true count = refl
turned false false count = refl

-- the first place is counted apart
lost_first : (lost : ℕ → Bool) (n : ℕ) → lost_count lost (suc n) ≡ more (lost 0) (lost_count (λ i. lost (suc i)) n)
unfolding lost_count
lost_first lost zero = refl
lost_first lost (suc n) = ap (more (lost (suc n))) (lost_first lost n) ∙ turned (lost (suc n)) (lost 0) (lost_count (λ i. lost (suc i)) n)

missing_or_present : (present : List Bool) → lost_count (is_missing present) (length present) + present_count present ≡ length present
unfolding lost_count
missing_or_present [] = refl
missing_or_present (true ∷ rest) =
    let first = lost_first (is_missing (true ∷ rest)) (length rest) in
    omega (arith, first, with_one rest, missing_or_present rest)
missing_or_present (false ∷ rest) =
    let first = lost_first (is_missing (false ∷ rest)) (length rest) in
    omega (arith, first, without rest, missing_or_present rest)

-- where as many are at hand as the data have, no more are missing than there are of parity
pub few_missing : (k m : ℕ) (present : List Bool) → length present ≡ k + m → k ≤ present_count present
    → lost_count (is_missing present) (length present) ≤ m
few_missing k m present flags enough = omega (arith, missing_or_present present, flags, enough)
