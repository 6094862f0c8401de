-- Reed-Solomon codes by checks, as standards state them: a word of the code has sums of scaled symbols times powers of
-- its points that are 0. For a generator polynomial with the roots r^b, r^(b + 1), .., r^(b + R - 1), point i is r^i
-- and scale i is point i ^ b. Columns may be scaled in any other way too, and any places left out.
use Rattle.std.specs.Prelude.{◌≡◌, ◌≢◌, ◌⊎◌, ℕ, ◌+◌, ◌-◌, ◌*◌, ◌^◌, ◌<◌, ◌≤◌, List, length, slice_index, Bool, true}
use Rattle.std.specs.Prelude.{nat_eq, not, bit_xor, Option, Some, None}
use Rattle.field_base.specs.Basis.{sum_below}
use Rattle.field_base.specs.Field.{IsField}
use Rattle.field_base.specs.Powers.{power}
use Rattle.field_base.specs.Interpolation.{other_factors}
use Rattle.field_base.specs.PolynomialRoots.{AreDistinctBelow}
use Rattle.field_slices.specs.Marks.{marked_below}
use Rattle.error_codes.specs.Words.{at, is_wrong, HasNonzero}

-- the sum of scale i · symbol i · point i ^ m
abbrev pub syndrome : (ℕ → ℕ → ℕ) → ℕ → (ℕ → ℕ) → (ℕ → ℕ) → (ℕ → ℕ) → ℕ → ℕ
syndrome times n point scale word m = sum_below (λ i. times (times (scale i) (word i)) (power 1 times (point i) m)) n

-- n different points, and n scales that are not 0
pub record AreScaled (width n : ℕ) (point scale : ℕ → ℕ) : Type 0 where
  pub points : AreDistinctBelow n (2 ^ width) point
  pub scales : (i : ℕ) → i < n → scale i < 2 ^ width
  pub nonzero : (i : ℕ) → i < n → scale i ≢ 0

-- a word of the code with so many checks
pub record IsChecked (width : ℕ) (times : ℕ → ℕ → ℕ) (checks n : ℕ) (point scale word : ℕ → ℕ) : Type 0 where
  pub symbols : (i : ℕ) → i < n → word i < 2 ^ width
  pub sums : (m : ℕ) → m < checks → syndrome times n point scale word m ≡ 0

-- the word of the code that is meant, of which the received one has all symbols but the erased and at most t others
pub record IsSent (width : ℕ) (times : ℕ → ℕ → ℕ) (checks n t : ℕ) (point scale word : ℕ → ℕ)
    (erased : ℕ → Bool) (sent : ℕ → ℕ) : Type 0 where
  pub checked : IsChecked width times checks n point scale sent
  pub few_wrong : marked_below (is_wrong (λ i. i) word erased sent) n ≤ t

-- the sum of coefficient j times entry m + j
abbrev pub key_sum : (ℕ → ℕ → ℕ) → List ℕ → (ℕ → ℕ) → ℕ → ℕ
key_sum times cs entry m = sum_below (λ j. times (slice_index cs j) (entry (m + j))) (length cs)

-- the key equation by syndromes: s + 1 coefficients, not all 0, which are 0 at erased places, and whose sums with the
-- syndromes are 0
pub record SolvesChecks (width : ℕ) (times : ℕ → ℕ → ℕ) (checks s n : ℕ) (point scale word : ℕ → ℕ)
    (erased : ℕ → Bool) (bottom : List ℕ) : Type 0 where
  pub count : length bottom ≡ s + 1
  pub nonzero : HasNonzero width bottom
  pub at_erased : (i : ℕ) → i < n → erased i ≡ true → at times bottom (point i) ≡ 0
  pub sums : (m : ℕ) → m + s < checks → key_sum times bottom (syndrome times n point scale word) m ≡ 0

-- at most one word of the code is meant
abbrev pub SentIsUnique : Type 0
SentIsUnique =
    (width : ℕ) (times : ℕ → ℕ → ℕ) → 0 < width → IsField width times
    → (checks n e t : ℕ) (point scale word : ℕ → ℕ) (erased : ℕ → Bool) → AreScaled width n point scale
    → marked_below erased n ≤ e → 2 * t + e ≤ checks
    → (c d : ℕ → ℕ) → IsSent width times checks n t point scale word erased c
    → IsSent width times checks n t point scale word erased d
    → (i : ℕ) → i < n → c i ≡ d i

-- two words of the code that differ do so at more places than there are checks: its distance is at least one more than
-- that, which no code exceeds (R. C. Singleton, Maximum distance q-nary codes, 1964)
abbrev pub WordsDiffer : Type 0
WordsDiffer =
    (width : ℕ) (times : ℕ → ℕ → ℕ) → 0 < width → IsField width times
    → (checks n : ℕ) (point scale : ℕ → ℕ) → AreScaled width n point scale
    → (c d : ℕ → ℕ) → IsChecked width times checks n point scale c → IsChecked width times checks n point scale d
    → (i : ℕ) → i < n → c i ≢ d i → checks < marked_below (λ j. not (nat_eq (c j) (d j))) n

-- where one is, the equations have a solution
abbrev pub ChecksHaveSolution : Type 0
ChecksHaveSolution =
    (width : ℕ) (times : ℕ → ℕ → ℕ) → 0 < width → IsField width times
    → (checks n e t s : ℕ) (point scale word : ℕ → ℕ) (erased : ℕ → Bool) → AreScaled width n point scale
    → ((i : ℕ) → i < n → word i < 2 ^ width) → marked_below erased n ≤ e → t + e ≤ s → s < n
    → (c : ℕ → ℕ) → IsSent width times checks n t point scale word erased c
    → (bottom : List ℕ) × SolvesChecks width times checks s n point scale word erased bottom

-- what a solution says of the word that is meant
pub record Corrects (width : ℕ) (times : ℕ → ℕ → ℕ) (checks s n : ℕ) (point scale word : ℕ → ℕ)
    (erased : ℕ → Bool) (bottom : List ℕ) (c : ℕ → ℕ) : Type 0 where
  -- it is 0 at each place that is wrong
  pub zero_where_wrong : (i : ℕ) → i < n → is_wrong (λ i. i) word erased c i ≡ true → at times bottom (point i) ≡ 0
  -- so that a symbol is right where it is not 0
  pub right_elsewhere : (i : ℕ) → i < n → at times bottom (point i) ≢ 0 → word i ≡ c i
  -- it is 0 at few places
  pub few_zeros : marked_below (λ i. nat_eq (at times bottom (point i)) 0) n ≤ s
  -- and a word of the code that has the symbols elsewhere is the one that is meant
  pub restored : (d : ℕ → ℕ) → IsChecked width times checks n point scale d
      → ((i : ℕ) → i < n → at times bottom (point i) ≢ 0 → d i ≡ word i) → (i : ℕ) → i < n → d i ≡ c i

-- every solution of s + 1 coefficients decodes, where s + t is at most the number of checks
abbrev pub SyndromesDecode : Type 0
SyndromesDecode =
    (width : ℕ) (times : ℕ → ℕ → ℕ) → 0 < width → IsField width times
    → (checks n t s : ℕ) (point scale word : ℕ → ℕ) (erased : ℕ → Bool) → AreScaled width n point scale
    → ((i : ℕ) → i < n → word i < 2 ^ width) → s + t ≤ checks
    → (c : ℕ → ℕ) → IsSent width times checks n t point scale word erased c
    → (bottom : List ℕ) → SolvesChecks width times checks s n point scale word erased bottom
    → Corrects width times checks s n point scale word erased bottom c

-- With erased places, whose polynomial is gamma, the solution is sought as gamma · factor: its sums with the syndromes
-- are those of the factor with the sums of gamma.
abbrev pub ErasuresMultiply : Type 0
ErasuresMultiply =
    (width : ℕ) (times : ℕ → ℕ → ℕ) → 0 < width → IsField width times
    → (n m : ℕ) (point scale word : ℕ → ℕ) (gamma factor bottom : List ℕ)
    → ((x : ℕ) → at times bottom x ≡ times (at times gamma x) (at times factor x))
    → key_sum times bottom (syndrome times n point scale word) m
    ≡ key_sum times factor (key_sum times gamma (syndrome times n point scale word)) m

-- So a null vector of the matrix of these sums, entry (m, j) of which is that at m + j, gives a solution,
abbrev pub NullVectorsSolve : Type 0
NullVectorsSolve =
    (width : ℕ) (times : ℕ → ℕ → ℕ) → 0 < width → IsField width times
    → (checks s n : ℕ) (point scale word : ℕ → ℕ) (erased : ℕ → Bool) (gamma factor bottom : List ℕ)
    → ((i : ℕ) → i < n → erased i ≡ true → at times gamma (point i) ≡ 0)
    → ((x : ℕ) → at times bottom x ≡ times (at times gamma x) (at times factor x)) → length bottom ≡ s + 1
    → HasNonzero width bottom
    → ((m : ℕ) → m + s < checks
    → sum_below (λ j. times (key_sum times gamma (syndrome times n point scale word) (m + j)) (slice_index factor j))
    (length factor) ≡ 0)
    → SolvesChecks width times checks s n point scale word erased bottom

-- and where a word is meant, there is one of t + 1 entries that are not all 0
abbrev pub NullVectorsExist : Type 0
NullVectorsExist =
    (width : ℕ) (times : ℕ → ℕ → ℕ) → 0 < width → IsField width times
    → (checks n e t : ℕ) (point scale word : ℕ → ℕ) (erased : ℕ → Bool) → AreScaled width n point scale → t < n
    → (gamma : List ℕ) → length gamma ≡ e + 1 → ((i : ℕ) → i < n → erased i ≡ true → at times gamma (point i) ≡ 0)
    → (c : ℕ → ℕ) → IsSent width times checks n t point scale word erased c
    → (factor : List ℕ) × (length factor ≡ t + 1) × HasNonzero width factor
    × ((m : ℕ) → m + (e + t) < checks
    → sum_below (λ j. times (key_sum times gamma (syndrome times n point scale word) (m + j)) (slice_index factor j))
    (t + 1) ≡ 0)

-- A shift register of the syndromes (J. L. Massey, Shift-register synthesis and BCH decoding, 1969), as Euclid's
-- algorithm on them finds one too: each syndrome from s on is 0 together with the s before it, times its coefficients.
-- Their reverse is a solution.
abbrev pub RegistersSolve : Type 0
RegistersSolve =
    (width : ℕ) (times : ℕ → ℕ → ℕ) → 0 < width → IsField width times
    → (checks s n : ℕ) (point scale word : ℕ → ℕ) (erased : ℕ → Bool) (register bottom : List ℕ)
    → HasNonzero width register → length register ≡ s + 1 → length bottom ≡ s + 1
    → ((j : ℕ) → j ≤ s → slice_index bottom j ≡ slice_index register (s - j))
    → ((i : ℕ) → i < n → erased i ≡ true → at times bottom (point i) ≡ 0)
    → ((l : ℕ) → s ≤ l → l < checks
    → sum_below (λ i. times (slice_index register i) (syndrome times n point scale word (l - i))) (s + 1) ≡ 0)
    → SolvesChecks width times checks s n point scale word erased bottom

-- A symbol found where the solution is 0: any polynomial of no more coefficients than checks that is 0 where else the
-- solution is, as the quotient of the solution by x + point i (G. D. Forney, On decoding BCH codes, 1965).
pub record FindsSymbol (times : ℕ → ℕ → ℕ) (checks n : ℕ) (point scale word : ℕ → ℕ) (bottom : List ℕ)
    (d : ℕ → ℕ) (i : ℕ) : Type 0 where
  pub others : List ℕ
  pub short : length others ≤ checks
  pub zero_elsewhere : (j : ℕ) → j < n → at times bottom (point j) ≡ 0 → j ≢ i → at times others (point j) ≡ 0
  pub nonzero : at times others (point i) ≢ 0
  pub value : times (times (scale i) (bit_xor (word i) (d i))) (at times others (point i)) ≡ key_sum times others
      (syndrome times n point scale word) 0

-- the word that a decoder makes of a solution
pub record IsCorrected (width : ℕ) (times : ℕ → ℕ → ℕ) (checks n : ℕ)
    (point scale word : ℕ → ℕ) (bottom : List ℕ) (d : ℕ → ℕ) : Type 0 where
  pub symbols : (i : ℕ) → i < n → d i < 2 ^ width
  pub kept : (i : ℕ) → i < n → at times bottom (point i) ≢ 0 → d i ≡ word i
  pub found : (i : ℕ) → i < n → at times bottom (point i) ≡ 0 → FindsSymbol times checks n point scale word bottom d i

-- is the one that is meant
abbrev pub SyndromesCorrect : Type 0
SyndromesCorrect =
    (width : ℕ) (times : ℕ → ℕ → ℕ) → 0 < width → IsField width times
    → (checks n t s : ℕ) (point scale word : ℕ → ℕ) (erased : ℕ → Bool) → AreScaled width n point scale
    → ((i : ℕ) → i < n → word i < 2 ^ width) → s + t ≤ checks
    → (c : ℕ → ℕ) → IsSent width times checks n t point scale word erased c
    → (bottom : List ℕ) → SolvesChecks width times checks s n point scale word erased bottom
    → (d : ℕ → ℕ) → IsCorrected width times checks n point scale word bottom d → (i : ℕ) → i < n → d i ≡ c i

-- the inverse of the product of the differences from point i to the other points, by Fermat
abbrev pub dual_weight : ℕ → (ℕ → ℕ → ℕ) → ℕ → (ℕ → ℕ) → ℕ → ℕ
dual_weight width times n point i = power 1 times (other_factors times point i (point i) n) (2 ^ width - 2)

-- The values of a polynomial of k coefficients are a word of the code of n - k checks with these weights, and scaled by
-- v of that with the scales h where v i · h i is weight i: so both forms are one code.
abbrev pub ValuesAreChecked : Type 0
ValuesAreChecked =
    (width : ℕ) (times : ℕ → ℕ → ℕ) → 0 < width → IsField width times
    → (k checks n : ℕ) (point scale word : ℕ → ℕ) (cs : List ℕ) → AreDistinctBelow n (2 ^ width) point
    → length cs ≡ k → k + checks ≤ n
    → ((i : ℕ) → i < n → times (scale i) (word i) ≡ times (dual_weight width times n point i) (at times cs (point i)))
    → (m : ℕ) → m < checks → syndrome times n point scale word m ≡ 0

-- and every word of the code is one of such values
abbrev pub CheckedAreValues : Type 0
CheckedAreValues =
    (width : ℕ) (times : ℕ → ℕ → ℕ) → 0 < width → IsField width times
    → (k checks n : ℕ) (point scale word : ℕ → ℕ) → AreDistinctBelow n (2 ^ width) point → k + checks ≡ n
    → ((m : ℕ) → m < checks → syndrome times n point scale word m ≡ 0)
    → (cs : List ℕ) × (length cs ≡ k)
    × ((i : ℕ) → i < n → times (scale i) (word i) ≡ times (dual_weight width times n point i) (at times cs (point i)))

-- ---- decoders

-- an answer is right: a word of the code within t errors and the only one, or that there is none
abbrev pub IsCheckedAnswer : ℕ → (ℕ → ℕ → ℕ) → ℕ → ℕ → ℕ → (ℕ → ℕ) → (ℕ → ℕ) → (ℕ → ℕ) → (ℕ → Bool) → Option (ℕ → ℕ)
    → Type 0
IsCheckedAnswer width times checks n t point scale word erased (Some d) =
    IsSent width times checks n t point scale word erased d
    × ((c : ℕ → ℕ) → IsSent width times checks n t point scale word erased c → (i : ℕ) → i < n → c i ≡ d i)
IsCheckedAnswer width times checks n t point scale word erased None = (c : ℕ → ℕ)
    → IsSent width times checks n t point scale word erased c → ⊥

-- why a decoder answers None: the equations have no solution, or what one makes of the word is none within t errors
abbrev pub RejectsChecked : ℕ → (ℕ → ℕ → ℕ) → ℕ → ℕ → ℕ → ℕ → (ℕ → ℕ) → (ℕ → ℕ) → (ℕ → ℕ) → (ℕ → Bool) → Type 0
RejectsChecked width times checks n t s point scale word erased =
    ((bottom : List ℕ) → SolvesChecks width times checks s n point scale word erased bottom → ⊥)
    ⊎ ((bottom : List ℕ) × SolvesChecks width times checks s n point scale word erased bottom
    × (d : ℕ → ℕ) × IsCorrected width times checks n point scale word bottom d
    × (IsSent width times checks n t point scale word erased d → ⊥))

-- a decoder that answers only words within t errors, and None only for one of these reasons, is right
abbrev pub CheckDecodersAreRight : Type 0
CheckDecodersAreRight =
    (width : ℕ) (times : ℕ → ℕ → ℕ) → 0 < width → IsField width times
    → (checks n e t s : ℕ) (point scale word : ℕ → ℕ) (erased : ℕ → Bool) → AreScaled width n point scale
    → ((i : ℕ) → i < n → word i < 2 ^ width) → marked_below erased n ≤ e → t + e ≤ s → s + t ≤ checks → s < n
    → ((d : ℕ → ℕ) → IsSent width times checks n t point scale word erased d
    → IsCheckedAnswer width times checks n t point scale word erased (Some d))
    × (RejectsChecked width times checks n t s point scale word erased
    → IsCheckedAnswer width times checks n t point scale word erased None)
