-- The sum-check protocol for sums of products of multilinear polynomials (C. Lund, L. Fortnow, H. Karloff and N. Nisan, Algebraic methods
-- for interactive proof systems, 1992; J. Thaler, Proofs, Arguments, and Zero-Knowledge, section 4.1). A message has the values of its
-- round's polynomial at the elements 0, 2, 3, .., d; that at 1 is what the claim leaves, since the values at 0 and 1 have the claim as
-- their sum.
use Rattle.std.specs.Prelude.{◌≡◌, ◌≢◌, ◌-◌, ◌*◌, ◌^◌, ◌<◌, ◌≤◌, ℕ, suc, List, [], ◌∷◌, length, map, take, get_or, slice_index, bit_xor}
use Rattle.std.specs.List.{range_with_len}
use Rattle.field_base.specs.Field.{IsField}
use Rattle.field_base.specs.Interpolation.{interpolated}
use Rattle.field_base.specs.PolynomialRoots.{AreDistinctBelow}
use Rattle.field_slices.specs.Multilinear.{folded, folded_all}
use Rattle.sum_checks.specs.Terms.{AreWithin, HaveFactors, Product, cube_sum, honest_at, table_value, terms_value}

-- ---- messages

-- the values at the elements 0, 1, 2, .., d, by a claim and a message
abbrev pub node_values : ℕ → List ℕ → List ℕ
node_values claim [] = []
node_values claim (value ∷ values) = value ∷ bit_xor claim value ∷ values

-- the polynomial of a round, by its claim and its message, at x
abbrev pub message_at : ℕ → (ℕ → ℕ → ℕ) → ℕ → List ℕ → ℕ → ℕ
message_at width times claim message x =
    interpolated width times (λ i. i) (slice_index (node_values claim message)) (length (node_values claim message)) x

-- the claim that is left after the rounds: that of a round is the value of the polynomial before at its challenge
unfoldable pub reduced_claim : ℕ → (ℕ → ℕ → ℕ) → ℕ → List (List ℕ) → List ℕ → ℕ
reduced_claim width times claim [] challenges = claim
reduced_claim width times claim (message ∷ messages) [] = claim
reduced_claim width times claim (message ∷ messages) (r ∷ rs) = reduced_claim width times (message_at width times claim message r) messages rs

-- an honest prover's message: the values of the round's polynomial at 0, 2, 3, .., d
abbrev pub honest_message : (ℕ → ℕ → ℕ) → List Product → ℕ → ℕ → List ℕ → ℕ → List ℕ
honest_message times terms count n values d = map (honest_at times terms count n values) (0 ∷ range_with_len 2 (d - 1))

-- an honest prover's messages: each is that of its round, where the coordinates before are the challenges
unfoldable pub AreHonestMessages : (ℕ → ℕ → ℕ) → List Product → ℕ → ℕ → List ℕ → List (List ℕ) → List ℕ → Type 0
AreHonestMessages times terms count d values [] [] = Unit {0}
AreHonestMessages times terms count d values [] (r ∷ rs) = ⊥
AreHonestMessages times terms count d values (message ∷ messages) [] = ⊥
AreHonestMessages times terms count d values (message ∷ messages) (r ∷ rs) =
    (message ≡ honest_message times terms count (length rs) values d) × AreHonestMessages times terms count d (folded times r values) messages rs

-- ---- completeness and soundness

-- a field of at least d + 1 elements, and terms of at most d factors, at least one, over so many polynomials
pub record AreSummed (width : ℕ) (times : ℕ → ℕ → ℕ) (terms : List Product) (count d : ℕ) : Type 0 where
  pub field : IsField width times
  pub wide : 0 < width
  pub nodes : suc d ≤ 2 ^ width
  pub some : 0 < d
  pub few : HaveFactors d terms
  pub within : AreWithin count terms

-- what the laws are about: such terms, and a value of each polynomial for each corner of the cube of n coordinates
pub record IsClaimShape (width : ℕ) (times : ℕ → ℕ → ℕ) (terms : List Product) (count d n : ℕ) (values : List ℕ) : Type 0 where
  pub summed : AreSummed width times terms count d
  pub size : length values ≡ 2 ^ n * count
  pub fits : (i : ℕ) → slice_index values i < 2 ^ width

-- messages of d elements each
unfoldable pub AreMessages : ℕ → ℕ → List (List ℕ) → Type 0
AreMessages width d [] = Unit {0}
AreMessages width d (message ∷ messages) =
    (length message ≡ d) × ((i : ℕ) → slice_index message i < 2 ^ width) × AreMessages width d messages

-- an honest prover of a true claim leads to a true claim: the value of the terms at the challenges
abbrev pub HonestReduces : Type 0
HonestReduces =
    (width : ℕ) (times : ℕ → ℕ → ℕ) (terms : List Product) (count d claim : ℕ) (values challenges : List ℕ) (messages : List (List ℕ))
    → IsClaimShape width times terms count d (length challenges) values → claim ≡ cube_sum times terms count (length challenges) values
    → AreHonestMessages times terms count d values messages challenges
    → reduced_claim width times claim messages challenges ≡ terms_value times terms (table_value times count values challenges)

-- The challenge of round k saves a false claim: the polynomial of the round, by the claim that the rounds before have left and its
-- message, is not the one that an honest prover has, and both have the same value at the challenge.
pub record IsSaved (width : ℕ) (times : ℕ → ℕ → ℕ) (terms : List Product) (count claim : ℕ) (values challenges : List ℕ)
    (messages : List (List ℕ)) (k : ℕ) : Type 0 where
  pub inside : k < length challenges
  pub point : ℕ
  pub differs : message_at width times (reduced_claim width times claim (take k messages) (take k challenges)) (get_or messages k []) point
      ≢ honest_at times terms count (length challenges - suc k) (folded_all times (take k challenges) values) point
  pub agrees : message_at width times (reduced_claim width times claim (take k messages) (take k challenges)) (get_or messages k [])
      (slice_index challenges k)
      ≡ honest_at times terms count (length challenges - suc k) (folded_all times (take k challenges) values) (slice_index challenges k)

-- soundness, for every prover: messages lead from a false claim to a true one only where a challenge saves it
abbrev pub FalseClaimsNeedLuck : Type 0
FalseClaimsNeedLuck =
    (width : ℕ) (times : ℕ → ℕ → ℕ) (terms : List Product) (count d claim : ℕ) (values challenges : List ℕ) (messages : List (List ℕ))
    → IsClaimShape width times terms count d (length challenges) values → claim < 2 ^ width
    → AreMessages width d messages → length messages ≡ length challenges
    → claim ≢ cube_sum times terms count (length challenges) values
    → reduced_claim width times claim messages challenges ≡ terms_value times terms (table_value times count values challenges)
    → (k : ℕ) × IsSaved width times terms count claim values challenges messages k

-- and few challenges do: a round's polynomial that is not the honest one has its value at d different points at most
abbrev pub FewChallengesSave : Type 0
FewChallengesSave =
    (width : ℕ) (times : ℕ → ℕ → ℕ) (terms : List Product) (count d n claim : ℕ) (values message : List ℕ)
    → IsClaimShape width times terms count d (suc n) values → length message ≡ d
    → (x : ℕ) → message_at width times claim message x ≢ honest_at times terms count n values x
    → (m : ℕ) (point : ℕ → ℕ) → AreDistinctBelow m (2 ^ width) point
    → ((i : ℕ) → i < m → message_at width times claim message (point i) ≡ honest_at times terms count n values (point i))
    → m ≤ d
