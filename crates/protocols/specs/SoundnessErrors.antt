-- The soundness error of the sum-check protocol, as a count: for how many lists of challenges a false claim is led to a true one, by a
-- prover that sends each message by the challenges before it. A verifier that draws its challenges at random accepts with the chance that
-- is the share of these lists (C. Lund, L. Fortnow, H. Karloff and N. Nisan, Algebraic methods for interactive proof systems, 1992;
-- J. Thaler, Proofs, Arguments, and Zero-Knowledge, section 4.1).
use Rattle.std.specs.Prelude.{◌≡◌, ◌≢◌, ℕ, ◌*◌, ◌^◌, ◌<◌, ◌≤◌, Bool, true, cond, List, [], ◌∷◌, length, slice_index}
use Rattle.field_slices.specs.Openings.{sum_lists}
use Rattle.sum_checks.specs.SumcheckClaims.{IsClaimShape, reduced_claim}
use Rattle.sum_checks.specs.Terms.{Product, cube_sum, table_value, terms_value}

-- the messages that a prover sends in so many rounds, each by the challenges before it
unfoldable pub sent_messages : (List ℕ → List ℕ) → List ℕ → List (List ℕ)
sent_messages prover [] = []
sent_messages prover (r ∷ rs) = prover [] ∷ sent_messages (λ past. prover (r ∷ past)) rs

-- each has d elements
abbrev pub SendsMessages : ℕ → ℕ → (List ℕ → List ℕ) → Type 0
SendsMessages width d prover = (past : List ℕ) → (length (prover past) ≡ d) × ((i : ℕ) → slice_index (prover past) i < 2 ^ width)

-- Of the F ^ n lists of challenges, F the elements of the field, at most n d F ^ (n - 1) lead a false claim to a true one, whatever the
-- prover is, where no term has more than d factors: so many are those of which a test holds that holds of no others.
abbrev pub FewRunsSave : Type 0
FewRunsSave =
    (width : ℕ) (times : ℕ → ℕ → ℕ) (terms : List Product) (count d n claim : ℕ) (values : List ℕ) (prover : List ℕ → List ℕ)
    → IsClaimShape width times terms count d n values → claim < 2 ^ width → SendsMessages width d prover
    → claim ≢ cube_sum times terms count n values
    → (saved : List ℕ → Bool)
    → ((challenges : List ℕ) → length challenges ≡ n → saved challenges ≡ true
    → reduced_claim width times claim (sent_messages prover challenges) challenges
    ≡ terms_value times terms (table_value times count values challenges))
    → 2 ^ width * sum_lists n (2 ^ width) (λ challenges. cond (saved challenges) 1 0) ≤ n * d * (2 ^ width) ^ n
