-- What a verifier says of a proof that three committed tables meet a b = c in each row: a zero-check leaves one claim at one point, at which
-- the tables are opened. Elements have numbers by `repr`, the product is `times` and the sum `bit_xor`.
use Rattle.std.specs.Prelude.{◌≡◌, ◌↔◌, ℕ, ◌*◌, Bool, List, length, map, bit_xor, slice_index, IsTrue}
use Rattle.sum_checks.specs.Sumcheck.{messages_of}
use Rattle.sum_checks.specs.SumcheckClaims.{reduced_claim}
use Rattle.sum_checks.specs.ZeroCheck.{eq_point}
use Rattle.sum_checks.specs.ZeroCheckRuns.{IsZeroCheckRun, zero_check_statement}
use Rattle.protocols.specs.JointTables.{SentTables, VerifiesTables}

-- The verdict on three tables of 2 ^ n elements, of which 2 ^ m places are opened: the zero-check's messages lead to a point, where the tables
-- are opened by one row. It is true exactly if the opening is accepted and the three values meet the claim that the messages leave.
pub record VerifiesProducts {C F : Type 0} (observes gives : C → F → C → Type 0) (passing : C → ℕ → ℕ → Bool)
    (checks gives_bits : C → ℕ → ℕ → C → Type 0) (repr : F → ℕ) (hash : List ℕ → List ℕ) (size width : ℕ) (times : ℕ → ℕ → ℕ)
    (vector : ℕ → ℕ) (m n : ℕ) (messages : List F) (roots : List (List ℕ)) (sent : SentTables F) (old : C) (accepted : Bool) (new : C)
    : Type 0 where
  pub count : length messages ≡ n * 3
  pub start : List F
  pub point : List F
  pub between : C
  pub run : IsZeroCheckRun observes gives repr old (zero_check_statement width times n) start (messages_of 3 n messages) point between
  pub opens : Bool
  pub opened : VerifiesTables observes gives passing checks gives_bits repr hash size width times vector m n roots point sent between opens new
  pub decided : IsTrue accepted ↔ IsTrue opens
      × (reduced_claim width times 0 (map (map repr) (messages_of 3 n messages)) (map repr point)
      ≡ times (eq_point times (map repr start) (map repr point)) (bit_xor (times (slice_index (map repr sent.values) 0)
      (slice_index (map repr sent.values) 1)) (slice_index (map repr sent.values) 2)))
