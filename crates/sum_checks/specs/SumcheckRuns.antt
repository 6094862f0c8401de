-- An honest prover and a verifier of sum-check, each in a transcript of its own.
use Rattle.std.specs.Prelude.{◌≡◌, ◌↔◌, ◌*◌, ℕ, Bool, List, length, map, IsTrue}
use Rattle.sum_checks.specs.Sumcheck.{IsRunOf, messages_of, statement_of}
use Rattle.sum_checks.specs.SumcheckClaims.{AreHonestMessages, reduced_claim}
use Rattle.sum_checks.specs.Terms.{Product, cube_sum, degree_of, table_value, terms_value}

-- The statement is that the terms have the sum over the cube that they have. The prover's messages are an honest one's, both transcripts
-- observe them, and both give the same challenges; the verdict is true exactly if the claim that the messages leave is the value of the terms
-- at the challenges.
pub record IsProofAndVerdict {C F : Type 0} (observes : C → F → C → Type 0) (gives : C → F → C → Type 0) (width : ℕ) (times : ℕ → ℕ → ℕ)
    (repr : F → ℕ) (terms : List Product) (count rounds : ℕ) (values : List F) (prover prover_after verifier verifier_after : C) (accepted : Bool)
    : Type 0 where
  pub messages : List F
  pub challenges : List F
  pub count_of_messages : length messages ≡ rounds * degree_of terms
  pub proved : IsRunOf observes gives repr prover (statement_of width times rounds count terms (cube_sum times terms count rounds (map repr values)))
      (messages_of (degree_of terms) rounds messages) challenges prover_after
  pub honest : AreHonestMessages times terms count (degree_of terms) (map repr values)
      (map (map repr) (messages_of (degree_of terms) rounds messages)) (map repr challenges)
  pub verified : IsRunOf observes gives repr verifier
      (statement_of width times rounds count terms (cube_sum times terms count rounds (map repr values)))
      (messages_of (degree_of terms) rounds messages) challenges verifier_after
  pub verdict : IsTrue accepted
      ↔ (reduced_claim width times (cube_sum times terms count rounds (map repr values))
      (map (map repr) (messages_of (degree_of terms) rounds messages)) (map repr challenges)
      ≡ terms_value times terms (table_value times count (map repr values) (map repr challenges)))
