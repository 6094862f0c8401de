-- Sums of the products of two tables over the cube, by sum-check (C. Lund, L. Fortnow, H. Karloff and N. Nisan, Algebraic methods for
-- interactive proof systems, 1992). Elements have numbers by `repr`, the sum is `bit_xor` and the product `times`.
use Rattle.std.specs.Prelude.{◌≡◌, ℕ, ◌*◌, List, [], ◌∷◌, length, map}
use Rattle.sum_checks.specs.Sumcheck.{IsRunOf, Statement, messages_of, statement_of}
use Rattle.sum_checks.specs.SumcheckClaims.{AreHonestMessages, reduced_claim}
use Rattle.sum_checks.specs.Terms.{Product, cube_sum}

-- what is summed: the product of the polynomials 0 and 1
abbrev pub product_terms : List Product
product_terms = (record { coefficient = 1; factors = 0 ∷ 1 ∷ [] }) ∷ []

-- that the products of two tables of 2 ^ rounds elements have this sum
abbrev pub sum_statement : ℕ → (ℕ → ℕ → ℕ) → ℕ → ℕ → Statement
sum_statement width times rounds sum = statement_of width times rounds 2 product_terms sum

-- two tables as rows of two values
abbrev pub interleaved : {F : Type 0} → List F → List F → List F
interleaved [] others = []
interleaved (x ∷ xs) [] = []
interleaved (x ∷ xs) (y ∷ ys) = x ∷ y ∷ interleaved xs ys

-- what an honest prover has of two tables of 2 ^ n elements: the sum of their products, its messages, and the challenges
pub record IsSummed {C F : Type 0} (observes gives : C → F → C → Type 0) (repr : F → ℕ) (width : ℕ) (times : ℕ → ℕ → ℕ) (n : ℕ)
    (left right : List F) (old : C) (sum : F) (messages point : List F) (new : C) : Type 0 where
  pub run : IsRunOf observes gives repr old (sum_statement width times n (repr sum)) (messages_of 2 n messages) point new
  pub total : repr sum ≡ cube_sum times product_terms 2 n (map repr (interleaved left right))
  pub honest : AreHonestMessages times product_terms 2 2 (map repr (interleaved left right)) (map (map repr) (messages_of 2 n messages)) (map repr point)
  pub message_count : length messages ≡ 2 * n
  pub challenge_count : length point ≡ n

-- what a verifier is left with of the claim that the products have this sum: a claim at a point, by the messages
pub record IsReducedSum {C F : Type 0} (observes gives : C → F → C → Type 0) (repr : F → ℕ) (width : ℕ) (times : ℕ → ℕ → ℕ) (n : ℕ) (sum : ℕ)
    (messages : List F) (old : C) (point : List F) (claim : ℕ) (new : C) : Type 0 where
  pub run : IsRunOf observes gives repr old (sum_statement width times n sum) (messages_of 2 n messages) point new
  pub left : claim ≡ reduced_claim width times sum (map (map repr) (messages_of 2 n messages)) (map repr point)
  pub message_count : length messages ≡ 2 * n
  pub challenge_count : length point ≡ n
