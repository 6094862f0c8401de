-- Statements and runs of the sum-check protocol in a transcript, whose relations say where observing and sampling may lead.
use Rattle.std.specs.Prelude.{◌≡◌, ℕ, zero, suc, List, [], ◌∷◌, ◌++◌, length, map, take, drop}
use Rattle.std.specs.List.{flat_map}
use Rattle.transcripts.specs.Lists.{InTurn}
use Rattle.sum_checks.specs.Terms.{Product}

-- ---- statements

-- what is proved: over the field of so many bits, in which the element 2 has this square, the sum of the terms of so many polynomials
-- in so many coordinates is the claim
pub record Statement : Type 0 where
  pub width : ℕ
  pub rounds : ℕ
  pub tables : ℕ
  pub square : ℕ
  pub terms : List Product
  pub claim : ℕ

-- the statement over a field with this product
abbrev pub statement_of : ℕ → (ℕ → ℕ → ℕ) → ℕ → ℕ → List Product → ℕ → Statement
statement_of width times rounds count terms claim =
    record { width = width; rounds = rounds; tables = count; square = times 2 2; terms = terms; claim = claim }

-- a term as numbers: how many factors, the factors, the coefficient
abbrev pub term_numbers : Product → List ℕ
term_numbers term = length term.factors ∷ term.factors ++ term.coefficient ∷ []

-- a statement as numbers, each of which is observed as the element of that representation
abbrev pub statement_numbers : Statement → List ℕ
statement_numbers s =
    s.width ∷ s.rounds ∷ s.tables ∷ length s.terms ∷ s.square ∷ flat_map term_numbers s.terms ++ s.claim ∷ []

-- two statements of which one's numbers begin the other's, with anything after both, are the same
abbrev pub SumStatementsDiffer : Type 0
SumStatementsDiffer = (s t : Statement) (more others : List ℕ) → statement_numbers s ++ more ≡ statement_numbers t ++ others
    → (s ≡ t) × (more ≡ others)

-- ---- runs

-- so many messages of d values each, one after the other
unfoldable pub messages_of : {F : Type 0} → ℕ → ℕ → List F → List (List F)
messages_of d zero values = []
messages_of d (suc n) values = take d values ∷ messages_of d n (drop d values)

-- a turn: the values of a message are observed in order, and a challenge is sampled
abbrev pub IsTurn : {C F : Type 0} → (C → F → C → Type 0) → (C → F → C → Type 0) → C → List F → F → C → Type 0
IsTurn {C} observes gives old message r new = (between : C) × InTurn observes message old between × gives between r new

-- the turns of a list of messages, with the challenges that are sampled
unfoldable pub AreTurns : {C F : Type 0} → (C → F → C → Type 0) → (C → F → C → Type 0) → C → List (List F) → List F → C → Type 0
AreTurns observes gives old [] [] new = old ≡ new
AreTurns observes gives old [] (r ∷ rs) new = ⊥
AreTurns observes gives old (message ∷ messages) [] new = ⊥
AreTurns {C} observes gives old (message ∷ messages) (r ∷ rs) new =
    (between : C) × IsTurn observes gives old message r between × AreTurns observes gives between messages rs new

-- the statement is observed, and then come the turns
abbrev pub IsRunOf : {C F : Type 0} → (C → F → C → Type 0) → (C → F → C → Type 0) → (F → ℕ) → C → Statement → List (List F) → List F → C
    → Type 0
IsRunOf {C} {F} observes gives repr old statement messages challenges new =
    (elements : List F) × (begun : C) × (map repr elements ≡ statement_numbers statement) × InTurn observes elements old begun
    × AreTurns observes gives begun messages challenges new
