-- Runs, draws of places, and two verdicts on one opening, in transcripts of the same state.
use Rattle.std.proofs.Common.{◌≡◌, ◌⊎◌, inl, inr, ℕ, ◌<◌, ◌≤◌, Bool, true, false, List, [], ◌∷◌, length, refl, sym, ◌∙◌, ap, ap₂, subst, arith}
use Rattle.std.specs.Prelude.{IsTrue}
use Rattle.std.proofs.lemmas.Bool.{cases_lt, true≢false}
use Rattle.transcripts.specs.Lists.{InTurn}
use Rattle.transcripts.specs.States.{GivesByState, LeadsByState}
use Rattle.sum_checks.specs.Sumcheck.{IsRunOf, Statement}
use Rattle.sum_checks.proofs.Runs.{elements-same, observed-same, turns-same}
use Rattle.protocols.specs.CommitmentScheme.{ArePlacesDrawn, block_places, opening_work, place_bits}
use Rattle.protocols.specs.JointTables.{AreTablesCombined, IsLeastCube, OpensTables, TableVerdictsAgree}

-- tests that follow from each other
pub same-tests : (one other : Bool) → (IsTrue one → IsTrue other) → (IsTrue other → IsTrue one) → one ≡ other
same-tests true true first second = refl
same-tests false false first second = refl
same-tests true false first second = absurd (true≢false (sym (first refl)))
same-tests false true first second = absurd (true≢false (sym (second refl)))

module _ {C S F : Type 0} (state : C → S) (observes gives : C → F → C → Type 0) (passing : C → ℕ → ℕ → Bool)
    (checks gives_bits : C → ℕ → ℕ → C → Type 0)
    (observes_law : (value : F) → LeadsByState state (λ old new. observes old value new))
    (gives_law : GivesByState state gives)
    (passing_law : (one other : C) (bits n : ℕ) → state one ≡ state other → passing one bits n ≡ passing other bits n)
    (checks_law : (bits n : ℕ) → LeadsByState state (λ old new. checks old bits n new))
    (bits_law : (bits : ℕ) → GivesByState state (λ (old : C) (number : ℕ) (new : C). gives_bits old bits number new)) where
  -- runs of the same statement have the same challenges, and end in the same state
  pub runs-same : (repr : F → ℕ) → ((x y : F) → repr x ≡ repr y → x ≡ y) → (statement : Statement) (messages : List (List F))
      {point other_point : List F} {old new other_old other_new : C} → state old ≡ state other_old
      → IsRunOf observes gives repr old statement messages point new → IsRunOf observes gives repr other_old statement messages other_point other_new
      → (point ≡ other_point) × (state new ≡ state other_new)
  runs-same repr same_law statement messages {point} {other_point} {old} {new} {other_old} {other_new} same one two =
      turns-same observes gives state observes_law gives_law messages point other_point one.1 new two.1 other_new
      (observed-same observes gives state observes_law gives_law one.0 old one.1 other_old two.1 same one.3
      (subst (λ (xs : List F). InTurn observes xs other_old two.1) (elements-same repr same_law two.0 one.0 (two.2 ∙ sym one.2)) two.3)) one.4
      two.4

  -- as many values that are given in turn are the same, and lead to the same state
  pub given-same : {T : Type 0} (step : C → T → C → Type 0) → GivesByState state step → (values others : List T) (old new other_old other_new : C)
      → length values ≡ length others → state old ≡ state other_old → InTurn step values old new → InTurn step others other_old other_new
      → (values ≡ others) × (state new ≡ state other_new)
  unfolding InTurn
  given-same step law [] [] old new other_old other_new long same one other = (refl, ap state one ∙ same ∙ sym (ap state other))
  given-same step law [] (x ∷ others) old new other_old other_new long same one other = absurd (omega (arith, long))
  given-same step law (x ∷ values) [] old new other_old other_new long same one other = absurd (omega (arith, long))
  given-same {T} step law (x ∷ values) (y ∷ others) old new other_old other_new long same one other =
      let first = law old one.0 other_old other.0 x y same one.1 other.1 in
      let rest = given-same step law values others one.0 new other.0 other_new (omega (arith, long)) first.1 one.2 other.2 in
      (ap₂ (λ (z : T) (zs : List T). z ∷ zs) first.0 rest.0, rest.1)

  -- places that are drawn behind what is sent are the same, and so are whether the witness works, and the state behind them
  pub places-same : {m n witness : ℕ} {sent : List F} {works other_works : Bool} {places other_places : List ℕ} {old new other_old other_new : C}
      → state old ≡ state other_old → ArePlacesDrawn observes gives passing checks gives_bits m n sent witness old works places new
      → ArePlacesDrawn observes gives passing checks gives_bits m n sent witness other_old other_works other_places other_new
      → (works ≡ other_works) × (places ≡ other_places) × (state new ≡ state other_new)
  places-same {m} {n} {witness} {sent} {works} {other_works} {places} {other_places} {old} {new} {other_old} {other_new} same first second = (
    first.queries.1 ∙ passing_law first.turned second.turned opening_work witness turned ∙ sym second.queries.1,
    first.chosen ∙ ap (block_places (place_bits m n)) numbers.0 ∙ sym second.chosen,
    numbers.1,
  )
    where
      between : state first.turn.0 ≡ state second.turn.0
      between =
          observed-same observes gives state observes_law gives_law sent old first.turn.0 other_old second.turn.0 same first.turn.1 second.turn.1

      turned : state first.turned ≡ state second.turned
      turned =
          (gives_law first.turn.0 first.turned second.turn.0 second.turned first.challenge second.challenge between first.turn.2 second.turn.2).1

      worked : state first.queries.0 ≡ state second.queries.0
      worked =
          checks_law opening_work witness first.turned first.queries.0 second.turned second.queries.0 turned first.queries.2 second.queries.2

      numbers : (first.numbers ≡ second.numbers) × (state new ≡ state other_new)
      numbers =
          given-same (λ from number to. gives_bits from (place_bits m n) number to) (bits_law (place_bits m n)) first.numbers second.numbers
          first.queries.0 new second.queries.0 other_new (first.count ∙ sym second.count) worked first.queries.3 second.queries.3

  -- the least cube has one number of coordinates
  pub cube-same : (count levels other : ℕ) → IsLeastCube count levels → IsLeastCube count other → levels ≡ other
  cube-same count levels other one two = pick (cases_lt levels other) (cases_lt other levels)
    where
      pick : (levels < other) ⊎ (other ≤ levels) → (other < levels) ⊎ (levels ≤ other) → levels ≡ other
      pick (inl lower) also = let less = two.least levels lower in absurd (omega (arith, less, one.room))
      pick (inr upper) (inl lower) = let less = one.least other lower in absurd (omega (arith, less, two.room))
      pick (inr upper) (inr lower) = omega (arith, upper, lower)

  -- challenges that combine as many tables are the same
  pub combined-same : {count : ℕ} {sent challenges others : List F} {old new other_old other_new : C} → state old ≡ state other_old
      → AreTablesCombined observes gives count sent old challenges new → AreTablesCombined observes gives count sent other_old others other_new
      → (challenges ≡ others) × (state new ≡ state other_new)
  combined-same {count} {sent} {challenges} {others} {old} {new} {other_old} {other_new} same first second =
      given-same gives gives_law challenges others first.begun new second.begun other_new
      (cube-same count (length challenges) (length others) first.cube second.cube)
      (observed-same observes gives state observes_law gives_law sent old first.begun other_old second.begun same first.observed second.observed)
      first.sampled second.sampled

  pub table_verdicts_agree : (repr : F → ℕ) (size width : ℕ) (times : ℕ → ℕ → ℕ) (vector : ℕ → ℕ)
      → TableVerdictsAgree state observes gives passing checks gives_bits repr size width times vector
  table_verdicts_agree repr size width times vector hash m n roots point sent prover verifier one other last left same a b = (
    same-tests one other
        (λ holds. b.decided.1 (turned a.works b.works a.challenges b.challenges a.places b.places drawn.0 combined.0 drawn.1 (a.decided.0 holds)))
        (λ holds.
        a.decided.1
        (turned b.works a.works b.challenges a.challenges b.places a.places (sym drawn.0) (sym combined.0) (sym drawn.1) (b.decided.0 holds))),
    drawn.2,
  )
    where
      combined : (a.challenges ≡ b.challenges) × (state a.between ≡ state b.between)
      combined = combined-same same a.combined b.combined

      drawn : (a.works ≡ b.works) × (a.places ≡ b.places) × (state last ≡ state left)
      drawn = places-same combined.1 a.drawn b.drawn

      turned : (u v : Bool) (xs ys : List F) (ps qs : List ℕ) → u ≡ v → xs ≡ ys → ps ≡ qs
          → IsTrue u × OpensTables hash repr size width times vector m n roots sent xs point ps
          → IsTrue v × OpensTables hash repr size width times vector m n roots sent ys point qs
      turned u v xs ys ps qs is chosen are held = (
        subst (λ (t : Bool). IsTrue t) is held.0,
        subst (λ (zs : List F). OpensTables hash repr size width times vector m n roots sent zs point qs) chosen
            (subst (λ (l : List ℕ). OpensTables hash repr size width times vector m n roots sent xs point l) are held.1),
      )
