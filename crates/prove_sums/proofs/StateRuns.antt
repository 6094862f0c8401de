-- What is stated over a challenger, over its states.
use Rattle.std.proofs.Common.{◌≡◌, ◌∙◌, ℕ, Bool, true, inl, inr, List, [], ◌∷◌, ◌++◌, ap, subst, sym}
use Rattle.transcripts.specs.Lists.{InTurn}
use Rattle.transcripts.specs.Commitments.{root_of}
use Rattle.transcripts.specs.Queries.{AreQueries}
use Rattle.transcripts.specs.declared.merkle_tree.MerkleTree.{MerkleTree}
use Rattle.sum_checks.specs.Sumcheck.{AreTurns, IsRunOf, IsTurn, Statement, messages_of}
use Rattle.sum_checks.specs.declared.error.ProtocolError.{ProtocolError}
use Rattle.protocols.specs.CommitmentScheme.{ArePlacesDrawn, StopsOpening, opening_work, place_bits}
use Rattle.protocols.specs.JointTables.{SentTables, VerifiesTables, sent_tables}
use Rattle.protocols.specs.ProductSums.{IsSummed, sum_statement}
use Rattle.prove_sums.specs.Shapes.{messages_in, sent_in, sum_in}
use Rattle.prove_sums.specs.Verdicts.{IsHonestProof, IsReducedClaim, VerifiesSum}

module _ {C S : Type 0} (state : C → S) where
  -- why a prover stops
  pub stops-on_states : (passing : C → ℕ → ℕ → Bool) (passed : S → ℕ → ℕ → Bool)
      → ((old : C) (bits witness : ℕ) → passing old bits witness ≡ passed (state old) bits witness) → (width : ℕ) (error : ProtocolError)
      → StopsOpening passing width error → StopsOpening passed width error
  stops-on_states passing passed same width error (inl memory) = inl memory
  stops-on_states passing passed same width error (inr none) =
      inr (none.0, (state none.1.0, λ witness below. sym (same none.1.0 opening_work witness) ∙ none.1.1 witness below))

  -- steps in turn, as steps of the states
  in_turn : {T : Type 0} (step : C → T → C → Type 0) (made : S → T → S → Type 0)
      → ((old : C) (x : T) (new : C) → step old x new → made (state old) x (state new)) → (xs : List T) (old new : C)
      → InTurn step xs old new → InTurn made xs (state old) (state new)
  unfolding InTurn
  in_turn step made by [] old new same = ap state same
  in_turn step made by (x ∷ xs) old new steps = (state steps.0, by old x steps.0 steps.1, in_turn step made by xs steps.0 new steps.2)

  module _ {F : Type 0} (observes gives : C → F → C → Type 0) (observed given : S → F → S → Type 0)
      (observes_by : (old : C) (x : F) (new : C) → observes old x new → observed (state old) x (state new))
      (gives_by : (old : C) (x : F) (new : C) → gives old x new → given (state old) x (state new)) where
    turn : (message : List F) (r : F) (old new : C) → IsTurn observes gives old message r new
        → IsTurn observed given (state old) message r (state new)
    turn message r old new all = (state all.0, in_turn observes observed observes_by message old all.0 all.1, gives_by all.0 r new all.2)

    turns : (ms : List (List F)) (rs : List F) (old new : C) → AreTurns observes gives old ms rs new
        → AreTurns observed given (state old) ms rs (state new)
    unfolding AreTurns
    turns [] [] old new same = ap state same
    turns [] (r ∷ rs) old new none = none
    turns (v ∷ vs) [] old new none = none
    turns (v ∷ vs) (r ∷ rs) old new all = (state all.0, turn v r old all.0 all.1, turns vs rs all.0 new all.2)

    run-on_states : (repr : F → ℕ) (old new : C) (statement : Statement) (messages : List (List F)) (challenges : List F)
        → IsRunOf observes gives repr old statement messages challenges new
        → IsRunOf observed given repr (state old) statement messages challenges (state new)
    run-on_states repr old new statement messages challenges run =
        (run.0, state run.1, run.2, in_turn observes observed observes_by run.0 old run.1 run.3, turns messages challenges run.1 new run.4)

    module _ (passing : C → ℕ → ℕ → Bool) (checks gives_bits : C → ℕ → ℕ → C → Type 0) (passed : S → ℕ → ℕ → Bool)
        (checked given_bits : S → ℕ → ℕ → S → Type 0)
        (passing_by : (old : C) (bits witness : ℕ) → passing old bits witness ≡ passed (state old) bits witness)
        (checks_by : (old : C) (bits witness : ℕ) (new : C) → checks old bits witness new → checked (state old) bits witness (state new))
        (bits_by : (old : C) (bits number : ℕ) (new : C) → gives_bits old bits number new → given_bits (state old) bits number (state new))
        (number repr : F → ℕ) (m n : ℕ) (elements : List F) where
      queries : (old new : C) (witness : ℕ) (works : Bool) (places : List ℕ)
          → AreQueries passing checks gives_bits old opening_work witness works (place_bits m n) places new
          → AreQueries passed checked given_bits (state old) opening_work witness works (place_bits m n) places (state new)
      queries old new witness works places all = (
        state all.0,
        all.1 ∙ passing_by old opening_work witness,
        checks_by old opening_work witness all.0 all.2,
        in_turn (λ (from : C) (place : ℕ) (to : C). gives_bits from (place_bits m n) place to)
            (λ (from : S) (place : ℕ) (to : S). given_bits from (place_bits m n) place to)
            (λ from place to is. bits_by from (place_bits m n) place to is) places all.0 new all.3,
      )

      draws-on_states : (rows : List F) (witness : ℕ) (old new : C) (works : Bool) (places : List ℕ)
          → ArePlacesDrawn observes gives passing checks gives_bits m n rows witness old works places new
          → ArePlacesDrawn observed given passed checked given_bits m n rows witness (state old) works places (state new)
      draws-on_states rows witness old new works places drawn = record {
        challenge = drawn.challenge;
        turned = state drawn.turned;
        numbers = drawn.numbers;
        turn = turn rows drawn.challenge old drawn.turned drawn.turn;
        queries = queries drawn.turned new witness works drawn.numbers drawn.queries;
        count = drawn.count;
        chosen = drawn.chosen;
      }

      reduced-on_states : (width : ℕ) (times : ℕ → ℕ → ℕ) (old new : C) (point : List F) (claim : ℕ)
          → IsReducedClaim observes gives repr width times n elements old point claim new
          → IsReducedClaim observed given repr width times n elements (state old) point claim (state new)
      reduced-on_states width times old new point claim reduced = record {
        run = run-on_states repr old new (sum_statement width times n (sum_in repr elements)) (messages_of 2 n (messages_in n elements)) point
            reduced.run;
        left = reduced.left;
        challenge_count = reduced.challenge_count;
      }

      -- the verdict on an opening of tables
      tables-on_states : (hash : List ℕ → List ℕ) (size width : ℕ) (times : ℕ → ℕ → ℕ) (vector : ℕ → ℕ) (roots : List (List ℕ)) (point : List F)
          (sent : SentTables F) (old : C) (accepted : Bool) (new : C)
          → VerifiesTables observes gives passing checks gives_bits repr hash size width times vector m n roots point sent old accepted new
          → VerifiesTables observed given passed checked given_bits repr hash size width times vector m n roots point sent (state old) accepted
          (state new)
      tables-on_states hash size width times vector roots point sent old accepted new verdict = record {
        challenges = verdict.challenges;
        between = state verdict.between;
        combined = record {
          begun = state verdict.combined.begun;
          observed = in_turn observes observed observes_by (point ++ sent.values) old verdict.combined.begun verdict.combined.observed;
          sampled = in_turn gives given gives_by verdict.challenges verdict.combined.begun verdict.between verdict.combined.sampled;
          cube = verdict.combined.cube;
        };
        works = verdict.works;
        places = verdict.places;
        drawn = draws-on_states sent.row sent.witness verdict.between new verdict.works verdict.places verdict.drawn;
        decided = verdict.decided;
      }

      pub verdict-on_states : (hash : List ℕ → List ℕ) (size width : ℕ) (times : ℕ → ℕ → ℕ) (vector : ℕ → ℕ) (left right : List ℕ)
          (nodes : List (List ℕ)) (old : C) (begun : S) (accepted : Bool) → state old ≡ begun
          → VerifiesSum observes gives passing checks gives_bits number repr hash size width times vector m n left right elements nodes old accepted
          → VerifiesSum observed given passed checked given_bits number repr hash size width times vector m n left right elements nodes begun accepted
      verdict-on_states hash size width times vector left right nodes old begun accepted is verdict =
          subst (λ (s : S). VerifiesSum observed given passed checked given_bits number repr hash size width times vector m n left right elements nodes s accepted) is
          (record {
            point = verdict.point;
            claim = verdict.claim;
            opens = verdict.opens;
            between = state verdict.between;
            new = state verdict.new;
            reduced = reduced-on_states width times old verdict.between verdict.point verdict.claim verdict.reduced;
            opened = tables-on_states hash size width times vector (left ∷ right ∷ []) verdict.point (sent_in number m n elements nodes)
                verdict.between verdict.opens verdict.new verdict.opened;
            decided = verdict.decided;
          })

      summed-on_states : (width : ℕ) (times : ℕ → ℕ → ℕ) (left right : List F) (old new : C) (sum : F) (messages point : List F)
          → IsSummed observes gives repr width times n left right old sum messages point new
          → IsSummed observed given repr width times n left right (state old) sum messages point (state new)
      summed-on_states width times left right old new sum messages point summed = record {
        run = run-on_states repr old new (sum_statement width times n (repr sum)) (messages_of 2 n messages) point summed.run;
        total = summed.total;
        honest = summed.honest;
        message_count = summed.message_count;
        challenge_count = summed.challenge_count;
      }

      pub honest-on_states : {A : Type 0} (size width : ℕ) (times : ℕ → ℕ → ℕ) (vector : ℕ → ℕ) (left right left_columns right_columns : List F)
          (left_tree right_tree : MerkleTree A) (nodes : List (List ℕ)) (old : C) (begun : S) → state old ≡ begun
          → IsHonestProof observes gives passing checks gives_bits number repr size width times vector m n left right left_columns right_columns left_tree
          right_tree elements nodes old
          → IsHonestProof observed given passed checked given_bits number repr size width times vector m n left right left_columns right_columns left_tree
          right_tree elements nodes begun
      honest-on_states size width times vector left right left_columns right_columns left_tree right_tree nodes old begun is honest =
          let parts = honest.parts in
          subst
          (λ (s : S). IsHonestProof observed given passed checked given_bits number repr size width times vector m n left right left_columns
          right_columns left_tree right_tree elements nodes s) is
          (record {
            parts = parts;
            point = honest.point;
            openers = honest.openers;
            between = state honest.between;
            new = state honest.new;
            summed = summed-on_states width times left right old honest.between parts.sum parts.messages honest.point honest.summed;
            opened = λ hash tables held.
                let opened = honest.opened hash tables held in (
                  opened.0,
                  tables-on_states hash size width times vector (root_of left_tree ∷ root_of right_tree ∷ []) honest.point
                      (sent_tables parts.values parts.row (number parts.witness) parts.columns honest.openers) honest.between true honest.new opened.1,
                );
            written = honest.written;
            nodes_are = honest.nodes_are;
          })
