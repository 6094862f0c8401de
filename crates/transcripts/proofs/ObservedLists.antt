-- The bytes of a list of values are observed, those of one value after those of the one before it.
use Rattle.std.proofs.Common.{◌≡◌, ◌<◌, ◌+◌, ℕ, List, [], ◌∷◌, ◌++◌, get_or, length, take, sym, ap, ◌∙◌, add-one}
use Rattle.std.proofs.Math.Seq.{take-suc}
use Rattle.std.proofs.lemmas.Grind.{flat_map-append}
use Rattle.std.proofs.lemmas.List.{append-nil, map-append}
use Rattle.std.specs.List.{flat_map}
use Rattle.transcripts.specs.ByteCalls.{after, Observe, observing, Transitions}
use Rattle.transcripts.proofs.Runs.{after_none, state_joined}

module _ {S : Type 0} (transitions : Transitions S) where
  -- observing no bytes leaves the state
  pub none_observed : (state : S) → state ≡ after transitions (observing []) state
  none_observed state = sym (after_none transitions state)

  -- a loop that has observed the bytes of n values and observes those of value n has observed those of n + 1 values
  pub one_more_observed : {D : Type 0} (bytes : D → List ℕ) (values : List D) (count : ℕ) (value default : D) (old now next : S) → count < length values
      → value ≡ get_or values count default
      → now ≡ after transitions (observing (flat_map bytes (take count values))) old
      → next ≡ after transitions (observing (bytes value)) now
      → next ≡ after transitions (observing (flat_map bytes (take (count + 1) values))) old
  one_more_observed bytes values count value default old now next inside is before step =
      let taken : take (count + 1) values ≡ take count values ++ value ∷ [] =
      ap (λ (k : ℕ). take k values) (add-one count) ∙ take-suc values count default inside ∙ ap (λ v. take count values ++ v ∷ []) (sym is) in
      let joined : observing (flat_map bytes (take (count + 1) values)) ≡ observing (flat_map bytes (take count values)) ++ observing (bytes value) =
      ap (λ vs. observing (flat_map bytes vs)) taken
      ∙ ap observing (flat_map-append bytes (take count values) (value ∷ []) ∙ ap (λ bs. flat_map bytes (take count values) ++ bs) (append-nil (bytes value)))
      ∙ map-append Observe (flat_map bytes (take count values)) (bytes value) in
      state_joined transitions (observing (flat_map bytes (take count values))) (observing (bytes value)) old now next before step
      ∙ ap (λ calls. after transitions calls old) (sym joined)
