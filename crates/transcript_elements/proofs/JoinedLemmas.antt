-- Elements that are observed one after the other are observed as their bytes, joined.
use Rattle.std.proofs.Common.{◌≡◌, ℕ, [], ◌∷◌, ◌++◌, ap, sym, ◌∙◌}
use Rattle.std.proofs.lemmas.List.{map-append}
use Rattle.field_bytes.specs.Bytes.{low_bytes}
use Rattle.field_bytes.specs.Streams.{joined_bytes}
use Rattle.transcripts.specs.ByteCalls.{after, Observe, observing}
use Rattle.transcripts.specs.declared.byte_challenger.ByteChallenger
use Rattle.transcripts.proofs.Runs.{state_joined}
use Rattle.transcripts.proofs.ObservedLists.{none_observed}
use Rattle.transcript_elements.specs.Challengers.{state_of}
use Rattle.transcript_elements.specs.Joined.{ElementsJoin}
use Rattle.transcripts.specs.Lists.{InTurn}
use Rattle.transcript_elements.specs.declared.challenger.BinaryChallenger.{BinaryChallenger}

module _ {F C : Type 0} (c : ByteChallenger.Ghosts C) (size : ℕ) (repr : F → ℕ) where
  -- the law of elements: by induction on their list
  pub elements_join : ElementsJoin c size repr
  unfolding InTurn
  elements_join [] old new same =
      ap (λ (challenger : BinaryChallenger F C c). state_of challenger) same ∙ none_observed c.transitions (state_of old)
  elements_join (x ∷ elements) old new (next, first, rest) =
      let joined : observing (joined_bytes size repr (x ∷ elements))
      ≡ observing (low_bytes size (repr x)) ++ observing (joined_bytes size repr elements) =
      map-append Observe (low_bytes size (repr x)) (joined_bytes size repr elements) in
      state_joined c.transitions (observing (low_bytes size (repr x))) (observing (joined_bytes size repr elements))
      (state_of old) (state_of next) (state_of new) first (elements_join elements next new rest)
      ∙ ap (λ calls. after c.transitions calls (state_of old)) (sym joined)
