use Rattle.std.proofs.Common.{◌≡◌, ℕ, false, length}
use Rattle.transcripts.specs.Lists.{InTurn}
use Rattle.transcripts.proofs.queries.places_of.Given as goal

-- as many places as the counter says were sampled, and no call failed
abbrev pub invariant-places : goal.invariant-places
invariant-places g l =
    (length l.places.items ≡ l.counter)
    × InTurn (λ old (place : ℕ) new. g.C.CanSampleBits.gives_bits old l.depth place new) l.places.items l.initial.challenger l.challenger
    × (g.C.Transcript.has_failed l.challenger ≡ false)
