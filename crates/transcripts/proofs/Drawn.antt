-- Numbers that are sampled in turn.
use Rattle.std.proofs.Common.{ℕ, ◌^◌, ◌<◌, List, [], ◌∷◌}
use Rattle.std.proofs.lemmas.List.Elements.{All-cons, All-nil}
use Rattle.transcripts.specs.Lists.{InTurn}
use Rattle.transcripts.specs.Queries.{AreBelow}

-- each is one that a step may give
pub below-in_turn : {C : Type 0} (gives_bits : C → ℕ → ℕ → C → Type 0) (depth : ℕ) (places : List ℕ) (old new : C)
    → InTurn (λ from place to. gives_bits from depth place to) places old new → AreBelow gives_bits depth places
unfolding InTurn
below-in_turn gives_bits depth [] old new turns fits = All-nil (λ place. place < 2 ^ depth)
below-in_turn gives_bits depth (place ∷ places) old new turns fits =
    All-cons (λ n. n < 2 ^ depth) place places (fits old place turns.0 turns.1)
    (below-in_turn gives_bits depth places turns.0 new turns.2 fits)
