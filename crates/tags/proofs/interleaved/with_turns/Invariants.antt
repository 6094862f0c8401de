use Rattle.std.proofs.Common.{◌≡◌, ℕ, ◌*◌, fold, length}
use Rattle.tags.specs.Powers.{ArePowers}
use Rattle.tags.proofs.Folding.{hash_from}
use Rattle.tags.proofs.Turns.{horner_step}
use Rattle.tags.proofs.interleaved.with_turns.Given as goal

-- Horner's rule over the sums gives the hash after the turns before
abbrev pub invariant-loop-turn : goal.invariant-loop-turn
invariant-loop-turn g l =
    (length l.sums ≡ 32)
    × ((key : ℕ) → ArePowers key l.fn.powers
    → fold (horner_step key) 0 l.sums ≡ hash_from g.E.Encoding.element key l.fn.sum l.fn.blocks (32 * l.turn))
