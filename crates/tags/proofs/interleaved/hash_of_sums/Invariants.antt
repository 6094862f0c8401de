use Rattle.std.proofs.Common.{◌≡◌, ℕ, ◌*◌, fold, take}
use Rattle.tags.specs.Powers.{ArePowers}
use Rattle.tags.proofs.Turns.{horner_step}
use Rattle.tags.proofs.interleaved.hash_of_sums.Given as goal

-- the hash is that of the sums before
abbrev pub invariant-loop-four : goal.invariant-loop-four
invariant-loop-four l = (key : ℕ) → ArePowers key l.fn.powers → l.hash ≡ fold (horner_step key) 0 (take (4 * l.four) l.fn.sums)
