use Rattle.std.proofs.Common.{◌≡◌}
use Rattle.field_base.specs.Powers.{repeated_square}
use Rattle.tags.specs.Reversed.{ghash_times}
use Rattle.tags.proofs.interleaved.power_of_turn.Given as goal

-- the key has been squared so many times
abbrev pub invariant-loop : goal.invariant-loop
invariant-loop l = l.power ≡ repeated_square 1 ghash_times l.counter l.fn.key
