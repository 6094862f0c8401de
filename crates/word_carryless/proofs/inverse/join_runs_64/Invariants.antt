use Rattle.std.proofs.Common.{◌≡◌}
use Rattle.field_base.specs.Powers.{repeated_square}
use Rattle.field_base.specs.Remainder.{mul_mod, poly64_modulus}
use Rattle.word_carryless.proofs.inverse.join_runs_64.Given as goal

abbrev pub invariant-loop : goal.invariant-loop
invariant-loop l = l.moved ≡ repeated_square 1 (mul_mod 64 poly64_modulus) l.counter l.fn.ones
