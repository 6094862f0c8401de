use Rattle.std.proofs.Common.{◌≡◌}
use Rattle.field_base.specs.Powers.{repeated_square}
use Rattle.field_base.specs.Remainder.{mul_mod, ghash_modulus}
use Rattle.word_carryless.proofs.power_maps.square_mod_128_times.Given as goal

abbrev pub invariant-loop : goal.invariant-loop
invariant-loop l = l.square ≡ repeated_square 1 (mul_mod 128 ghash_modulus) l.counter l.fn.x
