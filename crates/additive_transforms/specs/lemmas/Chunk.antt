-- How often elements of 8 to 128 bits have halves.
use Rattle.std.specs.Prelude.{◌≤◌}
use Rattle.std.proofs.Common.{arith}

pub no_halves : 0 ≤ 4
no_halves = omega arith

pub one_half : 1 ≤ 4
one_half = omega arith

pub two_halves : 2 ≤ 4
two_halves = omega arith

pub three_halves : 3 ≤ 4
three_halves = omega arith

pub four_halves : 4 ≤ 4
four_halves = omega arith
