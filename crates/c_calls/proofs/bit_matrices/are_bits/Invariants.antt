use Rattle.c_calls.specs.BitMatrices.{AreBits}
use Rattle.c_calls.proofs.bit_matrices.are_bits.Given as goal

abbrev pub invariant-loop-i : goal.invariant-loop-i
invariant-loop-i l = AreBits l.i l.columns l.matrix
