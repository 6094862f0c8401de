use Rattle.std.proofs.Common.{◌-◌, map}
use Rattle.ghash_slices.specs.Multiples.{scalar_of}
use Rattle.ghash_slices.proofs.HornerProducts.{RowsFrom}
use Rattle.ghash_slices.proofs.multiples.Multiples.step.Given as goal

-- the rows from this one on are those of the step
abbrev pub invariant-loop-turn : goal.invariant-loop-turn
invariant-loop-turn g l =
    let bytes = g.V.ByteVector.bytes in
    RowsFrom g.V.ByteVector.lanes (scalar_of l.self) (bytes l.bytes) (map bytes l.fn.sums) (16 - l.turn) (map bytes l.sums)
