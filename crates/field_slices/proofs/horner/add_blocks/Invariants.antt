use Rattle.std.proofs.Common.{◌≡◌, ◌%◌, ◌≤◌, ◌++◌, ℕ, length, drop}
use Rattle.field_base.specs.Powers.{power, value_of}
use Rattle.field_slices.proofs.horner.add_blocks.Given as goal

-- the sums have the value of the blocks from this place on and of what was there
abbrev pub invariant-loop-start : goal.invariant-loop-start
invariant-loop-start g l =
    let number = g.S.Scalars.number l.field in
    let times = g.S.Scalars.product l.field in
    (l.start % 128 ≡ 0)
    × (l.start ≤ length l.blocks)
    × ((x : ℕ) → number l.high ≡ power 1 times x 128
    → value_of 1 times number l.sums x ≡ value_of 1 times number (drop l.start l.blocks ++ l.fn.sums) x)

abbrev pub decreases-loop-start : goal.decreases-loop-start
decreases-loop-start g l = l.start
