use Rattle.std.proofs.Common.{inl, inr, arith}
use Rattle.field_slices.proofs.Elimination.{reduced_all, reduced_none, reduced_then}
use Rattle.field_slices.proofs.reduction.row_reduce_augmented.Goals as goal

pub loop-column-init : goal.loop-column-init
loop-column-init g c = reduced_none (g.met.S.Scalars.field_law c.args.field).ring

pub loop-column-preserved : goal.loop-column-preserved
loop-column-preserved g c =
    reduced_then (g.met.S.Scalars.field_law c.args.field).ring c.loop-column.invariant c.reduce_column-rank.ensures.grows
    c.reduce_column-rank.ensures.reduced

pub returns-then-rank-rows : goal.returns-then-rank-rows
returns-then-rank-rows g c =
    reduced_all (g.met.S.Scalars.field_law c.args.field).ring c.loop-column.invariant c.args.count (inr (c.if-rank-rows.true, omega arith))

pub returns : goal.returns
returns g c = reduced_all (g.met.S.Scalars.field_law c.args.field).ring c.loop-column.invariant c.args.count (inl (omega arith))
