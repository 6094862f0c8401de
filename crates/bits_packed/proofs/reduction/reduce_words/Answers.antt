use Rattle.std.proofs.Common.{◌+◌, ◌*◌, inl, inr, min, arith}
use Rattle.std.proofs.lemmas.Grind.{div_ceil_times}
use Rattle.field_base.specs.lemmas.BitRing.{bits_ring}
use Rattle.field_slices.proofs.Elimination.{reduced_all, reduced_none, reduced_then}
use Rattle.bits_packed.proofs.reduction.reduce_words.Goals as goal

pub loop-index-init : goal.loop-index-init
loop-index-init c = reduced_all bits_ring (reduced_none bits_ring) (min (64 * 0) c.args.count) (inl (omega arith))

pub returns-then-rank-shape : goal.returns-then-rank-shape
returns-then-rank-shape c = reduced_all bits_ring c.loop-index.invariant c.args.count (inr (c.if-rank-shape.true, omega arith))

pub strip_end-to-requires : goal.strip_end-to-requires
strip_end-to-requires c =
    let few = (div_ceil_times c.args.count 64 (omega arith)).1 in omega (arith, few, c.div_ceil-strips.ensures)

pub reduce_strip-rank-requires-clause-reduced : goal.reduce_strip-rank-requires-clause-reduced
reduce_strip-rank-requires-clause-reduced c =
    let few = (div_ceil_times c.args.count 64 (omega arith)).1 in
    (reduced_all bits_ring c.loop-index.invariant (64 * c.loop-index.index) (inl (omega (arith, few, c.div_ceil-strips.ensures)))).reduced

pub loop-index-preserved : goal.loop-index-preserved
loop-index-preserved c =
    let step = c.reduce_strip-rank.ensures in
    reduced_all bits_ring (reduced_then bits_ring c.loop-index.invariant step.grows step.reduced)
    (min (64 * (c.loop-index.index + 1)) c.args.count) (inl (omega (arith, c.strip_end-to.ensures)))

pub returns : goal.returns
returns c =
    let enough = (div_ceil_times c.args.count 64 (omega arith)).0 in
    reduced_all bits_ring c.loop-index.invariant c.args.count (inl (omega (arith, enough, c.div_ceil-strips.ensures)))
