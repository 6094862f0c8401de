use Rattle.std.proofs.Common.{sym}
use Rattle.field_base.proofs.PowerLemmas.{repeated_square-none, repeated_square_more}
use Rattle.field_slices.proofs.horner.squared.Goals as goal

pub loop-init : goal.loop-init
loop-init g c =
    let number = g.S.Scalars.number c.args.field in
    let ring = (g.met.S.Scalars.field_law c.args.field).ring in
    let law = g.met.S.Scalars in
    sym (repeated_square-none _ 1 _ ring (number c.args.x) ((law.range_law c.args.field) c.args.x))

pub loop-preserved : goal.loop-preserved
loop-preserved g c =
    let number = g.S.Scalars.number c.args.field in
    let ring = (g.met.S.Scalars.field_law c.args.field).ring in
    let more = repeated_square_more _ 1 _ ring c.loop.counter (number c.args.x) in
    cc (more, c.square-value.ensures, c.loop.invariant)
