use Rattle.std.proofs.Common.{slice_index, ◌∙◌}
use Rattle.reed_solomon.proofs.Factors.{no_difference, difference_more}
use Rattle.reed_solomon.proofs.sample.Sample.differences.Goals as goal

pub loop-i-init : goal.loop-i-init
loop-i-init c = no_difference (slice_index c.args.self.now.places) c.args.x

pub loop-i-preserved : goal.loop-i-preserved
loop-i-preserved c =
    c.multiply-product.ensures
    ∙ difference_more (slice_index c.args.self.now.places) c.args.x c.loop-i.i c.loop-i.product c.loop-i.invariant
