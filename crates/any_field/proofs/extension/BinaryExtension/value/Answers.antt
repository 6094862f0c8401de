use Rattle.std.proofs.Common.{◌≡◌, arith}
use Rattle.any_field.proofs.HornerSteps.{value-start, value-step, value-end}
use Rattle.any_field.proofs.extension.BinaryExtension.value.Goals as goal

pub loop-left-init : goal.loop-left-init
loop-left-init c =
    value-start c.args.self.degree c.args.self.tail c.args.self.ratio c.args.root c.args.degree c.args.tail c.args.self.context c.requires.tail_fits

pub loop-left-preserved : goal.loop-left-preserved
loop-left-preserved c =
    value-step c.args.self.degree c.args.self.tail c.args.self.ratio c.args.root c.args.degree c.args.tail c.args.self.context c.requires.tail_fits
    c.loop-left.left c.loop-left.sum c.multiply.result c.loop-left-test.true c.loop-left.invariant c.multiply.ensures

pub returns : goal.returns
returns c =
    let none : c.loop-left.left ≡ 0 = omega arith in
    value-end c.args.self.degree c.args.self.tail c.args.self.ratio c.args.root c.args.degree c.args.tail c.args.self.context c.requires.tail_fits
    c.loop-left.left c.loop-left.sum none c.loop-left.invariant
