use Rattle.std.proofs.Common.{sym}
use Rattle.field_base.specs.Remainder.{mul_mod}
use Rattle.any_field.specs.Contexts.{with_top}
use Rattle.field_base.proofs.PowerLemmas.{repeated_square-none}
use Rattle.any_field.proofs.WordRemainders.{context-ring, squared-more}
use Rattle.any_field.proofs.reduction.square_times.Goals as goal

pub loop-init : goal.loop-init
loop-init c = record {
  squared =
      sym (repeated_square-none c.args.width 1 (mul_mod c.args.width (with_top c.args.width c.args.tail))
      (context-ring c.args.width c.args.tail c.args.ratio c.requires.context) c.args.x c.requires.fits);
  fits = c.requires.fits;
}

pub loop-preserved : goal.loop-preserved
loop-preserved c =
    let more = squared-more c.args.width c.args.tail c.args.ratio c.loop.counter c.args.x c.loop.moved c.square-moved.result c.requires.context c.loop.invariant.squared c.square-moved.ensures in
    record { squared = more.0; fits = more.1 }
