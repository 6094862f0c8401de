use Rattle.std.proofs.Common.{sym, ◌∙◌, ap₂, subst, ◌<◌, ◌^◌}
use Rattle.field_base.proofs.PowerLemmas.{repeated_square-none, repeated_square_more}
use Rattle.field_element.proofs.element.ring.squarings.Goals as goal

pub loop-init : goal.loop-init
loop-init g c =
    let k = g.K.FieldKernel in
    (c.requires, sym (repeated_square-none k.width 1 k.product k.field_law.ring (g.R.Stored.number c.args.word) c.requires))

pub loop-preserved : goal.loop-preserved
loop-preserved g c =
    let k = g.K.FieldKernel in (
      subst (λ n. n < 2 ^ k.width) (sym c.square-squared.ensures) (k.field_law.ring.below (g.R.Stored.number c.loop.squared) (g.R.Stored.number c.loop.squared)),
      c.square-squared.ensures ∙ ap₂ k.product c.loop.invariant.1 c.loop.invariant.1
          ∙ sym (repeated_square_more k.width 1 k.product k.field_law.ring c.loop.counter (g.R.Stored.number c.args.word)),
    )
