use Rattle.std.proofs.Common.{◌≡◌, ℕ, slice_index, set, sym, ◌∙◌, ap, arith}
use Rattle.std.proofs.lemmas.List.{get_or-set_same, get_or-set_other, length-set}
use Rattle.field_base.specs.Interpolation.{other_factors}
use Rattle.reed_solomon.specs.ByteFields.{byte_times}
use Rattle.reed_solomon.specs.declared.byte_field.ByteField.TheVariants.{Qr}
use Rattle.reed_solomon.proofs.Samples.{below_next}
use Rattle.reed_solomon.proofs.sample.weights_of.Goals as goal

pub loop-own-preserved : goal.loop-own-preserved
loop-own-preserved c =
    let point = slice_index c.args.places.now in
    let under = λ (j : ℕ). other_factors (byte_times Qr) point j (point j) c.args.count in
    let own = c.loop-own.own in
    let weights = c.loop-own.weights in
    let weight = c.invert.result in (
      length-set weights own weight ∙ c.loop-own.invariant.0,
      λ j below.
          below_next (λ n. byte_times Qr (under n) (slice_index (set weights own weight) n) ≡ 1) own j below
          (λ was. ap (byte_times Qr (under j)) (get_or-set_other weights own j weight 0 (λ e. absurd (omega (arith, was, e)))) ∙ c.loop-own.invariant.1 j was)
          (ap (byte_times Qr (under own)) (get_or-set_same weights own weight 0 (omega (arith, c.loop-own.invariant.0, c.loop-own-test.true, c.requires.few)))
          ∙ ap (λ (d : ℕ). byte_times Qr d weight) (sym c.other_differences.ensures.product) ∙ c.invert.ensures),
    )

pub returns : goal.returns
returns c = λ j below. c.loop-own.invariant.1 j (omega (arith, below, c.loop-own-test.false))
