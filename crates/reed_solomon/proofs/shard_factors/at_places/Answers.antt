use Rattle.std.proofs.Common.{◌≡◌, ◌<◌, slice_index, refl, sym, ap, ◌∙◌, arith}
use Rattle.std.proofs.lemmas.List.{length-set, get_or-set_other}
use Rattle.field_base.specs.Basis.{sum_below}
use Rattle.reed_solomon.specs.ByteFields.{byte_times}
use Rattle.reed_solomon.specs.declared.byte_field.ByteField.TheVariants.{Qr}
use Rattle.reed_solomon.proofs.MissingFactors.{no_factor_placed, zeros_have_no_factor, factor_placed}
use Rattle.reed_solomon.proofs.shard_factors.at_places.Goals as goal

pub loop-j-init : goal.loop-j-init
loop-j-init c = (
  refl,
  λ i other. zeros_have_no_factor 256 i,
  λ total symbol inside. no_factor_placed total symbol (slice_index c.args.factors.now) (slice_index c.args.sample.now.places),
)

pub loop-j-preserved : goal.loop-j-preserved
loop-j-preserved c =
    let j = c.loop-j.j in
    let sample = c.args.sample.now in
    let place = slice_index sample.places in
    let placed = c.loop-j.placed in
    let value = slice_index c.args.factors.now j in
    let now : j < sample.count = c.loop-j-test.true in
    let fits : place j < 256 = c.bytes_fit.ensures j in (
      length-set placed (place j) value ∙ c.loop-j.invariant.0,
      λ i other.
          get_or-set_other placed (place j) i value 0 (λ e. other j (omega arith) (sym e))
          ∙ c.loop-j.invariant.1 i (λ k below. other k (omega (arith, below))),
      λ total symbol inside.
          factor_placed total j symbol (slice_index c.args.factors.now) place placed (inside j (omega arith))
          (omega (arith, fits, c.loop-j.invariant.0))
          (c.loop-j.invariant.1 (place j) (λ k below e. absurd (omega (arith, below, sample.distinct.differ k j (omega (arith, below, now)) now e))))
          (c.loop-j.invariant.2 total symbol (λ k below. inside k (omega (arith, below)))),
    )

pub returns-clause-others : goal.returns-clause-others
returns-clause-others c = λ i other. c.loop-j.invariant.1 i (λ j below. other j (omega (arith, below)))

pub returns-clause-sums : goal.returns-clause-sums
returns-clause-sums c = λ total symbol inside.
    let sample = c.args.sample.now in
    let end : c.loop-j.j ≡ sample.count = omega arith in
    c.loop-j.invariant.2 total symbol (λ j below. inside j (omega (arith, below)))
    ∙ ap (sum_below (λ j. byte_times Qr (slice_index c.args.factors.now j) (symbol (slice_index sample.places j)))) end
