use Rattle.std.proofs.Common.{slice_index, ◌∙◌, ap, ℕ, arith}
use Rattle.field_base.specs.Interpolation.{lagrange}
use Rattle.reed_solomon.specs.ByteFields.{byte_times}
use Rattle.reed_solomon.specs.declared.byte_field.ByteField.TheVariants.{Qr}
use Rattle.reed_solomon.proofs.Factors.{difference-nonzero, weighed_factor}
use Rattle.reed_solomon.proofs.GroupWriting.{entry_next}
use Rattle.reed_solomon.proofs.sample.Sample.factors.Goals as goal

pub loop-j-preserved : goal.loop-j-preserved
loop-j-preserved c =
    let point = slice_index c.args.self.now.places in
    let within = c.loop-j-test.true in
    entry_next (λ j. lagrange 8 (byte_times Qr) point c.args.self.now.count j c.args.x) 256 c.loop-j.j _ c.loop-j.factors c.loop-j.invariant.0
    (omega (arith, c.args.self.now.few, within)) c.loop-j.invariant.1
    (c.multiply.ensures
    ∙ ap (λ (z : ℕ). byte_times Qr z (slice_index c.args.self.now.weights c.loop-j.j)) c.multiply-others.ensures
    ∙ weighed_factor point c.args.self.now.count c.loop-j.j c.args.x c.differences-all.result c.invert.result
    (slice_index c.args.self.now.weights c.loop-j.j) within (c.bytes_fit.ensures c.loop-j.j) c.differences-all.ensures c.invert.ensures
    (c.args.self.now.weighed c.loop-j.j within))

pub invert-requires : goal.invert-requires
invert-requires c =
    difference-nonzero c.args.x (slice_index c.args.self.now.places c.loop-j.j) (c.requires.apart c.loop-j.j c.loop-j-test.true)
