use Rattle.std.proofs.Common.{◌+◌, ◌++◌, ℕ, drop, slice_index, ◌∙◌, ap, arith}
use Rattle.std.specs.Prelude.{bit_xor}
use Rattle.field_base.specs.LinearMaps.{linear_image}
use Rattle.reed_solomon.proofs.ByteFields.{bytes_are_fields}
use Rattle.error_codes.proofs.CodeValues.{entry-over, front-mapped}
use Rattle.error_codes.proofs.encoder.shift_rest.Goals as goal

pub loop-j-preserved : goal.loop-j-preserved
loop-j-preserved c =
    let old = c.args.rest.now in
    let products = c.map_bytes.new.bytes ++ drop (c.args.count + 1) c.args.generator.now in
    entry-over c.loop-j.j _ (λ n. bit_xor (slice_index old (n + 1)) (slice_index products (n + 1))) c.loop-j.rest old
    (omega arith)
    (ap (λ (v : ℕ). bit_xor v (slice_index products (c.loop-j.j + 1))) (c.loop-j.invariant.1 (c.loop-j.j + 1) (omega arith)))
    c.loop-j.invariant

pub returns-clause-shifted : goal.returns-clause-shifted
returns-clause-shifted c = λ j below.
    let generator = c.args.generator.now in
    c.loop-j.invariant.0 j (omega (arith, below, c.loop-j-test.false))
    ∙ ap (bit_xor (slice_index c.args.rest.now (j + 1)))
    (front-mapped (linear_image c.images_of.result) (c.args.count + 1) generator c.map_bytes.new.bytes (j + 1)
    (omega (arith, c.requires, c.told-generator)) (omega (arith, below)) c.map_bytes.ensures
    ∙ c.images_of.ensures (slice_index generator (j + 1)) (c.bytes_fit.ensures (j + 1))
    ∙ (bytes_are_fields c.args.field).ring.comm (slice_index generator (j + 1)) _)
