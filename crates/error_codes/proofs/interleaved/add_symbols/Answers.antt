use Rattle.std.proofs.Common.{ℕ, List, ◌∙◌, ap, arith, slice_index, length}
use Rattle.std.specs.Prelude.{bit_xor}
use Rattle.std.proofs.lemmas.List.{get_or-map, length-map}
use Rattle.field_base.specs.LinearMaps.{linear_image}
use Rattle.error_codes.proofs.CodeValues.{entry-over}
use Rattle.error_codes.proofs.interleaved.add_symbols.Goals as goal

pub loop-c-preserved : goal.loop-c-preserved
loop-c-preserved c =
    entry-over c.loop-c.c _ (λ n. bit_xor (slice_index c.map_bytes.new.bytes n) (slice_index c.args.symbols.now n)) c.loop-c.values
    c.map_bytes.new.bytes (omega (arith, c.loop-c-test.true, c.loop-c.auto.values))
    (ap (λ (v : ℕ). bit_xor v (slice_index c.args.symbols.now c.loop-c.c)) (c.loop-c.invariant.1 c.loop-c.c (omega arith)))
    c.loop-c.invariant

pub returns-clause-added : goal.returns-clause-added
returns-clause-added c = λ k below.
    let old = c.args.values.now in
    let images = linear_image c.args.images.now in
    let long = ap (λ (l : List ℕ). length l) c.map_bytes.ensures ∙ length-map old images in
    c.loop-c.invariant.0 k (omega (arith, below, c.loop-c-test.false, long))
    ∙ ap (λ (v : ℕ). bit_xor v (slice_index c.args.symbols.now k))
    (ap (λ (l : List ℕ). slice_index l k) c.map_bytes.ensures ∙ get_or-map images old k 0 0 below)
