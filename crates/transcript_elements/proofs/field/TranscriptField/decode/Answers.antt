use Rattle.std.proofs.Common.{◌∙◌, ap, arith, length, Ok}
use Rattle.std.proofs.lemmas.List.{length-append}
use Rattle.field_bytes.specs.BigEndian.{be_bytes}
use Rattle.field_bytes.proofs.LowBytes.{be-begins, decoded, length-be, same_number}
use Rattle.transcript_elements.proofs.field.TranscriptField.decode.Goals as goal

pub returns-then-bytes-NUM_BYTES-clause-encoded : goal.returns-then-bytes-NUM_BYTES-clause-encoded
returns-then-bytes-NUM_BYTES-clause-encoded g c x rest is =
    let size = g.Self.RawDataSerializable.NUM_BYTES in
    let long = length-be size (g.Self.Represented.repr x) in
    let whole = ap length is ∙ length-append (be_bytes size (g.Self.Represented.repr x)) rest in
    absurd (omega (arith, long, whole, c.if-bytes-NUM_BYTES.true, c.NUM_BYTES.ensures))

pub returns-clause-ok : goal.returns-clause-ok
returns-clause-ok g c =
    let size = g.Self.RawDataSerializable.NUM_BYTES in
    let read = rw c.NUM_BYTES-2.ensures at c.of_high_first.ensures in
    decoded size g.Self.Represented.width c.args.bytes.now _ (λ k. omega (arith, c.type_inv.bytes k)) (omega (arith, c.if-bytes-NUM_BYTES.false, c.NUM_BYTES.ensures))
    g.met.Self.TranscriptField.whole_law read

pub returns-clause-encoded : goal.returns-clause-encoded
returns-clause-encoded g c x rest is =
    let size = g.Self.RawDataSerializable.NUM_BYTES in
    let read = rw c.NUM_BYTES-2.ensures at c.of_high_first.ensures in
    let same =
    decoded size g.Self.Represented.width c.args.bytes.now _ (λ k. omega (arith, c.type_inv.bytes k)) (omega (arith, c.if-bytes-NUM_BYTES.false, c.NUM_BYTES.ensures))
    g.met.Self.TranscriptField.whole_law read
    ∙ be-begins size (g.Self.Represented.repr x) c.args.bytes.now rest is in
    let law = g.Self.Represented.range_law in
    ap Ok (g.Self.Represented.same_law c.of_high_first.result x
    (same_number size g.Self.Represented.width _ _ g.met.Self.TranscriptField.whole_law (law c.of_high_first.result) (law x) same))
