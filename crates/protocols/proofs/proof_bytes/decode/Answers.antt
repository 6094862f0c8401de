use Rattle.std.proofs.Common.{length, sym, ◌∙◌, ap, arith}
use Rattle.protocols.proofs.ProofBytes.{all-read, element-read, no-part, no-proof, part-fits, part-size, same-bytes, same-proof}
use Rattle.protocols.proofs.proof_bytes.decode.Goals as goal

pub row_of-part-requires : goal.row_of-part-requires
row_of-part-requires g c = part-fits (length c.args.bytes.now) c.elements.index c.NUM_BYTES-size.result (omega arith)

pub element_of-requires : goal.element_of-requires
element_of-requires g c =
    ap length c.row_of-part.ensures ∙ part-size c.args.bytes.now c.elements.index c.NUM_BYTES-size.result (omega arith) ∙ c.NUM_BYTES-size.ensures

pub elements-preserved : goal.elements-preserved
elements-preserved g c =
    element-read g.F.RawDataSerializable.NUM_BYTES g.F.Represented.repr g.met.F.RawDataSerializable.bytes_law c.args.bytes.now c.NUM_BYTES-size.result
    c.NUM_BYTES-size.ensures c.row_of-part.result.now c.elements.index c.elements.elements.items _ c.in-Some.element c.row_of-part.ensures
    c.in-Some.ensures.some c.in_ok-push-in-Some.ensures.items c.elements.invariant

pub returns-then-bytes-size-ne0-clause-none : goal.returns-then-bytes-size-ne0-clause-none
returns-then-bytes-size-ne0-clause-none g c =
    no-proof g.F.RawDataSerializable.NUM_BYTES g.F.Represented.repr g.met.F.RawDataSerializable.bytes_law c.args.bytes.now c.NUM_BYTES-size.result
    c.NUM_BYTES-size.ensures c.if-bytes-size-ne0.true

pub returns-in-None-clause-none : goal.returns-in-None-clause-none
returns-in-None-clause-none g c =
    no-part g.F.RawDataSerializable.NUM_BYTES g.F.Represented.repr g.met.F.RawDataSerializable.bytes_law c.args.bytes.now c.NUM_BYTES-size.result
    c.NUM_BYTES-size.ensures c.row_of-part.result.now c.elements.index c.row_of-part.ensures (omega arith) c.in-None.ensures.none

pub returns-clause-written : goal.returns-clause-written
returns-clause-written g c =
    all-read g.F.RawDataSerializable.NUM_BYTES g.F.Represented.repr g.met.F.RawDataSerializable.bytes_law c.args.bytes.now c.NUM_BYTES-size.result
    c.NUM_BYTES-size.ensures c.elements.index c.elements.elements.items (omega arith) (omega arith) c.elements.invariant

pub returns-clause-own : goal.returns-clause-own
returns-clause-own g c = λ others is.
    let field = g.F.Represented in
    let size = g.F.RawDataSerializable.NUM_BYTES in
    let some = g.met.F.RawDataSerializable.bytes_law in
    same-proof size field.repr some (same-bytes size field.repr field.width g.met.F.RawDataSerializable.room_law field.range_law field.same_law) c.elements.elements.items others
    (sym (all-read size field.repr some c.args.bytes.now c.NUM_BYTES-size.result c.NUM_BYTES-size.ensures c.elements.index c.elements.elements.items (omega arith)
    (omega arith) c.elements.invariant)
    ∙ is)
