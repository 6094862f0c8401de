use Rattle.std.proofs.Common.{subst, ◌≤◌}
use Rattle.field_element.specs.Element.{repr_of}
use Rattle.field_element.specs.lemmas.Element.{same_word}
use Rattle.field_bytes.proofs.Taking.{element_read}
use Rattle.field_element.proofs.bytes.ElementRawDataSerializable.from_le_byte_iter_by_ref.Goals as goal

pub returns-in-Some : goal.returns-in-Some
returns-in-Some g c =
    let room = subst (λ n. g.K.FieldKernel.width ≤ n) g.met.R.LittleEndian.size_law g.met.K.FieldKernel.room_law in
    element_read repr_of g.K.FieldKernel.width c.element_of_word.result room c.in-Some.ensures c.element_of_word.ensures
    (λ x. x.in_range) (λ x y is. same_word x y (g.R.Stored.same_law x.repr y.repr is))
