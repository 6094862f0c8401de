use Rattle.std.proofs.Common.{◌<◌, ℕ, List, length, map, sym, subst, ◌∙◌, ap}
use Rattle.std.specs.Prelude.{slice_index}
use Rattle.std.proofs.lemmas.List.{length-map}
use Rattle.field_base.specs.Field.{IsInverseOrZero}
use Rattle.field_element.specs.Element.{repr_of}
use Rattle.field_element.proofs.element.lanes.invert_elements.Goals as goal

pub returns : goal.returns
returns g c =
    let elements = c.args.elements.now in
    let inverses = c.change_elements.new.elements in
    let copied = c.copy_from_slice.ensures.after in
    let long = ap length copied in
    record {
      count = length-map inverses repr_of ∙ c.change_elements.ensures.long ∙ long ∙ sym (length-map elements repr_of);
      each = λ i below. subst (λ (es : List _). IsInverseOrZero g.K.FieldKernel.product (slice_index (map repr_of es) i)
          (slice_index (map repr_of inverses) i)) copied
          (c.change_elements.ensures.results i
          (subst (λ (n : ℕ). i < n) (length-map elements repr_of ∙ sym long) below));
    }
