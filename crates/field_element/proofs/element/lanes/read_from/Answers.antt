use Rattle.std.proofs.Common.{◌+◌, ◌-◌, ◌<◌, ℕ, List, length, sym, ◌∙◌, ap, arith}
use Rattle.std.specs.Prelude.{slice_index}
use Rattle.std.proofs.lemmas.List.{get_or-map}
use Rattle.additive_transforms.proofs.Written.{read_lent}
use Rattle.field_element.specs.Element.{repr_of}
use Rattle.field_element.proofs.element.lanes.read_from.Goals as goal

pub returns-clause-read : goal.returns-clause-read
returns-clause-read g c k below d =
    let start = c.args.start in
    let count = start + length c.args.words.now - start in
    let lent : k < count = omega (arith, below, c.read_each.auto.words) in
    sym (get_or-map g.R.Stored.number c.read_each.new.words k d 0 below) ∙ ap (λ (ns : List ℕ). slice_index ns k) c.read_each.ensures
    ∙ read_lent repr_of start count c.args.elements.now k lent
