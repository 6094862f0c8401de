use Rattle.std.proofs.Common.{◌≡◌, map, take}
use Rattle.field_base.specs.Basis.{basis_image}
use Rattle.field_element.specs.Element.{repr_of}
use Rattle.field_element.proofs.polynomial.Element+R+Polynomials+M+L.from_tower_vec.Given as goal

-- the images of the elements before the index
abbrev pub invariant-loop-element : goal.invariant-loop-element
invariant-loop-element g l =
    let m = g.M.Modulus in
    map repr_of l.images.items
    ≡ map (λ x. basis_image m.width m.modulus m.images (repr_of x)) (take l.element-index l.elements)
