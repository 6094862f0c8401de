use Rattle.std.proofs.Common.{◌<◌, ◌%◌, ◌^◌, ℕ, List, [], ◌∷◌, ◌++◌, length, map, sym, ◌∙◌, ap, ap₂, arith}
use Rattle.std.proofs.lemmas.List.{map-append, map_more}
use native.Mathlib.Nat.{mod-eq_of_lt}
use Rattle.field_base.specs.Basis.{basis_image}
use Rattle.field_element.specs.Element.{repr_of}
use Rattle.field_element.proofs.polynomial.Element+R+Polynomials+M+L.from_tower_vec.Goals as goal

pub loop-element-preserved : goal.loop-element-preserved
loop-element-preserved g c =
    let m = g.M.Modulus in
    let elements = c.args.elements.now in
    let index = c.loop-element.element-index in
    let element = c.element-item in
    let within : index < length elements = omega arith in
    let image =
    c.of_word.ensures
    ∙ ap (λ (n : ℕ). n % 2 ^ m.width)
    (c.to_polynomial.ensures ∙ ap (λ w. basis_image m.width m.modulus m.images (g.R.Stored.number w)) c.word.ensures)
    ∙ mod-eq_of_lt (m.isomorphism_law.homomorphism.below (repr_of element.result))
    ∙ ap (λ x. basis_image m.width m.modulus m.images (repr_of x)) element.is in
    ap (map repr_of) c.in_ok-push.ensures.items
    ∙ map-append repr_of c.loop-element.images.items (c.of_word.result ∷ [])
    ∙ ap₂ (λ (xs : List ℕ) (v : ℕ). xs ++ v ∷ []) c.loop-element.invariant image
    ∙ sym (map_more (λ x. basis_image m.width m.modulus m.images (repr_of x)) elements index element.result within)
