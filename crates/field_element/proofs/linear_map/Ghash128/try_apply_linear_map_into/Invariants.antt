use Rattle.std.proofs.Common.{◌≡◌, map, take}
use Rattle.field_base.specs.LinearMaps.{linear_image}
use Rattle.field_element.specs.Element.{repr_of}
use Rattle.field_element.proofs.linear_map.Ghash128.try_apply_linear_map_into.Given as goal

-- the elements before are mapped
abbrev pub invariant-loop-place : goal.invariant-loop-place
invariant-loop-place l =
    map repr_of (take l.place l.output)
    ≡ map (λ x. linear_image (map repr_of l.fn.images) (repr_of x)) (take l.place l.input)
