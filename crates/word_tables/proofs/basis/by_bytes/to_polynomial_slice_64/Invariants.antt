use Rattle.std.proofs.Common.{◌≡◌, ◌++◌, map, take, drop}
use Rattle.field_base.specs.Basis.{basis_image, poly64_images}
use Rattle.field_base.specs.Remainder.{poly64_modulus}
use Rattle.word_tables.proofs.basis.by_bytes.to_polynomial_slice_64.Given as goal

-- the elements before the index are images, the others are as they were
abbrev pub invariant-loop-x : goal.invariant-loop-x
invariant-loop-x l = l.xs ≡ map (basis_image 64 poly64_modulus poly64_images) (take l.x-index l.fn.xs) ++ drop l.x-index l.fn.xs
