use Rattle.std.proofs.Common.{◌≡◌, ◌++◌, map, take, drop}
use Rattle.field_base.specs.Basis.{basis_image, ghash_images}
use Rattle.field_base.specs.Remainder.{ghash_modulus}
use Rattle.word_tables.proofs.basis.by_bytes.to_tower_slice_128.Given as goal

-- the polynomials were the images of the elements before the index, and the others as they are
abbrev pub invariant-loop-x : goal.invariant-loop-x
invariant-loop-x l = map (basis_image 128 ghash_modulus ghash_images) (take l.x-index l.xs) ++ drop l.x-index l.xs ≡ l.fn.xs
