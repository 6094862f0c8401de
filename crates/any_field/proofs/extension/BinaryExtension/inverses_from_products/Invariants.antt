use Rattle.std.proofs.Common.{◌%◌, ◌^◌, ℕ}
use Rattle.field_slices.proofs.BatchInversion.{InvertedFrom}
use Rattle.any_field.specs.Contexts.{field_product}
use Rattle.any_field.proofs.InverseSlices.{AreBelow}
use Rattle.any_field.proofs.extension.BinaryExtension.inverses_from_products.Given as goal

-- the places before this one still hold products, the others inverses, and what is left is the inverse of the product before it
abbrev pub invariant-loop-place : goal.invariant-loop-place
invariant-loop-place l =
    InvertedFrom (field_product l.fn.self.degree l.fn.self.tail) (λ (x : ℕ). x % 2 ^ l.fn.self.degree) l.words l.products l.place l.rest
    × AreBelow l.fn.self.degree l.products l.place
