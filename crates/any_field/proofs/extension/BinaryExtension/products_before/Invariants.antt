use Rattle.std.proofs.Common.{◌≡◌, ◌%◌, ◌^◌, ◌<◌, ℕ, map}
use Rattle.std.specs.Prelude.{slice_index}
use Rattle.field_slices.specs.Inverses.{nonzero_product}
use Rattle.any_field.specs.Contexts.{field_product}
use Rattle.any_field.proofs.extension.BinaryExtension.products_before.Given as goal

-- the places before this one hold the products before them, and the product so far is that of all words before
abbrev pub invariant-loop-place : goal.invariant-loop-place
invariant-loop-place l =
    let low = λ (x : ℕ). x % 2 ^ l.fn.self.degree in
    let times = field_product l.fn.self.degree l.fn.self.tail in
    let number = slice_index (map low l.words) in
    ((i : ℕ) → i < l.place → slice_index (map low l.products) i ≡ nonzero_product times number i)
    × (low l.product ≡ nonzero_product times number l.place)
