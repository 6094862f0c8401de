use Rattle.std.proofs.Common.{◌≡◌, ◌<◌, ℕ, map}
use Rattle.std.specs.Prelude.{slice_index}
use Rattle.field_slices.specs.Inverses.{nonzero_product}
use Rattle.field_slices.proofs.inversion.products_before.Given as goal

-- the places before this one hold the products before them, and the product so far is that of all elements before
abbrev pub invariant-loop-place : goal.invariant-loop-place
invariant-loop-place g l =
    let value = g.S.Scalars.number l.field in
    let times = g.S.Scalars.product l.field in
    let number = slice_index (map value l.values) in
    ((i : ℕ) → i < l.place → slice_index (map value l.products) i ≡ nonzero_product times number i)
    × (value l.product ≡ nonzero_product times number l.place)
