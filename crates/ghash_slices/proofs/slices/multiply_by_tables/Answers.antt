use Rattle.std.proofs.Common.{◌≡◌, ℕ, length, map, subst, arith}
use Rattle.std.proofs.lemmas.List.{length-map}
use Rattle.ghash_slices.specs.LowStages.{ghash_product}
use Rattle.ghash_slices.proofs.SliceBlocks.{held_map}
use Rattle.ghash_slices.proofs.slices.multiply_by_tables.Goals as goal

pub returns : goal.returns
returns g c =
    let value = g.W.Reads.number in
    let old = map value c.args.values.now in
    let new = map value c.multiply_each.new.values in
    let long = length-map c.args.values.now value in
    subst (λ (s : ℕ). new ≡ map (ghash_product s) old) c.new.ensures
    (held_map (ghash_product c.new.result.scalar) (length c.args.values.now) old new (omega (arith, long)) c.multiply_each.ensures)
