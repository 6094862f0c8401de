use Rattle.std.proofs.Common.{◌≡◌, ℕ, length, map, sym, ◌∙◌, subst, arith}
use Rattle.std.specs.Simd.Lanes.{zip2}
use Rattle.std.proofs.lemmas.List.{length-map}
use Rattle.ghash_slices.specs.LowStages.{ghash_product}
use Rattle.ghash_slices.specs.Stages.{add_multiple}
use Rattle.ghash_slices.proofs.SliceBlocks.{held_zip2}
use Rattle.ghash_slices.proofs.slices.add_by_tables.Goals as goal

pub returns : goal.returns
returns g c =
    let value = g.W.Reads.number in
    let old = map value c.args.values.now in
    let others = map value c.args.others.now in
    let new = map value c.add_products.new.values in
    let long = length-map c.args.values.now value in
    subst (λ (s : ℕ). new ≡ zip2 (add_multiple ghash_product s) old others) c.new.ensures
    (held_zip2 (add_multiple ghash_product c.new.result.scalar) (length c.args.values.now) old others new
    (long ∙ c.requires ∙ sym (length-map c.args.others.now value)) (omega (arith, long)) c.add_products.ensures)
