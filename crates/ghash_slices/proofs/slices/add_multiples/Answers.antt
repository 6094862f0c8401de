use Rattle.std.proofs.Common.{length, map, sym, ◌∙◌, arith}
use Rattle.std.proofs.lemmas.List.{length-map}
use Rattle.ghash_slices.specs.LowStages.{ghash_product}
use Rattle.ghash_slices.specs.Stages.{add_multiple}
use Rattle.ghash_slices.proofs.SliceBlocks.{held_zip2}
use Rattle.ghash_slices.proofs.slices.add_multiples.Goals as goal

pub returns-then-values-lt-LEAST_IN_LANES : goal.returns-then-values-lt-LEAST_IN_LANES
returns-then-values-lt-LEAST_IN_LANES g c =
    let value = g.W.Reads.number in
    let long = length-map c.args.values.now value in
    held_zip2 (add_multiple ghash_product c.args.scalar) (length c.args.values.now) (map value c.args.values.now)
    (map value c.args.others.now) (map value c.add_few.new.values) (long ∙ c.requires ∙ sym (length-map c.args.others.now value))
    (omega (arith, long)) c.add_few.ensures
