use Rattle.std.proofs.Common.{◌+◌, map}
use Rattle.std.specs.Prelude.{slice_index}
use Rattle.ghash_slices.specs.LowStages.{ghash_product}
use Rattle.ghash_slices.proofs.AddedBlocks.{block_added}
use Rattle.ghash_slices.proofs.slices.add_block.Goals as goal

pub returns : goal.returns
returns g c =
    let value = g.W.Reads.number in
    let others = map value c.args.others.now in
    block_added c.args.multiples.now.scalar c.args.start (c.args.start + 16) (map value c.args.values.now) others (map value c.add_bytes.new.values)
    (c.add_bytes.ensures (λ e. ghash_product c.args.multiples.now.scalar (slice_index others (c.args.start + e)))
    (c.products.ensures (λ e. slice_index others (c.args.start + e)) c.bytes_from.ensures))
