use Rattle.std.proofs.Common.{◌≡◌, ℕ, ◌+◌, ◌*◌, ◌/◌, length, map, sym, ◌∙◌, subst, arith}
use Rattle.std.specs.Prelude.{slice_index}
use Rattle.std.proofs.lemmas.List.{length-map}
use Rattle.ghash_slices.specs.Blocks.{HoldsPlaces, added_at}
use Rattle.ghash_slices.specs.LowStages.{ghash_product}
use Rattle.ghash_slices.specs.Stages.{add_multiple}
use Rattle.ghash_slices.proofs.AddedBlocks.{block_added, more_added}
use Rattle.ghash_slices.proofs.SliceBlocks.{held_zip2}
use Rattle.ghash_slices.proofs.slices.add_in_lanes.Goals as goal

pub loop-pair-preserved : goal.loop-pair-preserved
loop-pair-preserved g c =
    let value = g.W.Reads.number in
    let scalar = c.args.multiples.now.scalar in
    let old = map value c.args.values.now in
    let others = map value c.args.others.now in
    let start : ℕ = 32 * c.loop-pair.pair in
    let now = map value c.loop-pair.values in
    let mid = map value c.add_bytes.new.values in
    let new = map value c.add_bytes-in-loop-pair.new.values in
    let products = c.products_of_two.ensures (λ e. slice_index others (start + e)) (λ e. slice_index others (start + 16 + e))
    c.bytes_from-first.ensures c.bytes_from-second.ensures in
    let first = block_added scalar start (start + 16) now others mid
    (c.add_bytes.ensures (λ e. ghash_product scalar (slice_index others (start + e))) products.0) in
    let second = block_added scalar (start + 16) (start + 16 + 16) mid others new
    (c.add_bytes-in-loop-pair.ensures (λ e. ghash_product scalar (slice_index others (start + 16 + e))) products.1) in
    let next : start + 16 + 16 ≡ 32 * (c.loop-pair.pair + 1) = omega arith in
    subst (λ (n : ℕ). HoldsPlaces (added_at scalar old others) 0 n old new) next
    (more_added scalar 0 (start + 16) (start + 16 + 16) old others mid new (omega arith) (omega arith)
    (more_added scalar 0 start (start + 16) old others now mid (omega arith) (omega arith) c.loop-pair.invariant first) second)

pub returns : goal.returns
returns g c =
    let value = g.W.Reads.number in
    let scalar = c.args.multiples.now.scalar in
    let old = map value c.args.values.now in
    let others = map value c.args.others.now in
    let now = map value c.loop-pair.values in
    let long = length-map c.args.values.now value in
    let long_other = length-map c.args.others.now value in
    let long_now = length-map c.loop-pair.values value in
    let same = c.loop-pair.invariant.same_length in
    let pairs : ℕ = length c.args.values.now / 32 in
    let done : 32 * c.loop-pair.pair ≡ 16 * (2 * pairs) = omega arith in
    let all : length c.loop-pair.values ≡ length c.args.values.now = omega (arith, long, long_now, same) in
    held_zip2 (add_multiple ghash_product scalar) (length c.args.values.now) old others (map value c.add_blocks.new.values)
    (long ∙ c.requires ∙ sym long_other) (omega (arith, long))
    (more_added scalar 0 (16 * (2 * pairs)) (length c.args.values.now) old others now (map value c.add_blocks.new.values) (omega arith)
    (omega arith)
    (subst (λ (n : ℕ). HoldsPlaces (added_at scalar old others) 0 n old now) done c.loop-pair.invariant)
    (subst (λ (n : ℕ). HoldsPlaces (added_at scalar now others) (16 * (2 * pairs)) n now
    (map value c.add_blocks.new.values)) all c.add_blocks.ensures))
