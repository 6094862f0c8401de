use Rattle.std.proofs.Common.{◌*◌}
use Rattle.std.specs.Prelude.{slice_index}
use Rattle.bits_packed.specs.BitMatrices.{bit_entry}
use Rattle.bits_packed.proofs.WordColumns.{no_sums, sums_added}
use Rattle.bits_packed.proofs.pending.add_sums.Goals as goal

pub returns-then-mask-ne0-clause-entries : goal.returns-then-mask-ne0-clause-entries
returns-then-mask-ne0-clause-entries c =
    sums_added c.args.shape.rows c.args.shape.words c.args.word c.pivot_mask-mask.result (slice_index c.args.places.now) c.args.matrix.now
    c.add_behind.new.matrix c.clear_bits.new.matrix c.set_pivots.new.matrix c.requires.word c.pivot_mask-mask.ensures
    c.add_behind.ensures.sums c.clear_bits.ensures c.set_pivots.ensures

pub returns-else-mask-ne0-clause-entries : goal.returns-else-mask-ne0-clause-entries
returns-else-mask-ne0-clause-entries c = λ i j inside fits.
    no_sums c.args.shape.rows (64 * c.args.word) c.pivot_mask-mask.result (slice_index c.args.places.now)
    (bit_entry c.args.shape.words c.args.matrix.now) c.if-mask-ne0.false c.pivot_mask-mask.ensures i j
