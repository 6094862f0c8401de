use Rattle.std.proofs.Common.{◌*◌, ◌/◌, ◌%◌, ◌∙◌, arith, refl, set, sym}
use Rattle.std.specs.Prelude.{slice_index}
use Rattle.bits_packed.specs.BitMatrices.{bit_entry}
use Rattle.bits_packed.proofs.BitPivots.{pivot-pending}
use Rattle.bits_packed.proofs.PendingSums.{present-before}
use Rattle.bits_packed.proofs.reduction.make_pivot.Goals as goal

pub bring_nonzero-requires-clause-rank : goal.bring_nonzero-requires-clause-rank
bring_nonzero-requires-clause-rank c =
    record {
      shape = c.requires.rank.shape;
      row_within = c.requires.rank.row_within;
      column_within = omega (arith, c.requires.rank.column_within);
    }

pub bring_nonzero-requires-clause-zeros : goal.bring_nonzero-requires-clause-zeros
bring_nonzero-requires-clause-zeros c = λ j before.
    sym (present-before c.args.shape.rows (64 * (c.args.column / 64)) (slice_index c.args.places.now)
    (bit_entry c.args.shape.words c.args.matrix.now) c.args.row j (omega (arith, before)))
    ∙ c.requires.row_zeros j (omega (arith, before))

pub add_entry-requires-clause-place : goal.add_entry-requires-clause-place
add_entry-requires-clause-place c =
    record {
      shape = c.bring_nonzero.ensures.shape ∙ c.requires.rank.shape;
      row_within = c.requires.rank.row_within;
      column_within = c.requires.rank.column_within;
    }

pub add_word_of-requires : goal.add_word_of-requires
add_word_of-requires c =
    record {
      row = record {
        shape = c.add_entry.ensures.shape ∙ c.bring_nonzero.ensures.shape ∙ c.requires.rank.shape;
        row_within = c.requires.rank.row_within;
        column_within = c.requires.rank.column_within;
      };
    }

pub returns : goal.returns
returns c =
    let next = set c.args.places.now (c.args.column % 64) c.args.rank in
    let made = pivot-pending c.args.shape.words c.args.places.now next c.args.matrix.now c.requires.rank.row_within c.requires.row
    c.requires.behind c.requires.rank.column_within c.requires.places c.requires.nonzero c.requires.first c.requires.rank_zeros
    c.requires.row_zeros c.bring_nonzero.ensures c.add_entry.ensures c.add_word_of.ensures (omega (arith, c.told-places)) refl in
    record {
      shape = c.add_word_of.ensures.shape ∙ c.add_entry.ensures.shape ∙ c.bring_nonzero.ensures.shape;
      places = made.1;
      leading = made.0.leading;
      alone = made.0.alone;
      stays = made.0.stays;
      space = made.0.space;
    }
