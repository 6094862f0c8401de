use Rattle.std.proofs.Common.{◌*◌, arith}
use Rattle.std.proofs.lemmas.Grind.{div_ceil_times}
use Rattle.field_base.specs.Tower.{tower_mul}
use Rattle.bits_packed.specs.BitMatrices.{bit_entry, words_for}
use Rattle.bits_packed.proofs.BitRows.{same_words, space_of_columns}
use Rattle.bits_packed.proofs.reduction.row_reduce_augmented.Goals as goal

pub returns-clause-whole : goal.returns-clause-whole
returns-clause-whole c = (same_words c.div_ceil-words.ensures c.reduce_words.ensures).space

pub returns-clause-reduced : goal.returns-clause-reduced
returns-clause-reduced c =
    let columns = c.args.columns in
    let words = words_for columns in
    let enough = (div_ceil_times columns 64 (omega arith)).0 in
    let whole = same_words c.div_ceil-words.ensures c.reduce_words.ensures in
    record {
      shape = whole.shape;
      room = whole.room;
      reduced = whole.reduced;
      rest = whole.rest;
      space = space_of_columns (tower_mul 0) c.args.rows (64 * words) columns (λ j. j) (λ j inside. omega (arith, inside, enough))
          (bit_entry words c.args.matrix.now) (bit_entry words c.reduce_words.new.matrix) whole.space;
    }
