use Rattle.std.proofs.Common.{◌≡◌, ℕ, ◌+◌, arith, subst}
use Rattle.std.specs.Prelude.{slice_index}
use Rattle.bits_packed.specs.BitMatrices.{AreWordsAdded}
use Rattle.bits_packed.proofs.WordColumns.{strip_sums, sum_behind, words_added_none}
use Rattle.bits_packed.proofs.pending.add_to_strip.Goals as goal

pub returns-then-width-ne0-clause-sums : goal.returns-then-width-ne0-clause-sums
returns-then-width-ne0-clause-sums c =
    strip_sums c.args.strip.words c.args.word c.args.rows c.args.strip.start c.args.strip.width (slice_index c.args.places.now)
    c.write_tables.new.tables c.args.matrix.now c.add_own.new.matrix c.write_tables.ensures.entries c.add_own.ensures

pub returns-else-width-ne0-clause-sums : goal.returns-else-width-ne0-clause-sums
returns-else-width-ne0-clause-sums c =
    let none : c.args.strip.start ≡ c.args.strip.start + c.args.strip.width = omega (arith, c.if-width-ne0.false) in
    let sums = sum_behind c.args.rows c.args.strip.words c.args.word (slice_index c.args.places.now) c.args.matrix.now in
    subst (λ (n : ℕ). AreWordsAdded c.args.strip.words c.args.strip.start n c.args.rows sums c.args.matrix.now c.args.matrix.now) none
    (words_added_none c.args.strip.words c.args.strip.start c.args.rows sums c.args.matrix.now)
