use Rattle.std.proofs.Common.{◌≡◌, ℕ, ◌*◌, ◌<◌, List, ◌∙◌, ap, arith, subst, sym}
use Rattle.std.proofs.lemmas.Grind.{div_ceil_times}
use Rattle.bits_packed.specs.BitMatrices.{bit_entry, entry_within, words_for}
use Rattle.bits_packed.proofs.PendingSums.{entry-inside, entry-none}
use Rattle.bits_packed.proofs.transposes.transpose_into.Goals as goal

pub transpose_words-requires-clause-source : goal.transpose_words-requires-clause-source
transpose_words-requires-clause-source c = c.requires.source ∙ ap (λ (n : ℕ). c.args.rows * n) (sym c.div_ceil.ensures)

pub transpose_words-requires-clause-shape : goal.transpose_words-requires-clause-shape
transpose_words-requires-clause-shape c = c.requires.shape ∙ ap (λ (n : ℕ). c.args.columns * n) (sym c.div_ceil-2.ensures)

pub transpose_words-requires-clause-rows : goal.transpose_words-requires-clause-rows
transpose_words-requires-clause-rows c =
    let few = (div_ceil_times c.args.rows 64 (omega arith)).1 in omega (arith, few, c.div_ceil-2.ensures)

pub transpose_words-requires-clause-columns : goal.transpose_words-requires-clause-columns
transpose_words-requires-clause-columns c =
    let enough = (div_ceil_times c.args.columns 64 (omega arith)).0 in omega (arith, enough, c.div_ceil.ensures)

pub transpose_words-requires-clause-few : goal.transpose_words-requires-clause-few
transpose_words-requires-clause-few c =
    let few = (div_ceil_times c.args.columns 64 (omega arith)).1 in omega (arith, few, c.div_ceil.ensures)

-- the words of the rows are as many as they need
in_words : (rows columns from to : ℕ) (source target : List ℕ) → from ≡ words_for columns → to ≡ words_for rows
    → ((i j : ℕ) → i < columns → j < 64 * to → bit_entry to target i j ≡ entry_within rows (bit_entry from source) j i)
    → (i j : ℕ) → i < columns → j < 64 * words_for rows
    → bit_entry (words_for rows) target i j ≡ entry_within rows (bit_entry (words_for columns) source) j i
in_words rows columns from to source target from_is to_is entries =
    subst (λ (n : ℕ). (i j : ℕ) → i < columns → j < 64 * n → bit_entry n target i j ≡ entry_within rows (bit_entry (words_for columns) source) j i)
    to_is
    (subst (λ (n : ℕ). (i j : ℕ) → i < columns → j < 64 * to → bit_entry to target i j ≡ entry_within rows (bit_entry n source) j i)
    from_is entries)

pub returns-clause-entries : goal.returns-clause-entries
returns-clause-entries c = λ i j inside fits.
    let enough = (div_ceil_times c.args.rows 64 (omega arith)).0 in
    in_words c.args.rows c.args.columns c.div_ceil.result c.div_ceil-2.result c.args.source.now c.transpose_words.new.target c.div_ceil.ensures
    c.div_ceil-2.ensures c.transpose_words.ensures.entries i j inside (omega (arith, fits, enough))
    ∙ entry-inside c.args.rows (bit_entry (words_for c.args.columns) c.args.source.now) j i fits

pub returns-clause-behind : goal.returns-clause-behind
returns-clause-behind c = λ i j inside past fits.
    in_words c.args.rows c.args.columns c.div_ceil.result c.div_ceil-2.result c.args.source.now c.transpose_words.new.target c.div_ceil.ensures
    c.div_ceil-2.ensures c.transpose_words.ensures.entries i j inside fits
    ∙ entry-none c.args.rows (bit_entry (words_for c.args.columns) c.args.source.now) j i past

pub returns-then-columns-eq0-clause-entries : goal.returns-then-columns-eq0-clause-entries
returns-then-columns-eq0-clause-entries c = λ i j inside fits. absurd (omega (arith, inside, c.if-columns-eq0.true))

pub returns-then-columns-eq0-clause-behind : goal.returns-then-columns-eq0-clause-behind
returns-then-columns-eq0-clause-behind c = λ i j inside past fits. absurd (omega (arith, inside, c.if-columns-eq0.true))
