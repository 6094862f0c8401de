use Rattle.std.proofs.Common.{◌≡◌, ℕ, ◌+◌, ◌-◌, ◌*◌, ◌%◌, arith, subst}
use Rattle.std.specs.Prelude.{slice_index}
use Rattle.bits_packed.specs.BitMatrices.{AreWordsAdded}
use Rattle.bits_packed.proofs.WordColumns.{sum_behind, words_added_then}
use Rattle.bits_packed.proofs.pending.add_behind.Goals as goal

pub add_to_strip-requires-clause-strip : goal.add_to_strip-requires-clause-strip
add_to_strip-requires-clause-strip c = record { within = omega (arith, c.requires.word); narrow = omega arith }

pub loop-index-init : goal.loop-index-init
loop-index-init c =
    let words = c.args.shape.words in
    let start = c.args.word + 1 in
    let none : start + (words - start) % 8 ≡ start + (words - start) % 8 + 8 * 0 = omega arith in (
      c.add_to_strip.ensures.tables,
      subst (λ (n : ℕ). AreWordsAdded words start n c.args.shape.rows
          (sum_behind c.args.shape.rows words c.args.word (slice_index c.args.places.now) c.args.matrix.now) c.args.matrix.now
          c.add_to_strip.new.matrix) none c.add_to_strip.ensures.sums,
    )

pub add_to_strip-requires-in-loop-index-clause-strip : goal.add_to_strip-requires-in-loop-index-clause-strip
add_to_strip-requires-in-loop-index-clause-strip c = record { within = omega (arith, c.requires.word); narrow = omega arith }

pub loop-index-preserved : goal.loop-index-preserved
loop-index-preserved c =
    let words = c.args.shape.words in
    let start = c.args.word + 1 in
    let first = start + (words - start) % 8 in
    let index = c.loop-index.index in
    let next : first + 8 * index + 8 ≡ first + 8 * (index + 1) = omega arith in
    let place = slice_index c.args.places.now in (
      c.add_to_strip-in-loop-index.ensures.tables,
      subst (λ (n : ℕ). AreWordsAdded words start n c.args.shape.rows (sum_behind c.args.shape.rows words c.args.word place c.args.matrix.now)
          c.args.matrix.now c.add_to_strip-in-loop-index.new.matrix) next
          (words_added_then words c.args.word c.args.shape.rows start (first + 8 * index) (first + 8 * index + 8) place c.args.matrix.now
          c.loop-index.matrix c.add_to_strip-in-loop-index.new.matrix (omega arith) (omega arith) (omega arith) (omega (arith, c.requires.word))
          c.loop-index.invariant.1 c.add_to_strip-in-loop-index.ensures.sums),
    )

pub returns-clause-sums : goal.returns-clause-sums
returns-clause-sums c =
    let words = c.args.shape.words in
    let start = c.args.word + 1 in
    let last : start + (words - start) % 8 + 8 * c.loop-index.index ≡ words = omega (arith, c.requires.word) in
    subst (λ (n : ℕ). AreWordsAdded words start n c.args.shape.rows
    (sum_behind c.args.shape.rows words c.args.word (slice_index c.args.places.now) c.args.matrix.now) c.args.matrix.now c.loop-index.matrix) last
    c.loop-index.invariant.1
