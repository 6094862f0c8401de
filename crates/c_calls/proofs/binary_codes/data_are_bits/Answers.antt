use Rattle.std.proofs.Common.{ℕ, ◌-◌, ◌/◌, ◌<◌, length, refl, sym, subst, arith, below_more}
use Rattle.std.proofs.lemmas.Bool.{false≢true}
use Rattle.error_codes.specs.BinaryBch.{AreBinary}
use Rattle.c_calls.specs.Codes.{nth_word}
use Rattle.c_calls.proofs.Endings.{refuted}
use Rattle.c_calls.proofs.ManyWords.{part-seen, part-shown}
use Rattle.c_calls.proofs.binary_codes.data_are_bits.Goals as goal

pub loop-i-preserved : goal.loop-i-preserved
loop-i-preserved c =
    let n = c.args.code.now.code.word_length in
    let words = c.args.words.now in
    let i = c.loop-i.i in
    let below = subst (λ (z : ℕ). i < length words / z) c.word_length-size.ensures c.loop-i-test.true in
    below_more (λ j. AreBinary (n - c.args.code.now.checks) (nth_word n j words)) i c.loop-i.invariant
    (subst (λ (d : ℕ). AreBinary d (nth_word n i words)) c.dimension.ensures
    (part-seen n c.word_length-size.result c.dimension.result i 2 words c.word_length-size.ensures
    (omega (arith, c.dimension.ensures)) below (c.are_bits.ensures.0 c.if-not-are_bits.false)))

pub returns-then-not-are_bits : goal.returns-then-not-are_bits
returns-then-not-are_bits c = (
  λ no. absurd (false≢true no),
  λ holds.
      let n = c.args.code.now.code.word_length in
      let words = c.args.words.now in
      let i = c.loop-i.i in
      let below = subst (λ (z : ℕ). i < length words / z) c.word_length-size.ensures c.loop-i-test.true in
      absurd (refuted c.if-not-are_bits.true (c.are_bits.ensures.1
      (part-shown n c.word_length-size.result c.dimension.result i 2 words c.word_length-size.ensures
      (omega (arith, c.dimension.ensures)) below
      (subst (λ (d : ℕ). AreBinary d (nth_word n i words)) (sym c.dimension.ensures) (holds i below))))),
)

pub returns : goal.returns
returns c = (
  λ _ j below.
      let within = subst (λ (z : ℕ). j < length c.args.words.now / z) (sym c.word_length-size.ensures) below in
      c.loop-i.invariant j (omega (arith, within, c.loop-i-test.false)),
  λ _. refl,
)
