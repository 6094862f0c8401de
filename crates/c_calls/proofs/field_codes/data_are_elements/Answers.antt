use Rattle.std.proofs.Common.{ℕ, ◌/◌, ◌^◌, ◌<◌, length, refl, sym, subst, arith, below_more}
use Rattle.std.proofs.lemmas.Bool.{false≢true}
use Rattle.error_codes.specs.FieldCodes.{AreSymbols}
use Rattle.c_calls.specs.Codes.{nth_word}
use Rattle.c_calls.proofs.Endings.{refuted}
use Rattle.c_calls.proofs.ManyWords.{part-seen, part-shown}
use Rattle.c_calls.proofs.field_codes.data_are_elements.Goals as goal

pub loop-i-preserved : goal.loop-i-preserved
loop-i-preserved g c =
    let code = c.args.code.now in
    let width = g.F.SymbolField.width code.field in
    let n = code.word_length in
    let words = c.args.words.now in
    let i = c.loop-i.i in
    let below = subst (λ (z : ℕ). i < length words / z) c.word_length-size.ensures c.loop-i-test.true in
    let few = code.some_checks in
    below_more (λ j. AreSymbols width code.dimension (nth_word n j words)) i c.loop-i.invariant
    (subst (λ (d : ℕ). AreSymbols width d (nth_word n i words)) c.dimension.ensures
    (part-seen n c.word_length-size.result c.dimension.result i (2 ^ width) words c.word_length-size.ensures
    (omega (arith, few, c.dimension.ensures)) below (c.are_elements.ensures.0 c.if-not-are_elements.false)))

pub returns-then-not-are_elements : goal.returns-then-not-are_elements
returns-then-not-are_elements g c = (
  λ no. absurd (false≢true no),
  λ holds.
      let code = c.args.code.now in
      let width = g.F.SymbolField.width code.field in
      let n = code.word_length in
      let words = c.args.words.now in
      let i = c.loop-i.i in
      let below = subst (λ (z : ℕ). i < length words / z) c.word_length-size.ensures c.loop-i-test.true in
      let few = code.some_checks in
      absurd (refuted c.if-not-are_elements.true (c.are_elements.ensures.1
      (part-shown n c.word_length-size.result c.dimension.result i (2 ^ width) words c.word_length-size.ensures
      (omega (arith, few, c.dimension.ensures)) below
      (subst (λ (d : ℕ). AreSymbols width d (nth_word n i words)) (sym c.dimension.ensures) (holds i below))))),
)

pub returns : goal.returns
returns g c = (
  λ _ j below.
      let within = subst (λ (z : ℕ). j < length c.args.words.now / z) (sym c.word_length-size.ensures) below in
      c.loop-i.invariant j (omega (arith, within, c.loop-i-test.false)),
  λ _. refl,
)
