use Rattle.std.proofs.Common.{ℕ, ◌-◌, ◌/◌, ◌^◌, ◌<◌, List, length, subst}
use Rattle.error_codes.specs.FieldCodes.{AreSymbols}
use Rattle.c_calls.specs.Codes.{IsEncodedWord}
use Rattle.c_calls.proofs.CodeCalls.{all-below, data-waits}
use Rattle.c_calls.proofs.ManyWords.{word_inside, words-lent}
use Rattle.c_calls.proofs.field_codes.write_words.Goals as goal

pub loop-i-preserved : goal.loop-i-preserved
loop-i-preserved g c =
    let code = c.args.code.now in
    let width = g.F.SymbolField.width code.field in
    let n = code.word_length in
    let k = code.dimension in
    let words = c.args.words.now in
    let i = c.loop-i.i in
    let relates = λ (j : ℕ) (old new : List ℕ).
    IsEncodedWord (g.F.SymbolField.product code.field) code.root code.first_root (n - k) k old new × AreSymbols width n new in
    let below : i < length words / n = subst (λ (z : ℕ). i < length words / z) c.word_length-size.ensures c.loop-i-test.true in
    words-lent n relates words c.loop-i.words c.encode.new.word i c.word_length-size.result c.word_length-size.ensures
    (word_inside n (length words) i below) c.encode.ensures.long (
      record { long = c.encode.ensures.long; kept = c.encode.ensures.kept; encoded = c.encode.ensures.encoded },
      all-below n k (2 ^ width) _ c.encode.new.word
          (data-waits n c.word_length-size.result k i (2 ^ width) relates words c.loop-i.words c.word_length-size.ensures c.loop-i.invariant
          (c.requires.elements i below))
          c.encode.ensures.kept c.encode.ensures.elements,
    )
    c.loop-i.invariant
