use Rattle.std.proofs.Common.{◌+◌, ◌-◌, ◌*◌, ◌/◌, ◌^◌, ◌<◌, ℕ, List, length, sym, subst, arith}
use borrow.Rule.Slice.PartMut.{mid_of}
use Rattle.error_codes.specs.Correcting.{HasRoots}
use Rattle.error_codes.specs.FieldCodes.{AreSymbols}
use Rattle.c_calls.specs.Codes.{nth_word}
use Rattle.c_calls.proofs.CodeCalls.{answers-beside}
use Rattle.c_calls.proofs.ManyWords.{answers-more, told, word-long, word_below, word_inside, word_read}
use Rattle.c_calls.proofs.field_codes.write_answers.Goals as goal

pub loop-i-preserved : goal.loop-i-preserved
loop-i-preserved g c =
    let code = c.args.code.now in
    let width = g.F.SymbolField.width code.field in
    let n = code.word_length in
    let words = c.args.words.now in
    let i = c.loop-i.i in
    let size = c.word_length-size.result in
    let roots = λ (word : List ℕ). HasRoots (g.F.SymbolField.product code.field) code.root code.first_root (n - code.dimension) word in
    let holds = λ (word : List ℕ). AreSymbols width (length word) word × roots word in
    let below : i < length words / n = omega arith in
    let long = word-long n i words below in
    answers-more (λ (j : ℕ). roots (nth_word n j words)) c.args.flags.now c.loop-i.flags i c.from.result (omega arith)
    (answers-beside
    (subst (λ (k : ℕ). AreSymbols width k (nth_word n i words)) (sym long)
    (word_below n i (2 ^ width) words (word_inside n (length words) i below) c.requires.elements))
    (told c.is_code_word.result c.from.result n holds (mid_of (i * size) (i * size + size - i * size) words) (nth_word n i words)
    c.from.ensures (word_read n size i words c.word_length-size.ensures) long
    (let test = c.is_code_word.ensures in (λ yes. let is = test.0 yes in (is.0, (is.1, is.2)), λ is. test.1 (is.0, is.1.0, is.1.1)))))
    c.loop-i.invariant
