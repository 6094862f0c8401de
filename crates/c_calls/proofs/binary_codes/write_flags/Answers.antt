use Rattle.std.proofs.Common.{◌+◌, ◌-◌, ◌*◌, ◌/◌, ◌<◌, ℕ, List, length, arith}
use borrow.Rule.Slice.PartMut.{mid_of}
use Rattle.reed_solomon.specs.ByteFields.{byte_times}
use Rattle.c_calls.specs.BinaryCodes.{IsBinaryWord}
use Rattle.c_calls.specs.Codes.{nth_word}
use Rattle.c_calls.proofs.ManyWords.{answers-more, told, word-long, word_read}
use Rattle.c_calls.proofs.binary_codes.write_flags.Goals as goal

pub loop-i-preserved : goal.loop-i-preserved
loop-i-preserved c =
    let code = c.args.code.now.code in
    let n = code.word_length in
    let words = c.args.words.now in
    let i = c.loop-i.i in
    let size = c.word_length-size.result in
    let holds = λ (word : List ℕ). IsBinaryWord (byte_times code.field) code.root n (n - code.dimension) word in
    let below : i < length words / n = omega arith in
    answers-more (λ (j : ℕ). holds (nth_word n j words)) c.args.flags.now c.loop-i.flags i c.from.result (omega arith)
    (told c.is_code_word.result c.from.result n holds (mid_of (i * size) (i * size + size - i * size) words) (nth_word n i words)
    c.from.ensures (word_read n size i words c.word_length-size.ensures) (word-long n i words below)
    (let test = c.is_code_word.ensures in (λ yes. let is = test.0 yes in (is.0, (is.1, is.2)), λ is. test.1 (is.0, is.1.0, is.1.1))))
    c.loop-i.invariant
