use Rattle.std.proofs.Common.{ℕ, ◌-◌, ◌/◌, ◌<◌, List, length, subst}
use Rattle.error_codes.specs.BinaryBch.{AreBinary}
use Rattle.reed_solomon.specs.ByteFields.{byte_times}
use Rattle.c_calls.specs.Codes.{IsEncodedWord}
use Rattle.c_calls.proofs.CodeCalls.{data-waits}
use Rattle.c_calls.proofs.ManyWords.{word_inside, words-lent}
use Rattle.c_calls.proofs.binary_codes.write_words.Goals as goal

pub encode-requires-clause-bits : goal.encode-requires-clause-bits
encode-requires-clause-bits c =
    let n = c.args.code.now.code.word_length in
    let i = c.loop-i.i in
    let words = c.args.words.now in
    let below : i < length words / n = subst (λ (z : ℕ). i < length words / z) c.word_length-size.ensures c.loop-i-test.true in
    data-waits n c.word_length-size.result (n - c.args.code.now.checks) i 2 _ words c.loop-i.words c.word_length-size.ensures
    c.loop-i.invariant (c.requires i below)

pub loop-i-preserved : goal.loop-i-preserved
loop-i-preserved c =
    let code = c.args.code.now.code in
    let n = code.word_length in
    let k = n - c.args.code.now.checks in
    let words = c.args.words.now in
    let i = c.loop-i.i in
    let below : i < length words / n = subst (λ (z : ℕ). i < length words / z) c.word_length-size.ensures c.loop-i-test.true in
    words-lent n
    (λ (j : ℕ) (old new : List ℕ). IsEncodedWord (byte_times code.field) code.root 1 (n - code.dimension) k old new × AreBinary n new)
    words c.loop-i.words c.encode.new.word i c.word_length-size.result c.word_length-size.ensures
    (word_inside n (length words) i below) c.encode.ensures.long
    (record { long = c.encode.ensures.long; kept = c.encode.ensures.kept; encoded = c.encode.ensures.encoded }, c.encode.ensures.bits)
    c.loop-i.invariant
