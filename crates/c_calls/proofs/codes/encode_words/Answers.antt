use Rattle.std.proofs.Common.{ℕ, ◌-◌, ◌/◌, ◌<◌, length, subst}
use Rattle.reed_solomon.specs.ByteFields.{byte_times}
use Rattle.c_calls.specs.Codes.{IsEncodedWord}
use Rattle.c_calls.proofs.ManyWords.{word_inside, words-lent}
use Rattle.c_calls.proofs.codes.encode_words.Goals as goal

pub loop-i-preserved : goal.loop-i-preserved
loop-i-preserved c =
    let code = c.args.code.now in
    let n = code.word_length in
    let below : c.loop-i.i < length c.args.words.now / n =
    subst (λ (k : ℕ). c.loop-i.i < length c.args.words.now / k) c.word_length-size.ensures c.loop-i-test.true in
    words-lent n
    (λ _ old new. IsEncodedWord (byte_times code.field) code.root code.first_root (n - code.dimension) code.dimension old new)
    c.args.words.now c.loop-i.words c.encode.new.word c.loop-i.i c.word_length-size.result c.word_length-size.ensures
    (word_inside n (length c.args.words.now) c.loop-i.i below) c.encode.ensures.long
    (record { long = c.encode.ensures.long; kept = c.encode.ensures.kept; encoded = c.encode.ensures.encoded }) c.loop-i.invariant
