use Rattle.std.proofs.Common.{◌≡◌, ◌+◌, ◌-◌, ◌/◌, ◌<◌, ℕ, length, slice_index, take, subst, sym, ◌∙◌, arith}
use lib.Seq.{length-take-le}
use Rattle.field_base.specs.Powers.{power}
use Rattle.reed_solomon.specs.ByteFields.{byte_times}
use Rattle.error_codes.specs.Correcting.{code_value}
use Rattle.c_calls.specs.Codes.{nth_word}
use Rattle.c_calls.proofs.ManyWords.{values-read, word_before, word-long, word_read, words-written}
use Rattle.c_calls.proofs.codes.write_syndromes.Goals as goal

pub loop-i-preserved : goal.loop-i-preserved
loop-i-preserved c =
    let code = c.args.code.now in
    let times = byte_times code.field in
    let n = code.word_length in
    let checks = n - code.dimension in
    let words = c.args.words.now in
    let i = c.loop-i.i in
    let size = c.word_length-size.result in
    let found = c.syndromes-found.result in
    let value = λ (k : ℕ) (word : ℕ → ℕ) (m : ℕ). code_value times k word (power 1 times code.root (code.first_root + m)) in
    let below : i < length words / n = subst (λ (k : ℕ). i < length words / k) c.word_length-size.ensures c.loop-i-test.true in
    let before = word_before checks i (length words / n) below in
    let same : size - c.dimension.result ≡ checks = omega arith in
    words-written checks
    (λ j _ new. (m : ℕ) → m < checks → slice_index new m ≡ value n (slice_index (nth_word n j words)) m)
    c.args.values.now c.loop-i.values c.write_word.new.words (take (size - c.dimension.result) found) i
    (omega (arith, before, c.requires)) (length-take-le (size - c.dimension.result) found (omega arith) ∙ same)
    (subst (λ (k : ℕ). (m : ℕ) → m < checks → slice_index (take k found) m ≡ value n (slice_index (nth_word n i words)) m) (sym same)
    (values-read value _ (nth_word n i words) found n checks (word_read n size i words c.word_length-size.ensures)
    (word-long n i words below) c.syndromes-found.ensures.values))
    c.write_word.ensures c.loop-i.invariant
