use Rattle.std.proofs.Common.{◌≡◌, ◌+◌, ◌-◌, ◌/◌, ◌<◌, ℕ, List, length, slice_index, ap, subst, ◌∙◌, arith}
use Rattle.field_base.specs.Powers.{power}
use Rattle.error_codes.specs.Correcting.{code_value}
use Rattle.c_calls.specs.Codes.{nth_word}
use Rattle.c_calls.proofs.ManyWords.{word_before, word-long, word_read, words-lent}
use Rattle.c_calls.proofs.field_codes.write_values.Goals as goal

pub loop-i-preserved : goal.loop-i-preserved
loop-i-preserved g c =
    let code = c.args.code.now in
    let times = g.F.SymbolField.product code.field in
    let n = code.word_length in
    let checks = n - code.dimension in
    let words = c.args.words.now in
    let i = c.loop-i.i in
    let size = c.word_length-size.result in
    let value = λ (k : ℕ) (word : ℕ → ℕ) (m : ℕ). code_value times k word (power 1 times code.root (code.first_root + m)) in
    let below : i < length words / n = subst (λ (k : ℕ). i < length words / k) c.word_length-size.ensures c.loop-i-test.true in
    let before = word_before checks i (length words / n) below in
    let same : size - c.dimension.result ≡ checks = omega arith in
    words-lent checks
    (λ j _ new. (m : ℕ) → m < checks → slice_index new m ≡ value n (slice_index (nth_word n j words)) m)
    c.args.values.now c.loop-i.values c.syndromes.new.values i (size - c.dimension.result) same
    (omega (arith, before, c.requires)) c.syndromes.ensures.long
    (λ m within.
    c.syndromes.ensures.values m within
    ∙ ap (λ (w : List ℕ). value (length w) (slice_index w) m) (word_read n size i words c.word_length-size.ensures)
    ∙ ap (λ (k : ℕ). value k (slice_index (nth_word n i words)) m) (word-long n i words below))
    c.loop-i.invariant
