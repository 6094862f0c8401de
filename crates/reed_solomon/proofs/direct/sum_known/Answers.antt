use Rattle.std.proofs.Common.{◌≡◌, ◌+◌, ◌<◌, ℕ, length, sym, ◌∙◌, ap, ap₂, arith}
use Rattle.std.specs.Prelude.{bit_xor, slice_index_or}
use Rattle.std.proofs.lemmas.List.{get_or_read}
use Rattle.field_base.proofs.BasisSums.{sum_below-none}
use Rattle.field_base.specs.Tower.{tower_mul}
use Rattle.reed_solomon.specs.Direct.{known_term}
use Rattle.reed_solomon.specs.Restoring.{is_lost, word_at}
use Rattle.reed_solomon.proofs.KnownSums.{sum_more}
use Rattle.reed_solomon.proofs.direct.sum_known.Goals as goal

pub loop-q-init : goal.loop-q-init
loop-q-init g c d inside =
    let number = g.R.Stored.number in
    let zero = g.R.Stored.ZERO in
    let start : 0 + d ≡ d = omega arith in
    ap (λ (s : ℕ). number (slice_index_or c.clear_words.new.target s zero)) (sym start)
    ∙ ap number (c.clear_words.ensures.put.written d inside) ∙ g.R.Stored.zero_number ∙ sym (sum_below-none _)

pub loop-q-preserved : goal.loop-q-preserved
loop-q-preserved g c d inside =
    let number = g.R.Stored.number in
    let zero = g.R.Stored.ZERO in
    let code = c.args.code.now in
    let strip = c.args.strip in
    let q = c.loop-q.q in
    let weights = c.args.weights.now in
    let within : q < length weights = omega (arith, c.loop-q-test.true) in
    let read = get_or_read weights q c.index-weights-q.result within c.index-weights-q.is zero in
    let lost = is_lost code.data_shards code.levels code.parity_shards c.args.present.now in
    let word = λ (p : ℕ). number (word_at zero code.data_shards code.levels code.parity_shards strip.size (strip.start + d) c.args.shards.now
    c.args.parity.now p) in
    c.add_place.ensures.added d inside
    ∙ ap₂ bit_xor (c.loop-q.invariant d inside)
    (ap (λ w. known_term (tower_mul g.L.Level.LEVEL) lost (λ p. number w) word q) read)
    ∙ sym (sum_more (known_term (tower_mul g.L.Level.LEVEL) lost (λ p. number (slice_index_or weights p zero)) word) q)
