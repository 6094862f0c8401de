use Rattle.std.proofs.Common.{◌≡◌, inl, inr, ◌<◌, ◌≤◌, ◌+◌, ◌-◌, ◌*◌, ℕ, length, slice_index, replicate, sym, ◌∙◌, ap, arith, lit<}
use Rattle.std.specs.Prelude.{bit_xor}
use Rattle.std.proofs.lemmas.List.{length-replicate}
use Rattle.field_base.specs.Powers.{power}
use Rattle.reed_solomon.specs.ByteFields.{byte_times}
use Rattle.error_codes.specs.Correcting.{code_value}
use Rattle.error_codes.specs.Interleaved.{interleaved_word}
use Rattle.reed_solomon.proofs.ByteFields.{bytes_are_fields}
use Rattle.error_codes.proofs.CodeValues.{zeros-at}
use Rattle.error_codes.proofs.Encoding.{rest-completes, rest-more, rest-starts}
use Rattle.error_codes.proofs.LaneRegisters.{written-more, written-none}
use Rattle.error_codes.proofs.WordColumns.{part-at, part-length, word-at, word-length}
use Rattle.error_codes.proofs.code.CorrectingCode.encode_columns.Goals as goal

pub loop-i-init : goal.loop-i-init
loop-i-init c =
    let code = c.args.self.now in (
      length-replicate {A = ℕ} 8192 0,
      λ p above. zeros-at 8192 p,
      λ lane m inside below.
          rest-starts 8 (byte_times code.field) (lit< tt) (bytes_are_fields code.field) (code.word_length - code.dimension)
          (slice_index code.roots m) (λ k. slice_index c.args.words.now (k * c.args.depth + (c.args.first + lane)))
          (λ j. slice_index (replicate 8192 0) (32 * j + lane)) (λ j. zeros-at 8192 (32 * j + lane)),
    )

pub loop-i-preserved : goal.loop-i-preserved
loop-i-preserved c =
    let code = c.args.self.now in
    let times = byte_times code.field in
    let checks = code.word_length - code.dimension in
    let rests = c.loop-i.rests in
    let words = c.args.words.now in (
      c.shift_rests.ensures.long ∙ c.loop-i.invariant.0,
      λ p above. c.shift_rests.ensures.others p above ∙ c.loop-i.invariant.1 p above,
      λ lane m inside below.
          let symbol = slice_index c.read_row-symbols.result lane in
          let few : lane < 32 = omega (arith, inside, c.requires.few) in
          let first : 32 * 0 + lane ≡ lane = omega arith in
          let place : c.loop-i.i * c.args.depth + c.args.first + lane ≡ c.loop-i.i * c.args.depth + (c.args.first + lane) = omega arith in
          rest-more 8 times (lit< tt) (bytes_are_fields code.field) checks c.loop-i.i (slice_index code.roots m)
          (λ k. slice_index words (k * c.args.depth + (c.args.first + lane))) (slice_index code.generator)
          (λ j. slice_index rests (32 * j + lane)) (λ j. slice_index c.shift_rests.new.rests (32 * j + lane)) symbol code.monic
          (code.zeros m below) (c.read_row-symbols.ensures lane inside ∙ ap (slice_index words) place)
          (c.loop-i.invariant.1 (32 * checks + lane) (omega arith))
          (λ j before.
          c.shift_rests.ensures.shifted code.field code.generator c.requires.tables j lane before few
          ∙ ap (λ (v : ℕ). bit_xor (slice_index rests (32 * (j + 1) + lane))
          (times (bit_xor symbol v) (slice_index code.generator (j + 1)))) (ap (slice_index rests) (sym first)))
          (c.loop-i.invariant.2 lane m inside below),
    )

pub loop-j-init : goal.loop-j-init
loop-j-init c = written-none c.args.depth c.args.first c.args.width c.args.self.now.dimension _ c.args.words.now

pub loop-j-preserved : goal.loop-j-preserved
loop-j-preserved c =
    let row = 32 * c.loop-j.j in
    let gap = row + c.args.width - row in
    let wide : gap ≡ c.args.width = omega arith in
    let room = c.loop-i.invariant.0 in
    let inside : row + gap ≤ length c.loop-i.rests = omega (arith, room, wide, c.requires.few, c.loop-j-test.true, c.args.self.now.short) in
    let long = part-length row gap c.loop-i.rests inside in
    written-more c.args.depth c.args.first c.args.width c.args.self.now.dimension (λ k lane. slice_index c.loop-i.rests (32 * k + lane)) c.loop-j.j
    c.args.words.now c.loop-j.words c.write_row.new.words c.requires.inside c.write_row.ensures.long
    (λ lane below.
    c.write_row.ensures.written lane (omega (arith, below, long, wide))
    ∙ part-at row gap c.loop-i.rests lane (omega (arith, below, wide)))
    (λ p out. c.write_row.ensures.others p (elim out [ inl low ↦ inl low | inr high ↦ inr (omega (arith, high, long, wide)) ]))
    c.loop-j.invariant

pub returns-clause-kept : goal.returns-clause-kept
returns-clause-kept c = λ d i inside below. c.loop-j.invariant.others d i inside (inl below)

pub returns-clause-others : goal.returns-clause-others
returns-clause-others c = λ d i inside out. c.loop-j.invariant.others d i inside (inr out)

pub returns-clause-encoded : goal.returns-clause-encoded
returns-clause-encoded c = λ lane inside m below.
    let code = c.args.self.now in
    let times = byte_times code.field in
    let n = code.word_length in
    let checks = n - code.dimension in
    let depth = c.args.depth in
    let d = c.args.first + lane in
    let column : d < depth = omega (arith, inside, c.requires.inside) in
    let word = interleaved_word n depth c.loop-j.words d in
    let given = λ (k : ℕ). slice_index c.args.words.now (k * depth + d) in
    let x = slice_index code.roots m in
    let whole : n ≡ code.dimension + checks = omega (arith, code.some_checks) in
    let data_end : c.loop-i.i ≡ code.dimension = omega (arith, c.loop-i-test.false, c.loop-i.auto.i-end) in
    ap (λ (k : ℕ). code_value times k (slice_index word) (power 1 times code.root (code.first_root + m)))
    (word-length n depth c.loop-j.words d ∙ whole)
    ∙ ap (code_value times (code.dimension + checks) (slice_index word)) (sym (code.roots_are m below))
    ∙ rest-completes 8 times (lit< tt) (bytes_are_fields code.field) checks code.dimension x given
    (λ j. slice_index c.loop-i.rests (32 * j + lane)) (slice_index word)
    (λ i before.
    word-at n depth c.loop-j.words d i (omega (arith, before, code.some_checks)) ∙ c.loop-j.invariant.others d i column (inl before))
    (λ j behind.
    word-at n depth c.loop-j.words d (code.dimension + j) (omega (arith, behind, code.some_checks))
    ∙ c.loop-j.invariant.done j lane (omega (arith, behind, c.loop-j-test.false)) inside)
    (c.loop-i.invariant.2 lane m inside below
    ∙ ap (λ (k : ℕ). times (code_value times k given x) (power 1 times x checks)) data_end)
