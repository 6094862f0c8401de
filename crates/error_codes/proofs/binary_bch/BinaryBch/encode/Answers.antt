use Rattle.std.proofs.Common.{◌≡◌, inl, inr, ◌+◌, ◌-◌, ◌<◌, ℕ, length, slice_index, replicate, refl, sym, subst, ◌∙◌, ap, arith, lit<}
use Rattle.std.proofs.lemmas.Bool.{cases_lt}
use Rattle.field_base.specs.Powers.{power}
use Rattle.reed_solomon.specs.ByteFields.{byte_times}
use Rattle.error_codes.specs.Correcting.{code_value}
use Rattle.error_codes.proofs.BinaryCodes.{bits-shifted}
use Rattle.reed_solomon.proofs.ByteFields.{bytes_are_fields}
use Rattle.error_codes.proofs.CodeValues.{entry-behind, zeros-at}
use Rattle.error_codes.proofs.Encoding.{rest-completes, rest-more, rest-starts}
use Rattle.error_codes.proofs.binary_bch.BinaryBch.encode.Goals as goal

pub loop-i-init : goal.loop-i-init
loop-i-init c =
    let bch = c.args.self.now in
    let code = bch.code in (
      λ j above. zeros-at 256 j,
      λ j. subst (λ (v : ℕ). v < 2) (sym (zeros-at 256 j)) (lit< tt),
      λ m below.
          rest-starts 8 (byte_times code.field) (lit< tt) (bytes_are_fields code.field) bch.checks
          (power 1 (byte_times code.field) code.root (1 + m)) (slice_index c.args.word.now) (slice_index (replicate 256 0)) (zeros-at 256),
    )

pub loop-i-preserved : goal.loop-i-preserved
loop-i-preserved c =
    let bch = c.args.self.now in
    let code = bch.code in
    let times = byte_times code.field in
    let field = bytes_are_fields code.field in
    let bit = slice_index c.args.word.now c.loop-i.i in
    let bit_fits : bit < 2 = c.requires.bits c.loop-i.i (omega arith) in
    let before = c.loop-i.invariant.1 in
    let shifted = bits-shifted times field bch.checks bit (slice_index bch.generator) (slice_index c.loop-i.rest)
    (slice_index c.shift_bits.new.rest) bit_fits before bch.bits c.shift_bits.ensures.shifted c.shift_bits.ensures.others in (
      λ j above. c.shift_bits.ensures.others j above ∙ c.loop-i.invariant.0 j above,
      shifted.0,
      λ m below.
          rest-more 8 times (lit< tt) field bch.checks c.loop-i.i (power 1 times code.root (1 + m)) (slice_index c.args.word.now)
          (slice_index bch.generator) (slice_index c.loop-i.rest) (slice_index c.shift_bits.new.rest) bit bch.monic (bch.zeros m below) refl
          (c.loop-i.invariant.0 bch.checks (omega arith)) shifted.1 (c.loop-i.invariant.2 m below),
    )

pub loop-j-preserved : goal.loop-j-preserved
loop-j-preserved c =
    let bch = c.args.self.now in
    entry-behind (bch.code.word_length - bch.checks) c.loop-j.j (slice_index c.loop-i.rest c.loop-j.j) c.loop-j.word
    c.args.word.now c.loop-i.rest (omega (arith, c.loop-j.invariant.0, c.requires.whole, c.loop-j-test.true, bch.some_data)) refl
    c.loop-j.invariant

pub returns-clause-bits : goal.returns-clause-bits
returns-clause-bits c = λ i below.
    let bch = c.args.self.now in
    let front = bch.code.word_length - bch.checks in
    let end : c.loop-j.j ≡ bch.checks = omega arith in
    elim (cases_lt i front) [
      | inl early ↦
          subst (λ (v : ℕ). v < 2) (sym (c.loop-j.invariant.1 i early)) (c.requires.bits i early)
      | inr late ↦
          let place : front + (i - front) ≡ i = omega (arith, late) in
          subst (λ (v : ℕ). v < 2)
          (sym (ap (slice_index c.loop-j.word) (sym place)
          ∙ c.loop-j.invariant.2 (i - front) (omega (arith, late, below, end, bch.some_data))))
          (c.loop-i.invariant.1 (i - front))
    ]

pub returns-clause-encoded : goal.returns-clause-encoded
returns-clause-encoded c = λ m below.
    let bch = c.args.self.now in
    let code = bch.code in
    let times = byte_times code.field in
    let front = code.word_length - bch.checks in
    let x = power 1 times code.root (1 + m) in
    let data_end : c.loop-i.i ≡ front = omega arith in
    let end : c.loop-j.j ≡ bch.checks = omega arith in
    let long : length c.loop-j.word ≡ front + bch.checks =
    omega (arith, c.loop-j.invariant.0, c.requires.whole, bch.some_data) in
    ap (λ (n : ℕ). code_value times n (slice_index c.loop-j.word) x) long
    ∙ rest-completes 8 times (lit< tt) (bytes_are_fields code.field) bch.checks front x
    (slice_index c.args.word.now) (slice_index c.loop-i.rest) (slice_index c.loop-j.word) c.loop-j.invariant.1
    (λ j inside. c.loop-j.invariant.2 j (omega (arith, inside, end)))
    (c.loop-i.invariant.2 m below
    ∙ ap (λ (n : ℕ). times (code_value times n (slice_index c.args.word.now) x) (power 1 times x bch.checks)) data_end)
