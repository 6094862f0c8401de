use Rattle.std.proofs.Common.{◌≡◌, ◌+◌, ◌-◌, ℕ, length, slice_index, replicate, refl, sym, ◌∙◌, ap, arith, lit<}
use Rattle.field_base.specs.Powers.{power}
use Rattle.reed_solomon.specs.ByteFields.{byte_times}
use Rattle.error_codes.specs.Correcting.{code_value}
use Rattle.reed_solomon.proofs.ByteFields.{bytes_are_fields}
use Rattle.error_codes.proofs.CodeValues.{entry-behind, zeros-at}
use Rattle.error_codes.proofs.Encoding.{rest-completes, rest-more, rest-starts}
use Rattle.error_codes.proofs.code.CorrectingCode.encode.Goals as goal

pub loop-i-init : goal.loop-i-init
loop-i-init c =
    let code = c.args.self.now in (
      λ j above. zeros-at 256 j,
      λ m below.
          rest-starts 8 (byte_times code.field) (lit< tt) (bytes_are_fields code.field)
          (code.word_length - code.dimension)
          (slice_index code.roots m) (slice_index c.args.word.now) (slice_index (replicate 256 0)) (zeros-at 256),
    )

pub loop-i-preserved : goal.loop-i-preserved
loop-i-preserved c =
    let code = c.args.self.now in
    let times = byte_times code.field in (
      λ j above. c.shift_rest.ensures.others j above ∙ c.loop-i.invariant.0 j above,
      λ m below.
          rest-more 8 times (lit< tt) (bytes_are_fields code.field) (code.word_length - code.dimension) c.loop-i.i
          (slice_index code.roots m) (slice_index c.args.word.now) (slice_index code.generator)
          (slice_index c.loop-i.rest)
          (slice_index c.shift_rest.new.rest) _ code.monic (code.zeros m below) refl
          (c.loop-i.invariant.0 (code.word_length - code.dimension) (omega arith)) c.shift_rest.ensures.shifted
          (c.loop-i.invariant.1 m below),
    )

pub loop-j-preserved : goal.loop-j-preserved
loop-j-preserved c =
    entry-behind c.args.self.now.dimension c.loop-j.j (slice_index c.loop-i.rest c.loop-j.j) c.loop-j.word
    c.args.word.now
    c.loop-i.rest (omega (arith, c.loop-j.invariant.0, c.requires, c.loop-j-test.true)) refl c.loop-j.invariant

pub returns-clause-encoded : goal.returns-clause-encoded
returns-clause-encoded c = λ m below.
    let code = c.args.self.now in
    let times = byte_times code.field in
    let checks = code.word_length - code.dimension in
    let data_end : c.loop-i.i ≡ code.dimension = omega arith in
    let end : c.loop-j.j ≡ checks = omega arith in
    let long : length c.loop-j.word ≡ code.dimension + checks =
    omega (arith, c.loop-j.invariant.0, c.requires, code.some_checks) in
    ap (λ (n : ℕ). code_value times n (slice_index c.loop-j.word) (power 1 times code.root (code.first_root + m))) long
    ∙ ap (code_value times (code.dimension + checks) (slice_index c.loop-j.word)) (sym (code.roots_are m below))
    ∙ rest-completes 8 times (lit< tt) (bytes_are_fields code.field) checks code.dimension (slice_index code.roots m)
    (slice_index c.args.word.now) (slice_index c.loop-i.rest) (slice_index c.loop-j.word) c.loop-j.invariant.1
    (λ j inside. c.loop-j.invariant.2 j (omega (arith, inside, end)))
    (c.loop-i.invariant.1 m below
    ∙ ap (λ (n : ℕ). times (code_value times n (slice_index c.args.word.now) (slice_index code.roots m))
    (power 1 times (slice_index code.roots m) checks)) data_end)
