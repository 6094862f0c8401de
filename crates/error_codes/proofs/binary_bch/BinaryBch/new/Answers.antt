use Rattle.std.proofs.Common.{◌≡◌, ◌-◌, ◌*◌, refl, sym, arith}
use Rattle.field_base.specs.Powers.{power}
use Rattle.reed_solomon.specs.ByteFields.{byte_generator, byte_times}
use Rattle.error_codes.proofs.BinaryCodes.{few-read}
use Rattle.error_codes.proofs.binary_bch.BinaryBch.new.Goals as goal

pub returns-in-Ok-clause-accepted : goal.returns-in-Ok-clause-accepted
returns-in-Ok-clause-accepted c =
    let code = c.in-Ok.code in
    let made = c.in-Ok.ensures.made in
    let all = c.in-Ok.ensures.accepted.0 refl in
    let length = made.1 in
    let dimension = made.2 in
    let field = c.args.field in
    let errors = c.args.errors in
    let n = c.args.word_length in
    let root = power 1 (byte_times field) (byte_generator field) c.args.root_step in
    let checks : code.word_length - code.dimension ≡ 2 * errors = omega (arith, length, dimension) in (
      λ is. (
        omega arith,
        omega arith,
        all.2,
        all.3,
        few-read code.field field code.root root (code.word_length - code.dimension) (2 * errors) code.word_length n made.0 made.4 checks length
            (c.of_code.ensures.accepted.0 is),
      ),
      λ holds.
          c.of_code.ensures.accepted.1
          (few-read field code.field root code.root (2 * errors) (code.word_length - code.dimension) n code.word_length (sym made.0) (sym made.4)
          (sym checks) (sym length) holds.4),
    )
