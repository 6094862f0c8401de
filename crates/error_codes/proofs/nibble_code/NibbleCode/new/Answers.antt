use Rattle.std.proofs.Common.{◌≡◌, ◌*◌, ◌%◌, false, true, refl, ◌∙◌, arith}
use Rattle.field_base.specs.Powers.{power}
use Rattle.reed_solomon.specs.ByteFields.{byte_times}
use Rattle.reed_solomon.specs.declared.byte_field.ByteField.TheVariants.{Qr}
use Rattle.error_codes.proofs.NibbleCalls.{order-lowered, order-raised}
use Rattle.error_codes.proofs.NibbleFields.{root-raised}
use Rattle.error_codes.proofs.nibble_code.NibbleCode.new.Goals as goal

pub invariant_of-result : goal.invariant_of-result
invariant_of-result c =
    let made = c.in-Ok.ensures.made in record {
      of_bytes = made.0;
      root_is = made.4 ∙ root-raised c.args.root_step;
    }

pub returns-in-Ok-clause-accepted : goal.returns-in-Ok-clause-accepted
returns-in-Ok-clause-accepted c = (
  λ is.
      let holds = c.in-Ok.ensures.accepted.0 refl in (
        holds.0,
        holds.1,
        c.if-word_length-gt15.false,
        order-lowered Qr (power 1 (byte_times Qr) 2 (17 * (c.args.root_step % 15))) c.args.root_step refl
            (root-raised c.args.root_step) c.args.word_length holds.3,
      ),
  λ holds. refl,
)

pub returns-in-Err-clause-accepted : goal.returns-in-Err-clause-accepted
returns-in-Err-clause-accepted c = (
  λ said. let none : false ≡ true = said in absurd (cc),
  λ holds.
      c.in-Err.ensures.accepted.1 (
        holds.0,
        holds.1,
        omega arith,
        order-raised Qr (power 1 (byte_times Qr) 2 (17 * (c.args.root_step % 15))) c.args.root_step refl
            (root-raised c.args.root_step) c.args.word_length holds.3,
      ),
)
