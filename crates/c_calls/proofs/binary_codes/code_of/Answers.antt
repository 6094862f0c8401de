use Rattle.std.proofs.Common.{ap, refl, sym, subst, ◌∙◌}
use Rattle.std.proofs.lemmas.Bool.{false≢true}
use Rattle.reed_solomon.specs.declared.byte_field.ByteField.{ByteField}
use Rattle.c_calls.specs.BinaryCodes.{IsBinaryCode}
use Rattle.c_calls.specs.Codes.{code_root}
use Rattle.c_calls.proofs.BinaryCalls.{one-field}
use Rattle.c_calls.proofs.binary_codes.code_of.Goals as goal

pub returns-in-Ok-clause-made : goal.returns-in-Ok-clause-made
returns-in-Ok-clause-made c =
    let has = c.in-Ok.ensures.accepted.0 refl in
    let made = c.in-Ok.ensures.made in
    let same = sym made.0 in (
      subst (λ (f : ByteField). IsBinaryCode c.args.modulus c.args.word_length c.args.errors c.args.root_step f) same
          (record {
            modulus_is = c.in-Some.ensures.found;
            some_errors = has.0;
            some_others = has.1;
            short = has.2;
            order = has.3;
            some_data = has.4;
          }),
      made.1,
      made.2,
      made.3 ∙ ap (λ (f : ByteField). code_root f c.args.root_step) same,
    )

pub returns-in-Err-clause-none : goal.returns-in-Err-clause-none
returns-in-Err-clause-none c = λ has.
    let same = one-field has.0 c.in-Some.field (has.1.modulus_is ∙ sym c.in-Some.ensures.found) in
    let is = subst (λ (f : ByteField). IsBinaryCode c.args.modulus c.args.word_length c.args.errors c.args.root_step f) same has.1 in
    absurd (false≢true (c.in-Err.ensures.accepted.1 (is.some_errors, is.some_others, is.short, is.order, is.some_data)))
