use Rattle.std.proofs.Common.{◌≡◌, Bool, false, true, ap, arith, length, refl, ◌∙◌}
use Rattle.std.specs.Prelude.{cond}
use Rattle.c_calls.proofs.ShareCalls.{call_corrected, call_lost}
use Rattle.c_calls.proofs.secrets.correct_shares.Goals as goal

pub write_marks-requires : goal.write_marks-requires
write_marks-requires c =
    let few = (c.in-Ok.ensures.accepted.0 refl).0.few in
    let same : length c.args.wrong.now ≡ length c.args.indexes.now = omega arith in
    omega (arith, few, same)

pub returns-in-Ok : goal.returns-in-Ok
returns-in-Ok c =
    let said = c.in-Ok.ensures.accepted.0 refl in
    let same : length c.args.wrong.now ≡ length c.args.indexes.now = omega arith in
    call_corrected c.in-Some.field c.args.modulus c.args.needed c.args.indexes.now c.args.shares.now c.args.secret.now
    c.combine_correcting.new.secret c.in-Some.ensures.0 c.in-Some.ensures.1 said.0 c.args.wrong.now c.write_marks.new.flags same
    (c.in-Some.field, c.in-Some.ensures.0, said.1, said.2) (c.in-Ok.ensures.combined refl)
    (λ polynomials near i below.
    c.write_marks.ensures.flags i (omega (arith, below, same)) ∙ ap (λ (b : Bool). cond b 1 0) (c.in-Ok.ensures.named polynomials near i below))
    c.in-Ok.ensures.long c.write_marks.ensures.long

pub returns-in-Err-WrongShare : goal.returns-in-Err-WrongShare
returns-in-Err-WrongShare c =
    let whole = c.in-Err-WrongShare.ensures.unlike c.in-Err-WrongShare.field-0-is in
    let same : length c.args.wrong.now ≡ length c.args.indexes.now = omega arith in
    call_lost c.in-Some.field c.args.modulus c.args.needed c.args.indexes.now c.args.shares.now c.args.secret.now
    c.combine_correcting.new.secret c.in-Some.ensures.0 c.in-Some.ensures.1 whole c.args.wrong.now c.args.wrong.now same
    (λ polynomials near.
    let none : false ≡ true = c.in-Err-WrongShare.ensures.accepted.1 (whole, polynomials, near) in absurd (cc))
    c.in-Err-WrongShare.ensures.same refl
