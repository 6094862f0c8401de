use Rattle.std.proofs.Common.{refl}
use Rattle.c_calls.proofs.ShareCalls.{call_combined, call_disagreed}
use Rattle.c_calls.proofs.secrets.combine_shares.Goals as goal

pub returns-in-Ok : goal.returns-in-Ok
returns-in-Ok c =
    let said = c.in-Ok.ensures.accepted.0 refl in
    call_combined c.in-Some.field c.args.modulus c.args.needed c.args.indexes.now c.args.shares.now c.args.secret.now c.combine.new.secret
    c.in-Some.ensures.0 c.in-Some.ensures.1 said.0 said.1 (c.in-Ok.ensures.combined refl) c.in-Ok.ensures.long

pub returns-in-Err-WrongShare : goal.returns-in-Err-WrongShare
returns-in-Err-WrongShare c =
    let said = rw c.in-Err-WrongShare.field-0-is at c.in-Err-WrongShare.ensures.refused in
    call_disagreed c.in-Some.field c.args.modulus c.args.needed c.args.indexes.now c.args.shares.now c.args.secret.now c.combine.new.secret
    c.in-Some.ensures.0 c.in-Some.ensures.1 said.0 said.1 c.in-Err-WrongShare.ensures.same
