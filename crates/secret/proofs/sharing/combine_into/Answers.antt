use Rattle.std.proofs.Common.{length, refl}
use Rattle.error_codes.specs.Filling.{is_marked}
use Rattle.secret.proofs.Entries.{is-secret}
use Rattle.secret.proofs.sharing.combine_into.Goals as goal

pub returns-in-Ok-clause-few : goal.returns-in-Ok-clause-few
returns-in-Ok-clause-few c = (c.in-Ok.ensures.accepted.0 refl).0.few

pub returns-in-Ok-clause-written : goal.returns-in-Ok-clause-written
returns-in-Ok-clause-written c =
    let found = c.in-Ok.ensures.accepted.0 refl in
    is-secret c.in-Some.field c.args.first.now c.args.indexes.now c.args.bytes.now c.combine_correcting.new.secret (length c.args.secret.now)
    (is_marked c.in-Ok.marks) c.in-Some.ensures c.in-Ok.ensures.long found.0 found.1 found.2
    (c.in-Ok.ensures.combined refl found.1 found.2) (c.in-Ok.ensures.named found.1 found.2)
