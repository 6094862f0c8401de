use Rattle.std.proofs.Common.{◌-◌, arith, refl}
use Rattle.error_codes.proofs.Loops.{split_at}
use Rattle.error_codes.proofs.splitting.split.Goals as goal

pub returns-clause-split : goal.returns-clause-split
returns-clause-split c =
    λ done.
    split_at c.args.field (c.args.needed - 1) c.args.count c.loop-place.place c.args.secret.now c.args.draws.now c.loop-place.shares
    (let can = c.in_ok-check_split.ensures.accepted.0 refl in omega (arith, can.room)) c.loop-place.invariant
