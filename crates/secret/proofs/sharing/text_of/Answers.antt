use Rattle.std.proofs.Common.{◌*◌}
use Rattle.secret.proofs.ShareLines.{more_lines, no_lines, row_cut}
use Rattle.secret.proofs.sharing.text_of.Goals as goal

pub loop-i-init : goal.loop-i-init
loop-i-init c = no_lines c.args.choice.now.field c.args.choice.now.needed c.args.identity.now c.args.size c.args.shares.now _ c.new-text.ensures.bytes

pub loop-i-preserved : goal.loop-i-preserved
loop-i-preserved c =
    more_lines c.args.choice.now.field c.args.choice.now.needed c.args.identity.now c.args.size c.args.shares.now c.loop-i.i _ _ _ _ _
    c.loop-i.invariant c.in_ok-push_line.ensures c.as_slice.ensures.value c.in_ok-entry.ensures
    (row_cut (c.loop-i.i * c.args.size) c.args.size c.args.shares.now)
