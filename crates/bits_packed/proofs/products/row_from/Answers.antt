use Rattle.std.proofs.Common.{◌+◌, Bool, ap, arith, sym}
use Rattle.std.specs.Prelude.{if◌then◌else◌}
use Rattle.std.proofs.lemmas.Bool.{le-ltb, lt-ltb}
use Rattle.bits_packed.proofs.products.row_from.Goals as goal

pub returns-then-offset-left : goal.returns-then-offset-left
returns-then-offset-left c =
    let row = c.args.row + c.args.offset in
    sym (ap (λ (t : Bool). if t then row else c.args.inner) (lt-ltb row c.args.inner (omega (arith, c.if-offset-left.true))))

pub returns-else-offset-left : goal.returns-else-offset-left
returns-else-offset-left c =
    let row = c.args.row + c.args.offset in
    sym (ap (λ (t : Bool). if t then row else c.args.inner) (le-ltb row c.args.inner (omega (arith, c.if-offset-left.false, c.requires))))
