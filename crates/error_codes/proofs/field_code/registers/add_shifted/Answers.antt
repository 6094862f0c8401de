use Rattle.std.proofs.Common.{◌+◌, slice_index, ap₂, arith}
use Rattle.std.specs.Prelude.{bit_xor}
use Rattle.error_codes.proofs.FieldRows.{behind-more, behind-starts}
use Rattle.error_codes.proofs.field_code.registers.add_shifted.Goals as goal

pub loop-i-init : goal.loop-i-init
loop-i-init g c = behind-starts _ c.args.shift c.args.coefficients.now

pub loop-i-preserved : goal.loop-i-preserved
loop-i-preserved g c =
    let old = c.args.coefficients.now in
    let i = c.loop-i.i in
    behind-more (λ n. bit_xor (slice_index old (c.args.shift + n))
    (g.F.SymbolField.product c.args.field c.args.factor (slice_index c.args.older.now n))) c.args.shift i _ old
    c.loop-i.coefficients c.loop-i.invariant (omega (arith, c.loop-i.invariant.long, c.loop-i-test.true, c.requires.inside))
    (ap₂ bit_xor (c.loop-i.invariant.behind (c.args.shift + i) (omega arith)) c.multiply.ensures)

pub returns-clause-behind : goal.returns-clause-behind
returns-clause-behind g c = λ i inside.
    c.loop-i.invariant.written i (omega (arith, inside, c.loop-i-test.false, c.loop-i.invariant.long))
