use Rattle.std.proofs.Common.{◌≡◌, ◌+◌, slice_index, ◌∙◌, ap, ap₂, arith}
use Rattle.std.specs.Prelude.{bit_xor}
use Rattle.error_codes.proofs.FieldRows.{behind-more, behind-starts}
use Rattle.error_codes.proofs.field_code.encoding.shift_rest.Goals as goal

pub loop-j-init : goal.loop-j-init
loop-j-init g c = behind-starts _ c.args.start c.args.word.now

pub loop-j-preserved : goal.loop-j-preserved
loop-j-preserved g c =
    let old = c.args.word.now in
    let start = c.args.start in
    let j = c.loop-j.j in
    let place : start + j + 1 ≡ start + (j + 1) = omega arith in
    behind-more (λ n. bit_xor (slice_index old (start + (n + 1)))
    (g.F.SymbolField.product c.args.field (bit_xor c.args.symbol (slice_index old start)) (slice_index c.args.generator.now (n + 1))))
    start j _ old c.loop-j.word c.loop-j.invariant (omega (arith, c.loop-j.invariant.long, c.loop-j-test.true))
    (ap₂ bit_xor (c.symbol_or_zero.ensures ∙ c.loop-j.invariant.behind (start + j + 1) (omega arith) ∙ ap (slice_index old) place)
    c.multiply.ensures)

pub returns-clause-shifted : goal.returns-clause-shifted
returns-clause-shifted g c = λ j inside.
    c.loop-j.invariant.written j (omega (arith, inside, c.loop-j-test.false, c.loop-j.invariant.long))
