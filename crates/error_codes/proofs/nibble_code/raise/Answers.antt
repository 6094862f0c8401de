use Rattle.std.proofs.Common.{slice_index, ◌∙◌, ap, arith}
use Rattle.error_codes.specs.Nibbles.{raised}
use Rattle.error_codes.proofs.CodeValues.{entry-over}
use Rattle.error_codes.proofs.NibbleWords.{all-mapped}
use Rattle.error_codes.proofs.nibble_code.raise.Goals as goal

pub loop-i-preserved : goal.loop-i-preserved
loop-i-preserved c =
    let old = c.args.word.now in
    entry-over c.loop-i.i _ (λ n. raised (slice_index old n)) c.loop-i.word old (omega (arith, c.loop-i-test.true, c.loop-i.auto.word))
    (c.image.ensures ∙ ap raised (c.loop-i.invariant.1 c.loop-i.i (omega arith))) c.loop-i.invariant

pub returns : goal.returns
returns c =
    all-mapped raised c.args.word.now c.loop-i.word c.loop-i.auto.word
    (λ k below. c.loop-i.invariant.0 k (omega (arith, below, c.loop-i-test.false)))
