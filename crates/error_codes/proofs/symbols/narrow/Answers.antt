use Rattle.std.proofs.Common.{length, slice_index, refl, arith}
use Rattle.std.proofs.lemmas.List.{ext_get_or}
use Rattle.error_codes.proofs.CodeValues.{entry-more}
use Rattle.error_codes.proofs.symbols.narrow.Goals as goal

pub loop-i-init : goal.loop-i-init
loop-i-init c = (c.requires.long, λ n below. absurd (omega (arith, below)))

pub loop-i-preserved : goal.loop-i-preserved
loop-i-preserved c =
    entry-more (slice_index c.args.words.now) (length c.args.words.now) c.loop-i.i _ c.loop-i.bytes c.loop-i.invariant c.loop-i-test.true refl

pub returns : goal.returns
returns c =
    ext_get_or 0 c.loop-i.bytes c.args.words.now c.loop-i.invariant.0
    (λ n below. c.loop-i.invariant.1 n (omega (arith, below, c.loop-i.invariant.0, c.loop-i-test.false)))
