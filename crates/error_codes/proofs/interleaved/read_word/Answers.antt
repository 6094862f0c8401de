use Rattle.std.proofs.Common.{◌+◌, ◌*◌, length, slice_index, arith}
use Rattle.std.proofs.lemmas.List.FromFn.{fill_by_all}
use Rattle.error_codes.proofs.interleaved.read_word.Goals as goal

pub returns : goal.returns
returns c =
    fill_by_all (λ i. slice_index c.args.symbols.now (i * c.args.depth + c.args.c)) c.loop-i.word (length c.args.word.now) 0
    c.loop-i.invariant.0 (λ k below. c.loop-i.invariant.1 k (omega (arith, below, c.loop-i-test.false, c.loop-i.invariant.0)))
