use Rattle.std.proofs.Common.{ℕ, ◌%◌, ◌^◌, sym, ◌∙◌, ap, ap₂, arith}
use Rattle.std.specs.Prelude.{bit_xor}
use Rattle.field_base.specs.Carryless.{carryless}
use Rattle.word_carryless.specs.Tail.{ghash_tail}
use Rattle.word_carryless.proofs.TailFolds.{fold_128}
use Rattle.word_carryless.proofs.fold.reduce_128.Goals as goal

pub returns : goal.returns
returns c =
    ap₂ bit_xor (ap (bit_xor c.args.low) c.times_tail_128.ensures)
    (c.times_tail_128-2.ensures ∙ ap (λ (z : ℕ). carryless z ghash_tail % 2 ^ 128) c.spill_128.ensures)
    ∙ sym (fold_128.remainder c.args.low c.args.high (omega arith) (omega arith))
