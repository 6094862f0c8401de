use Rattle.std.proofs.Common.{ℕ, ◌%◌, ◌^◌, sym, ◌∙◌, ap, ap₂, arith}
use Rattle.std.specs.Prelude.{bit_xor}
use Rattle.field_base.specs.Carryless.{carryless}
use Rattle.word_carryless.specs.Tail.{poly64_tail}
use Rattle.word_carryless.proofs.TailFolds.{fold_64}
use Rattle.word_carryless.proofs.fold.reduce_64.Goals as goal

pub returns : goal.returns
returns c =
    ap₂ bit_xor (ap (bit_xor c.args.low) c.times_tail_64.ensures)
    (c.times_tail_64-2.ensures ∙ ap (λ (z : ℕ). carryless z poly64_tail % 2 ^ 64) c.spill_64.ensures)
    ∙ sym (fold_64.remainder c.args.low c.args.high (omega arith) (omega arith))
