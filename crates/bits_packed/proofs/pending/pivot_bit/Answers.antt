use Rattle.std.proofs.Common.{ℕ, ◌*◌, ◌^◌, ◌∙◌, ap, arith, sym}
use native.Mathlib.Nat.{mod-eq_of_lt, zero-mul}
use Rattle.bits_packed.proofs.BitRows.{shift-fits}
use Rattle.bits_packed.proofs.PendingSums.{entry-inside, entry-none}
use Rattle.bits_packed.proofs.pending.pivot_bit.Goals as goal

pub returns-then-row-rows : goal.returns-then-row-rows
returns-then-row-rows c =
    mod-eq_of_lt (shift-fits 1 c.args.bit (omega arith) c.requires)
    ∙ ap (λ (x : ℕ). x * 2 ^ c.args.bit) (sym (entry-inside c.args.rows (λ k j. 1) c.args.row 0 c.if-row-rows.true))

pub returns-else-row-rows : goal.returns-else-row-rows
returns-else-row-rows c =
    sym (ap (λ (x : ℕ). x * 2 ^ c.args.bit) (entry-none c.args.rows (λ k j. 1) c.args.row 0 c.if-row-rows.false) ∙ zero-mul (2 ^ c.args.bit))
