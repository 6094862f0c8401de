use Rattle.std.proofs.Common.{◌+◌, ℕ, Bool, slice_index, refl, sym, subst, arith}
use Rattle.std.specs.Prelude.{nat_eq, ◌||◌}
use Rattle.error_codes.specs.Correcting.{code_value}
use Rattle.error_codes.specs.Filling.{is_marked}
use Rattle.error_codes.proofs.Marking.{IsWritten, mark-left, mark-set, root-left, root-marked}
use Rattle.reed_solomon.specs.ByteFields.{byte_times}
use Rattle.error_codes.proofs.locating.mark_roots.Goals as goal
use Rattle.error_codes.proofs.locating.mark_roots.Goals.{then-value-eq0, else-value-eq0}

pub loop-i-init : goal.loop-i-init
loop-i-init c = (omega arith, λ j below. absurd (omega (arith, below)), λ j above. refl)

pub loop-i-preserved : goal.loop-i-preserved
loop-i-preserved c =
    elim c.if-value-eq0.branch [
      | then-value-eq0 w ↦
          subst (IsWritten 256 value before (c.loop-i.i + 1)) (sym w.marks-is)
          (mark-set 256 value before c.loop-i.i _ c.loop-i.marks c.loop-i.invariant (omega arith)
          (root-marked (before c.loop-i.i) c.reverse_value-value.result (root_value c.loop-i.i) c.reverse_value-value.ensures
          w.if-value-eq0.true))
      | else-value-eq0 w ↦
          subst (IsWritten 256 value before (c.loop-i.i + 1)) (sym w.marks-is)
          (mark-left 256 value before c.loop-i.i c.loop-i.marks c.loop-i.invariant
          (root-left (before c.loop-i.i) c.reverse_value-value.result (root_value c.loop-i.i) c.reverse_value-value.ensures
          w.if-value-eq0.false))
    ]
  where
    root_value : ℕ → ℕ
    root_value j = code_value (byte_times c.args.field) (c.args.register.now.size + 1) (slice_index c.args.register.now.coefficients)
        (slice_index c.args.indexes.now j)

    before : ℕ → Bool
    before = is_marked c.args.marks.now

    value : ℕ → Bool
    value j = before j || nat_eq (root_value j) 0
