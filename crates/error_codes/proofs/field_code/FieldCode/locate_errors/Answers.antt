use Rattle.std.proofs.Common.{◌≡◌, ◌+◌, ◌<◌, ℕ, Bool, List, length, slice_index, refl, sym, ◌∙◌, ap, subst, arith}
use Rattle.std.specs.Prelude.{nat_eq, ◌||◌}
use Rattle.error_codes.specs.Correcting.{code_value}
use Rattle.error_codes.specs.Filling.{falling_point, is_marked}
use Rattle.error_codes.proofs.Marking.{IsWritten, mark-left, mark-set, root-left, root-marked}
use Rattle.error_codes.proofs.field_code.FieldCode.locate_errors.Goals as goal
use Rattle.error_codes.proofs.field_code.FieldCode.locate_errors.Goals.{then-values-i-eq0, else-values-i-eq0}

pub loop-i-init : goal.loop-i-init
loop-i-init g c = (c.requires.room, λ j below. absurd (omega (arith, below)), λ j above. refl)

pub loop-i-preserved : goal.loop-i-preserved
loop-i-preserved g c =
    elim c.if-values-i-eq0.branch [
      | then-values-i-eq0 w ↦
          subst (IsWritten n value before (c.loop-i.i + 1)) (sym w.marks-is)
          (mark-set n value before c.loop-i.i _ c.loop-i.marks c.loop-i.invariant c.loop-i-test.true
          (root-marked (before c.loop-i.i) (slice_index c.evaluate.new.points c.loop-i.i) (root_value c.loop-i.i)
          (read c.loop-i.i c.loop-i-test.true) w.if-values-i-eq0.true))
      | else-values-i-eq0 w ↦
          subst (IsWritten n value before (c.loop-i.i + 1)) (sym w.marks-is)
          (mark-left n value before c.loop-i.i c.loop-i.marks c.loop-i.invariant
          (root-left (before c.loop-i.i) (slice_index c.evaluate.new.points c.loop-i.i) (root_value c.loop-i.i)
          (read c.loop-i.i c.loop-i-test.true) w.if-values-i-eq0.false))
    ]
  where
    n : ℕ
    n = c.args.self.now.word_length

    times : ℕ → ℕ → ℕ
    times = g.F.SymbolField.product c.args.self.now.field

    root_value : ℕ → ℕ
    root_value j = code_value times (length c.args.register.now) (slice_index c.args.register.now)
        (falling_point times c.args.self.now.root n j)

    before : ℕ → Bool
    before = is_marked c.args.marks.now

    value : ℕ → Bool
    value j = before j || nat_eq (root_value j) 0

    read : (i : ℕ) → i < n → slice_index c.evaluate.new.points i ≡ root_value i
    read i below =
        c.evaluate.ensures.values i (omega (arith, below, ap (λ (l : List ℕ). length l) c.copy_from_slice.ensures.after, c.requires.whole))
        ∙ ap (code_value times (length c.args.register.now) (slice_index c.args.register.now))
        (ap (λ (l : List ℕ). slice_index l i) c.copy_from_slice.ensures.after ∙ c.requires.points i below)

pub returns-clause-marks : goal.returns-clause-marks
returns-clause-marks g c = λ i below. c.loop-i.invariant.1 i (omega (arith, below, c.loop-i-test.false))
