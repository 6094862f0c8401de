use Rattle.std.proofs.Common.{◌≡◌, ◌≢◌, suc, ◌<◌, ◌+◌, ◌-◌, ◌^◌, ℕ, List, length, slice_index, set, sym, ◌∙◌, ap, subst, arith}
use Rattle.std.specs.Prelude.{bit_xor}
use Rattle.std.proofs.lemmas.List.{get_or-set_other, get_or-set_same, get_or_past, length-set}
use Rattle.field_base.specs.Field.{IsField}
use Rattle.error_codes.specs.Registers.{IsShortest}
use Rattle.error_codes.proofs.FieldRegisters.{added-fits, sum-cancels, unit-fits}
use Rattle.error_codes.proofs.MasseySteps.{IsBetweenEntries, between-as, massey-grows, massey-keeps, massey-starts, massey-stays}
use Rattle.error_codes.proofs.MasseySteps.{zeros-shortest}
use Rattle.error_codes.proofs.field_code.registers.write_register.Goals as goal
use Rattle.error_codes.proofs.field_code.registers.write_register.Goals.{then-sum-ne0+then-l-size, then-sum-ne0+else-l-size, else-sum-ne0}

one-first : (cleared : List ℕ) → 0 < length cleared → slice_index (set cleared 0 1) 0 ≡ 1
one-first cleared some = get_or-set_same cleared 0 1 0 some

zeros-behind : (cleared : List ℕ) → ((i : ℕ) → slice_index cleared i ≡ 0) → (i : ℕ) → 0 < i → slice_index (set cleared 0 1) i ≡ 0
zeros-behind cleared zeros i above = get_or-set_other cleared 0 i 1 0 (λ e. absurd (omega (arith, e, above))) ∙ zeros i

pub loop-l-init : goal.loop-l-init
loop-l-init g c =
    let width = g.F.SymbolField.width c.args.field in
    let times = g.F.SymbolField.product c.args.field in
    let wide = g.met.F.SymbolField.wide_law c.args.field in
    let field = g.met.F.SymbolField.field_law c.args.field in
    let entry = slice_index c.args.entries.now in
    let first = c.first_nonzero-first.result in
    let cleared = c.clear_from.new.word in
    let cs = set cleared 0 1 in
    let long : length (set cleared 0 1) ≡ length c.args.coefficients.now = length-set cleared 0 1 ∙ c.clear_from.ensures.long in (
      subst (λ (o : List ℕ). IsBetweenEntries times entry (first + 1) (first + 1) (slice_index cs) first (slice_index o) (entry first))
          (sym c.copy_from_slice.ensures.after)
          (massey-starts width times wide field entry first (slice_index cs)
          (one-first cleared (omega (arith, c.clear_from.ensures.long, c.requires.room)))
          (zeros-behind cleared (λ i. c.clear_from.ensures.cleared i (omega arith))) c.first_nonzero-first.ensures.before
          (c.requires.elements first (omega arith)) (c.first_nonzero-first.ensures.found (omega arith))),
      long,
      ap length c.copy_from_slice.ensures.after ∙ long,
      c.requires.spare,
      unit-fits width times wide field entry cleared (omega (arith, c.clear_from.ensures.long, c.requires.room))
          (λ i. c.clear_from.ensures.cleared i (omega arith)),
    )

pub loop-l-preserved : goal.loop-l-preserved
loop-l-preserved g c =
    elim c.if-sum-ne0.branch [
      | then-sum-ne0+then-l-size w ↦ (
        between-as times entry (l + 1) (l + 1 - L) _ l _ sum _ w.add_shifted.new.coefficients _ c.loop-l.coefficients _
            w.size-is w.coefficients-is w.failed-is
            (w.older-is ∙ w.copy_from_slice-then-l-size.ensures.after ∙ w.copy_from_slice-then-sum-ne0.ensures.after) w.failure-is
            (massey-grows width times wide field entry l L (slice_index c.loop-l.coefficients) c.loop-l.failed
            (slice_index c.loop-l.older) c.loop-l.failure c.loop-l.invariant.0 w.multiply-factor.result sum room
            (slice_index w.add_shifted.new.coefficients) c.sum_at-sum.ensures w.if-sum-ne0.true
            (cancels w.multiply-factor.result w.invert.result w.multiply-factor.ensures w.invert.ensures)
            w.add_shifted.ensures.before w.add_shifted.ensures.behind fits
            (λ i past. get_or_past c.loop-l.coefficients i 0 past)
            (λ i past. get_or_past w.add_shifted.new.coefficients i 0
            (omega (arith, past, w.add_shifted.ensures.long)))
            (omega (arith, w.if-l-size.true))),
        ap length w.coefficients-is ∙ w.add_shifted.ensures.long ∙ c.loop-l.invariant.1,
        ap length (w.older-is ∙ w.copy_from_slice-then-l-size.ensures.after ∙ w.copy_from_slice-then-sum-ne0.ensures.after)
            ∙ c.loop-l.invariant.1,
        ap length (w.spare-is ∙ w.copy_from_slice-then-sum-ne0.ensures.after) ∙ c.loop-l.invariant.1,
        fit_on w.coefficients-is (added (l - c.loop-l.failed) w.multiply-factor.result w.add_shifted.new.coefficients
            w.add_shifted.ensures.long w.add_shifted.ensures.before w.add_shifted.ensures.behind),
      )
      | then-sum-ne0+else-l-size w ↦ (
        between-as times entry (l + 1) L _ c.loop-l.failed _ c.loop-l.failure _ w.add_shifted.new.coefficients _
            c.loop-l.older _ w.size-is w.coefficients-is w.failed-is w.older-is w.failure-is
            (massey-keeps width times wide field entry l L (slice_index c.loop-l.coefficients) c.loop-l.failed
            (slice_index c.loop-l.older) c.loop-l.failure c.loop-l.invariant.0 w.multiply-factor.result sum room
            (slice_index w.add_shifted.new.coefficients) c.sum_at-sum.ensures w.if-sum-ne0.true
            (cancels w.multiply-factor.result w.invert.result w.multiply-factor.ensures w.invert.ensures)
            w.add_shifted.ensures.before w.add_shifted.ensures.behind fits
            (λ i past. get_or_past c.loop-l.coefficients i 0 past)
            (λ i past. get_or_past w.add_shifted.new.coefficients i 0
            (omega (arith, past, w.add_shifted.ensures.long)))
            (omega (arith, w.if-l-size.false))),
        ap length w.coefficients-is ∙ w.add_shifted.ensures.long ∙ c.loop-l.invariant.1,
        ap length w.older-is ∙ c.loop-l.invariant.2,
        ap length (w.spare-is ∙ w.copy_from_slice-then-sum-ne0.ensures.after) ∙ c.loop-l.invariant.1,
        fit_on w.coefficients-is (added (l - c.loop-l.failed) w.multiply-factor.result w.add_shifted.new.coefficients
            w.add_shifted.ensures.long w.add_shifted.ensures.before w.add_shifted.ensures.behind),
      )
      | else-sum-ne0 w ↦ (
        between-as times entry (l + 1) L _ c.loop-l.failed _ c.loop-l.failure _ c.loop-l.coefficients _ c.loop-l.older _
            w.size-is w.coefficients-is w.failed-is w.older-is w.failure-is
            (massey-stays width times wide field entry l L (slice_index c.loop-l.coefficients) c.loop-l.failed
            (slice_index c.loop-l.older) c.loop-l.failure c.loop-l.invariant.0 (sym c.sum_at-sum.ensures ∙ w.if-sum-ne0.false)),
        ap length w.coefficients-is ∙ c.loop-l.invariant.1,
        ap length w.older-is ∙ c.loop-l.invariant.2,
        ap length w.spare-is ∙ c.loop-l.invariant.3,
        fit_on w.coefficients-is c.loop-l.invariant.4,
      )
    ]
  where
    width : ℕ
    width = g.F.SymbolField.width c.args.field

    times : ℕ → ℕ → ℕ
    times = g.F.SymbolField.product c.args.field

    wide : 0 < g.F.SymbolField.width c.args.field
    wide = g.met.F.SymbolField.wide_law c.args.field

    field : IsField (g.F.SymbolField.width c.args.field) (g.F.SymbolField.product c.args.field)
    field = g.met.F.SymbolField.field_law c.args.field

    entry : ℕ → ℕ
    entry = slice_index c.args.entries.now

    l : ℕ
    l = c.loop-l.l

    L : ℕ
    L = c.loop-l.size

    sum : ℕ
    sum = c.sum_at-sum.result

    room : ℕ
    room = length c.loop-l.coefficients

    fits : suc c.loop-l.l < length c.loop-l.coefficients
    fits = omega (arith, c.loop-l.invariant.1, c.loop-l-test.true, c.requires.room)

    fit_on : {new old : List ℕ} → new ≡ old → ((i : ℕ) → slice_index old i < 2 ^ width) → (i : ℕ) → slice_index new i < 2 ^ width
    fit_on is fits i = subst (λ (row : List ℕ). slice_index row i < 2 ^ width) (sym is) (fits i)

    added : (shift factor : ℕ) (new : List ℕ) → length new ≡ length c.loop-l.coefficients
        → ((i : ℕ) → i < shift → slice_index new i ≡ slice_index c.loop-l.coefficients i)
        → ((i : ℕ) → shift + i < length c.loop-l.coefficients
        → slice_index new (shift + i) ≡ bit_xor (slice_index c.loop-l.coefficients (shift + i)) (times factor (slice_index c.loop-l.older i)))
        → (i : ℕ) → slice_index new i < 2 ^ width
    added shift factor new long before behind =
        added-fits width times wide field entry shift factor (slice_index c.loop-l.older) c.loop-l.coefficients new long before behind
        c.loop-l.invariant.4

    cancels : (a inverse : ℕ) → a ≡ times sum inverse
        → (c.loop-l.failure < 2 ^ width → c.loop-l.failure ≢ 0 → times c.loop-l.failure inverse ≡ 1)
        → times a c.loop-l.failure ≡ sum
    cancels a inverse a_is inverts =
        sum-cancels width times wide field entry l L (slice_index c.loop-l.coefficients) c.loop-l.failed
        (slice_index c.loop-l.older) c.loop-l.failure sum a inverse c.loop-l.invariant.0 c.sum_at-sum.ensures a_is inverts

pub returns-then-first-count-clause-shortest : goal.returns-then-first-count-clause-shortest
returns-then-first-count-clause-shortest g c =
    let width = g.F.SymbolField.width c.args.field in
    let times = g.F.SymbolField.product c.args.field in
    let cleared = c.clear_from.new.word in
    zeros-shortest width times (g.met.F.SymbolField.wide_law c.args.field) (g.met.F.SymbolField.field_law c.args.field)
    (slice_index c.args.entries.now) c.args.count (slice_index (set cleared 0 1))
    (one-first cleared (omega (arith, c.clear_from.ensures.long, c.requires.room)))
    (zeros-behind cleared (λ i. c.clear_from.ensures.cleared i (omega arith)))
    (λ n below. c.first_nonzero-first.ensures.before n (omega (arith, below, c.if-first-count.true)))

pub returns-then-first-count-clause-fits : goal.returns-then-first-count-clause-fits
returns-then-first-count-clause-fits g c =
    unit-fits (g.F.SymbolField.width c.args.field) (g.F.SymbolField.product c.args.field) (g.met.F.SymbolField.wide_law c.args.field)
    (g.met.F.SymbolField.field_law c.args.field) (slice_index c.args.entries.now) c.clear_from.new.word
    (omega (arith, c.clear_from.ensures.long, c.requires.room)) (λ i. c.clear_from.ensures.cleared i (omega arith))

pub returns-clause-shortest : goal.returns-clause-shortest
returns-clause-shortest g c =
    let end : c.loop-l.l ≡ c.args.count = omega arith in
    subst (λ (n : ℕ). IsShortest (g.F.SymbolField.product c.args.field) (slice_index c.args.entries.now) c.loop-l.size n
    (slice_index c.loop-l.coefficients)) end c.loop-l.invariant.0.shortest
