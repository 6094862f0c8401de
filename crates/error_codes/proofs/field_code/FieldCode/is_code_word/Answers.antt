use Rattle.std.proofs.Common.{◌≡◌, ◌+◌, ℕ, true, false, length, slice_index, refl, sym, ◌∙◌, ap, arith, below_more}
use Rattle.field_base.specs.Powers.{power}
use Rattle.error_codes.specs.Correcting.{code_value}
use Rattle.error_codes.proofs.FieldPowers.{next-root}
use Rattle.error_codes.proofs.field_code.FieldCode.is_code_word.Goals as goal

pub loop-m-init : goal.loop-m-init
loop-m-init g c =
    let code = c.args.self.now in
    let start : code.first_root ≡ code.first_root + 0 = omega arith in
    (c.power_of-x.ensures ∙ ap (power 1 (g.F.SymbolField.product code.field) code.root) start, λ n below. absurd (omega (arith, below)))

pub loop-m-preserved : goal.loop-m-preserved
loop-m-preserved g c =
    let code = c.args.self.now in
    let times = g.F.SymbolField.product code.field in
    let word = c.args.word.now in
    let value = λ (x : ℕ). code_value times (length word) (slice_index word) x in (
      next-root times code.root code.first_root c.loop-m._m c.loop-m.x c.multiply-x.result c.loop-m.invariant.0 c.multiply-x.ensures,
      below_more (λ n. value (power 1 times code.root (code.first_root + n)) ≡ 0) c.loop-m._m c.loop-m.invariant.1
          (sym (c.value_at-value.ensures ∙ ap value c.loop-m.invariant.0) ∙ c.if-value-ne0.false),
    )

pub returns-then-value-ne0 : goal.returns-then-value-ne0
returns-then-value-ne0 g c = (
  λ no. let none : false ≡ true = no in absurd (cc),
  λ holds.
      let code = c.args.self.now in
      let word = c.args.word.now in
      absurd (c.if-value-ne0.true
      (c.value_at-value.ensures
      ∙ ap (code_value (g.F.SymbolField.product code.field) (length word) (slice_index word)) c.loop-m.invariant.0
      ∙ holds.2 c.loop-m._m c.loop-m-test.true)),
)

pub returns : goal.returns
returns g c = (
  λ yes. (
    omega arith,
    c.are_elements.ensures.0 c.if-not-are_elements.false,
    λ m below. c.loop-m.invariant.1 m (omega (arith, below, c.loop-m-test.false)),
  ),
  λ holds. refl,
)
