use Rattle.std.proofs.Common.{◌≡◌, ◌-◌, ℕ, Bool, ◌∙◌, ap, ap₂, arith}
use Rattle.std.specs.Prelude.{bit_xor}
use Rattle.field_base.specs.Field.{IsField}
use Rattle.field_base.specs.Powers.{power}
use Rattle.error_codes.specs.Filling.{falling_point, falling_scale, is_other, marked_product}
use Rattle.error_codes.proofs.CodeValues.{falling-scaled}
use Rattle.error_codes.proofs.Marking.{other-free, other-marked, other-own}
use Rattle.error_codes.proofs.Sifting.{product-marked, product-starts, product-unmarked}
use Rattle.error_codes.proofs.field_code.FieldCode.denominator.Goals as goal
use Rattle.error_codes.proofs.field_code.FieldCode.denominator.Goals.{then-marked-j+then-j-place, else-marked-j}
use Rattle.error_codes.proofs.field_code.FieldCode.denominator.Goals.{else-marked-j-via-then-marked-j+else-j-place}
use Rattle.error_codes.proofs.field_code.FieldCode.denominator.Goals.{else-marked-j-via-else-marked-j}

pub loop-j-init : goal.loop-j-init
loop-j-init g c =
    let code = c.args.self.now in
    let times = g.F.SymbolField.product code.field in
    let width = g.F.SymbolField.width code.field in
    let wide = g.met.F.SymbolField.wide_law code.field in
    let field = g.met.F.SymbolField.field_law code.field in
    let n = code.word_length in
    let point = falling_point times code.root n in
    product-starts width times wide field n point (λ i. 0) (is_other c.args.marked.now c.args.place)
    (point c.args.place) (falling_scale times code.root code.first_root n c.args.place) _
    ((falling-scaled width times wide field n code.root code.first_root code.scaled).scales c.args.place c.requires.inside)
    (c.power_of-product.ensures ∙ ap (λ (s : ℕ). power 1 times s (n - 1 - c.args.place)) c.power_of-scale.ensures)

pub loop-j-preserved : goal.loop-j-preserved
loop-j-preserved g c =
    elim c.if-marked-j.branch [
      | then-marked-j+then-j-place w ↦
          w.product-is
          ∙ product-marked (g.F.SymbolField.width c.args.self.now.field) times (g.met.F.SymbolField.wide_law c.args.self.now.field) field c.args.self.now.word_length point (λ i. 0) other c.loop-j.j
          (point c.args.place) scale c.loop-j.product w.multiply-product.result
          (other-marked c.args.marked.now c.args.place c.loop-j.j w.if-marked-j.true w.if-j-place.true)
          c.loop-j.invariant
          (w.multiply-product.ensures
          ∙ ap₂ (λ (a b : ℕ). times c.loop-j.product (bit_xor a b))
          (c.requires.points c.args.place c.requires.inside)
          (c.requires.points c.loop-j.j c.loop-j-test.true))
      | else-marked-j w ↦
          w.product-is
          ∙ product-unmarked (g.F.SymbolField.width c.args.self.now.field) times (g.met.F.SymbolField.wide_law c.args.self.now.field) field c.args.self.now.word_length point (λ i. 0) other c.loop-j.j
          (point c.args.place) scale c.loop-j.product
          (elim w.else-marked-j.branch [
            | else-marked-j-via-then-marked-j+else-j-place v ↦
                other-own c.args.marked.now c.args.place c.loop-j.j v.if-j-place.false
            | else-marked-j-via-else-marked-j v ↦
                other-free c.args.marked.now c.args.place c.loop-j.j v.if-marked-j.false
          ]) c.loop-j.invariant
    ]
  where
    times : ℕ → ℕ → ℕ
    times = g.F.SymbolField.product c.args.self.now.field

    field : IsField (g.F.SymbolField.width c.args.self.now.field) (g.F.SymbolField.product c.args.self.now.field)
    field = g.met.F.SymbolField.field_law c.args.self.now.field

    point : ℕ → ℕ
    point = falling_point (g.F.SymbolField.product c.args.self.now.field) c.args.self.now.root c.args.self.now.word_length

    scale : ℕ
    scale = falling_scale (g.F.SymbolField.product c.args.self.now.field) c.args.self.now.root c.args.self.now.first_root
        c.args.self.now.word_length c.args.place

    other : ℕ → Bool
    other = is_other c.args.marked.now c.args.place

pub returns : goal.returns
returns g c =
    let code = c.args.self.now in
    let times = g.F.SymbolField.product code.field in
    let n = code.word_length in
    let point = falling_point times code.root n in
    let end : c.loop-j.j ≡ n = omega arith in
    c.loop-j.invariant
    ∙ ap (λ (k : ℕ). times (falling_scale times code.root code.first_root n c.args.place)
    (marked_product times point (is_other c.args.marked.now c.args.place) k (point c.args.place))) end
