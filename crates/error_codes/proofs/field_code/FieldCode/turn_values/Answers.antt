use Rattle.std.proofs.Common.{◌≡◌, ◌-◌, ◌<◌, ℕ, List, length, slice_index, refl, ◌∙◌, ap, arith}
use Rattle.std.specs.Prelude.{bit_xor}
use Rattle.field_base.specs.Field.{IsField}
use Rattle.field_base.specs.Powers.{power}
use Rattle.error_codes.proofs.TurnedValues.{turned, turned-ends, turned-more, turned-same, turned-starts}
use Rattle.error_codes.proofs.field_code.FieldCode.turn_values.Goals as goal
use Rattle.error_codes.proofs.field_code.FieldCode.turn_values.Goals.{then-difference-ne0, else-difference-ne0}

pub loop-i-init : goal.loop-i-init
loop-i-init g c = (
  refl,
  λ m below.
      turned-starts (g.F.SymbolField.width c.args.self.now.field) (g.F.SymbolField.product c.args.self.now.field)
      (g.met.F.SymbolField.wide_law c.args.self.now.field) (g.met.F.SymbolField.field_law c.args.self.now.field)
      c.args.self.now.word_length c.args.self.now.root c.args.self.now.first_root (slice_index c.args.word.now) (slice_index c.args.other.now)
      m (slice_index c.args.values.now m) (c.requires.values m below),
)

pub loop-i-preserved : goal.loop-i-preserved
loop-i-preserved g c =
    elim c.if-difference-ne0.branch [
      | then-difference-ne0 w ↦ (
        ap length w.values-is ∙ w.add_powers.ensures.long ∙ c.loop-i.invariant.0,
        λ m below.
            ap (λ (l : List ℕ). slice_index l m) w.values-is
            ∙ turned-more width times wide field n root first word other c.loop-i.i m (slice_index c.loop-i.values m)
            (slice_index w.add_powers.new.values m) w.multiply-factor.result (c.loop-i.invariant.1 m below)
            (w.multiply-factor.ensures
            ∙ ap (λ (s : ℕ). times s (bit_xor (word c.loop-i.i) (other c.loop-i.i)))
            (w.power_of-own.ensures ∙ ap (λ (s : ℕ). power 1 times s (n - 1 - c.loop-i.i)) c.power_of-scale.ensures))
            (w.add_powers.ensures.added m (omega (arith, below, c.loop-i.invariant.0))
            ∙ ap (λ (p : ℕ). bit_xor (slice_index c.loop-i.values m) (times w.multiply-factor.result (power 1 times p m)))
            (c.requires.points c.loop-i.i c.loop-i-test.true)),
      )
      | else-difference-ne0 w ↦ (
        ap length w.values-is ∙ c.loop-i.invariant.0,
        λ m below.
            ap (λ (l : List ℕ). slice_index l m) w.values-is
            ∙ turned-same width times wide field n root first word other c.loop-i.i m (slice_index c.loop-i.values m)
            (c.loop-i.invariant.1 m below) w.if-difference-ne0.false,
      )
    ]
  where
    width : ℕ
    width = g.F.SymbolField.width c.args.self.now.field

    times : ℕ → ℕ → ℕ
    times = g.F.SymbolField.product c.args.self.now.field

    wide : 0 < g.F.SymbolField.width c.args.self.now.field
    wide = g.met.F.SymbolField.wide_law c.args.self.now.field

    field : IsField (g.F.SymbolField.width c.args.self.now.field) (g.F.SymbolField.product c.args.self.now.field)
    field = g.met.F.SymbolField.field_law c.args.self.now.field

    n : ℕ
    n = c.args.self.now.word_length

    root : ℕ
    root = c.args.self.now.root

    first : ℕ
    first = c.args.self.now.first_root

    word : ℕ → ℕ
    word = slice_index c.args.word.now

    other : ℕ → ℕ
    other = slice_index c.args.other.now

pub returns-clause-values : goal.returns-clause-values
returns-clause-values g c = λ m below.
    let code = c.args.self.now in
    turned-ends (g.F.SymbolField.width code.field) (g.F.SymbolField.product code.field) (g.met.F.SymbolField.wide_law code.field)
    (g.met.F.SymbolField.field_law code.field) code.word_length code.root code.first_root (slice_index c.args.word.now)
    (slice_index c.args.other.now) m (slice_index c.loop-i.values m)
    (c.loop-i.invariant.1 m below
    ∙ ap (λ (i : ℕ). turned (g.F.SymbolField.width code.field) (g.F.SymbolField.product code.field) (g.met.F.SymbolField.wide_law code.field)
    (g.met.F.SymbolField.field_law code.field) code.word_length code.root code.first_root (slice_index c.args.word.now)
    (slice_index c.args.other.now) i m) end)
  where
    end : c.loop-i.i ≡ c.args.self.now.word_length
    end = omega (arith, c.loop-i-test.false)
