use Rattle.std.proofs.Common.{◌≡◌, ◌<◌, ◌+◌, ℕ, List, Bool, false, length, slice_index, refl, ◌∙◌, ap, arith}
use Rattle.std.specs.Prelude.{bit_xor}
use Rattle.field_base.specs.Field.{IsField}
use Rattle.field_slices.specs.Marks.{marked_below}
use Rattle.error_codes.specs.Filling.{falling_point, is_other, marked_product, weighted_sum}
use Rattle.error_codes.proofs.Marking.{count-below, count-more, count-none, count-same, other-free, other-marked, other-own}
use Rattle.error_codes.proofs.Sifting.{sums-marked, sums-start, sums-unmarked}
use Rattle.error_codes.proofs.field_code.FieldCode.modified_syndromes.Goals as goal
use Rattle.error_codes.proofs.field_code.FieldCode.modified_syndromes.Goals.{then-marked-i+then-i-skipped, else-marked-i}
use Rattle.error_codes.proofs.field_code.FieldCode.modified_syndromes.Goals.{else-marked-i-via-then-marked-i+else-i-skipped}
use Rattle.error_codes.proofs.field_code.FieldCode.modified_syndromes.Goals.{else-marked-i-via-else-marked-i}

pub loop-i-init : goal.loop-i-init
loop-i-init g c =
    let code = c.args.self.now in
    let times = g.F.SymbolField.product code.field in
    let none = count-none (is_other c.args.marked.now c.args.skipped) in (
      refl,
      omega (arith, none),
      λ weight are m below.
          sums-start (g.F.SymbolField.width code.field) times (g.met.F.SymbolField.wide_law code.field) (g.met.F.SymbolField.field_law code.field) code.word_length
          (falling_point times code.root code.word_length) weight (is_other c.args.marked.now c.args.skipped) m
          (slice_index c.args.sums.now m) (are m below),
    )

pub overflow_sub-left-then-i-skipped : goal.overflow_sub-left-then-i-skipped
overflow_sub-left-then-i-skipped g c =
    let one = count-below (is_other c.args.marked.now c.args.skipped) c.loop-i.i c.args.self.now.word_length
    c.loop-i-test.true
    (other-marked c.args.marked.now c.args.skipped c.loop-i.i c.if-marked-i.true c.if-i-skipped.true) in
    omega (arith, one, c.requires.few, c.loop-i.invariant.1)

pub multiply_sums-requires-clause-some : goal.multiply_sums-requires-clause-some
multiply_sums-requires-clause-some g c =
    let one = count-below (is_other c.args.marked.now c.args.skipped) c.loop-i.i c.args.self.now.word_length
    c.loop-i-test.true
    (other-marked c.args.marked.now c.args.skipped c.loop-i.i c.if-marked-i.true c.if-i-skipped.true) in
    omega (arith, one, c.requires.few, c.loop-i.invariant.1)

pub loop-i-preserved : goal.loop-i-preserved
loop-i-preserved g c =
    elim c.if-marked-i.branch [
      | then-marked-i+then-i-skipped w ↦
          let is = other-marked c.args.marked.now c.args.skipped c.loop-i.i w.if-marked-i.true w.if-i-skipped.true in
          let more = count-more other c.loop-i.i (marked_below other c.loop-i.i) is refl in
          let one = count-below other c.loop-i.i c.args.self.now.word_length c.loop-i-test.true is in (
            ap (λ (s : List ℕ). length s) w.sums-is ∙ w.multiply_sums.ensures.long ∙ c.loop-i.invariant.0,
            omega (arith, w.left-is, more, one, c.requires.few, c.loop-i.invariant.1),
            λ weight are m below.
                let inside : m + 1 < c.loop-i.left = omega (arith, below, w.left-is) in
                ap (λ (s : List ℕ). slice_index s m) w.sums-is
                ∙ sums-marked (g.F.SymbolField.width c.args.self.now.field) times (g.met.F.SymbolField.wide_law c.args.self.now.field) field c.args.self.now.word_length point weight other c.loop-i.i m
                (slice_index w.multiply_sums.new.sums m) (slice_index c.loop-i.sums (m + 1))
                (slice_index c.loop-i.sums m) is (c.loop-i.invariant.2 weight are (m + 1) inside)
                (c.loop-i.invariant.2 weight are m (omega (arith, inside)))
                (w.multiply_sums.ensures.sums m (omega (arith, inside))
                ∙ ap (λ (p : ℕ). bit_xor (slice_index c.loop-i.sums (m + 1)) (times p (slice_index c.loop-i.sums m)))
                (c.requires.points c.loop-i.i c.loop-i-test.true)),
          )
      | else-marked-i w ↦
          let is : other c.loop-i.i ≡ false = elim w.else-marked-i.branch [
            | else-marked-i-via-then-marked-i+else-i-skipped v ↦
                other-own c.args.marked.now c.args.skipped c.loop-i.i v.if-i-skipped.false
            | else-marked-i-via-else-marked-i v ↦
                other-free c.args.marked.now c.args.skipped c.loop-i.i v.if-marked-i.false
          ] in
          let same = count-same other c.loop-i.i (marked_below other c.loop-i.i) is refl in (
            ap (λ (s : List ℕ). length s) w.sums-is ∙ c.loop-i.invariant.0,
            omega (arith, w.left-is, same, c.loop-i.invariant.1),
            λ weight are m below.
                ap (λ (s : List ℕ). slice_index s m) w.sums-is
                ∙ sums-unmarked (g.F.SymbolField.width c.args.self.now.field) times (g.met.F.SymbolField.wide_law c.args.self.now.field) field c.args.self.now.word_length point weight other c.loop-i.i m
                (slice_index c.loop-i.sums m) is
                (c.loop-i.invariant.2 weight are m (omega (arith, below, w.left-is))),
          )
    ]
  where
    times : ℕ → ℕ → ℕ
    times = g.F.SymbolField.product c.args.self.now.field

    field : IsField (g.F.SymbolField.width c.args.self.now.field) (g.F.SymbolField.product c.args.self.now.field)
    field = g.met.F.SymbolField.field_law c.args.self.now.field

    point : ℕ → ℕ
    point = falling_point (g.F.SymbolField.product c.args.self.now.field) c.args.self.now.root c.args.self.now.word_length

    other : ℕ → Bool
    other = is_other c.args.marked.now c.args.skipped

pub returns-clause-left : goal.returns-clause-left
returns-clause-left g c =
    let end : c.loop-i.i ≡ c.args.self.now.word_length = omega arith in
    let same = ap (marked_below (is_other c.args.marked.now c.args.skipped)) end in
    omega (arith, c.loop-i.invariant.1, same)

pub returns-clause-sums : goal.returns-clause-sums
returns-clause-sums g c = λ weight are m below.
    let code = c.args.self.now in
    let times = g.F.SymbolField.product code.field in
    let n = code.word_length in
    let point = falling_point times code.root n in
    let end : c.loop-i.i ≡ n = omega arith in
    c.loop-i.invariant.2 weight are m below
    ∙ ap (λ (k : ℕ). weighted_sum times n point weight
    (marked_product times point (is_other c.args.marked.now c.args.skipped) k) m) end
