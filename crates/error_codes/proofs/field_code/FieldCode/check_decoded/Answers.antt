use Rattle.std.proofs.Common.{◌≡◌, ◌+◌, ◌-◌, ◌<◌, ℕ, List, true, false, slice_index, refl, sym, ◌∙◌, ap, subst, arith}
use Rattle.std.specs.Prelude.{nat_eq, not}
use Rattle.field_base.specs.Powers.{power}
use Rattle.error_codes.specs.Correcting.{code_value}
use Rattle.error_codes.specs.FieldCodes.{AreSymbols}
use Rattle.error_codes.specs.Filling.{is_marked}
use Rattle.error_codes.proofs.Meanings.{wrong-counted}
use Rattle.error_codes.proofs.field_code.FieldCode.check_decoded.Goals as goal

pub returns-then-errors-most-clause-accepted : goal.returns-then-errors-most-clause-accepted
returns-then-errors-most-clause-accepted g c = (
  λ no. let none : false ≡ true = no in absurd (cc),
  λ holds.
      let same = wrong-counted (slice_index c.args.word.now) (slice_index c.args.fixed.now)
      (is_marked c.args.erased.now) (is_marked c.mark_differing.new.marks) c.args.self.now.word_length
      (λ i below. c.mark_differing.ensures.within i (omega (arith, below, c.requires.long))) in
      let counted = c.count_others-errors.ensures in
      absurd (omega (arith, holds.2, same, counted, c.if-errors-most.true)),
)

pub returns-then-not-are_elements-clause-accepted : goal.returns-then-not-are_elements-clause-accepted
returns-then-not-are_elements-clause-accepted g c = (
  λ no. let none : false ≡ true = no in absurd (cc),
  λ holds.
      let yes = c.are_elements.ensures.1
      (subst (λ (n : ℕ). AreSymbols (g.F.SymbolField.width c.args.self.now.field) n c.args.fixed.now) (sym c.requires.whole) holds.0) in
      let no = c.if-not-are_elements.true in
      absurd (cc),
)

pub returns-then-not-are_zeros-clause-accepted : goal.returns-then-not-are_zeros-clause-accepted
returns-then-not-are_zeros-clause-accepted g c = (
  λ no. let none : false ≡ true = no in absurd (cc),
  λ holds.
      let code = c.args.self.now in
      let value = λ (k m : ℕ). code_value (g.F.SymbolField.product code.field) k (slice_index c.args.fixed.now)
      (power 1 (g.F.SymbolField.product code.field) code.root (code.first_root + m)) in
      let yes = c.are_zeros.ensures.1
      (λ m below.
      let inside : m < c.args.self.now.word_length - c.args.self.now.dimension = omega (arith, below, c.turn_values.ensures.long, c.requires.values) in
      c.turn_values.ensures.values m (omega (arith, inside, c.requires.values))
      ∙ ap (λ (k : ℕ). value k m) (sym c.requires.whole) ∙ holds.1 m inside) in
      let no = c.if-not-are_zeros.true in
      absurd (cc),
)

pub returns-clause-accepted : goal.returns-clause-accepted
returns-clause-accepted g c = (
  λ ok.
      let code = c.args.self.now in
      let value = λ (k m : ℕ). code_value (g.F.SymbolField.product code.field) k (slice_index c.args.fixed.now)
      (power 1 (g.F.SymbolField.product code.field) code.root (code.first_root + m)) in (
        subst (λ (n : ℕ). AreSymbols (g.F.SymbolField.width c.args.self.now.field) n c.args.fixed.now) c.requires.whole
            (c.are_elements.ensures.0 c.if-not-are_elements.false),
        λ m below.
            ap (λ (k : ℕ). value k m) c.requires.whole
            ∙ sym (c.turn_values.ensures.values m (omega (arith, below, c.requires.values)))
            ∙ c.are_zeros.ensures.0 c.if-not-are_zeros.false m (omega (arith, below, c.turn_values.ensures.long, c.requires.values)),
        (let same = wrong-counted (slice_index c.args.word.now) (slice_index c.args.fixed.now)
            (is_marked c.args.erased.now) (is_marked c.mark_differing.new.marks) c.args.self.now.word_length
            (λ i below. c.mark_differing.ensures.within i (omega (arith, below, c.requires.long))) in
            let counted = c.count_others-errors.ensures in
            omega (arith, same, counted, c.if-errors-most.false)),
      ),
  λ holds. refl,
)

pub returns-clause-within : goal.returns-clause-within
returns-clause-within g c = λ i below.
    c.mark_differing.ensures.within i (omega (arith, below, c.requires.long))
    ∙ ap (λ (w : List ℕ). not (nat_eq (slice_index c.args.word.now i) (slice_index w i))) (sym c.copy_from_slice.ensures.after)

pub turn_values-requires-clause-values : goal.turn_values-requires-clause-values
turn_values-requires-clause-values g c = λ m below. c.requires.given m (omega (arith, below, c.requires.values))
