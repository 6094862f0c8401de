use Rattle.std.proofs.Common.{◌<◌, ◌^◌, ℕ, length, sym, subst, ◌∙◌, ap, arith}
use Rattle.std.specs.Prelude.{bit_xor, slice_index_or}
use Rattle.std.proofs.lemmas.Nat.{xor_lt}
use Rattle.field_element.proofs.element.lanes.AddedMultiplesOnWords.change.Goals as goal

pub returns-clause-elements : goal.returns-clause-elements
returns-clause-elements g c =
    let kernel = g.K.FieldKernel in
    let words = c.args.words.now in
    let number = g.R.Stored.number in
    let scalar = c.args.self.now.scalar.repr in
    λ k below d.
    let within : k < length words = omega (arith, below, c.add_multiples.auto.sums) in
    subst (λ (n : ℕ). n < 2 ^ kernel.width) (sym (c.add_multiples.ensures k below d))
    (xor_lt kernel.width (number (slice_index_or words k d))
    (kernel.product (number scalar) (number (slice_index_or c.read_from.new.words k d)))
    (c.requires.elements k within d) (kernel.field_law.ring.below _ _))

pub returns-clause-results : goal.returns-clause-results
returns-clause-results g c k below d =
    let number = g.R.Stored.number in
    let done : k < length c.add_multiples.new.sums = omega (arith, below, c.add_multiples.auto.sums) in
    let read : k < length c.read_from.new.words = omega (arith, below, c.read_from.ensures.long, c.requires.room) in
    c.add_multiples.ensures k done d
    ∙ ap (λ (y : ℕ). bit_xor (number (slice_index_or c.args.words.now k d)) (g.K.FieldKernel.product (number c.args.self.now.scalar.repr) y))
    (c.read_from.ensures.read k read d)
