use Rattle.std.proofs.Common.{◌<◌, ◌^◌, ℕ, sym, subst}
use Rattle.std.proofs.lemmas.Nat.{xor_lt}
use Rattle.field_element.proofs.element.lanes.AddedMultiplesOnWords.result_at.Goals as goal

pub returns-clause-element : goal.returns-clause-element
returns-clause-element g c =
    let kernel = g.K.FieldKernel in
    let number = g.R.Stored.number in
    let product = c.multiply.result in
    subst (λ (n : ℕ). n < 2 ^ kernel.width) (sym c.xor.ensures)
    (xor_lt kernel.width (number c.args.word) (number product) c.requires.element
    (subst (λ (n : ℕ). n < 2 ^ kernel.width) (sym c.multiply.ensures) (kernel.field_law.ring.below _ _)))
