use Rattle.std.proofs.Common.{◌-◌, ◌<◌, length}
use Rattle.std.specs.Prelude.{slice_index}
use Rattle.std.proofs.lemmas.List.{get_or_default}
use Rattle.std.proofs.Common.{ℕ, ◌%◌, ◌^◌, refl, ap₂, arith}
use Rattle.std.specs.Prelude.{bit_xor}
use Rattle.std.proofs.lemmas.Nat.{pow_pos}
use native.Mathlib.Nat.{mod-lt}
use Rattle.field_base.proofs.Horner.{horner_start, horner_step}
use Rattle.any_field.specs.Contexts.{field_product}
use Rattle.any_field.proofs.WordRemainders.{context-ring}
use Rattle.any_field.proofs.extension.BinaryExtension.evaluate.Goals as goal

pub loop-place-init : goal.loop-place-init
loop-place-init c =
    horner_start c.args.self.degree 1 (field_product c.args.self.degree c.args.self.tail)
    (context-ring c.args.self.degree c.args.self.tail c.args.self.ratio c.args.self.context) (λ (z : ℕ). z % 2 ^ c.args.self.degree) c.args.x 0 _
    c.args.coefficients.now (omega arith) refl

pub loop-place-preserved : goal.loop-place-preserved
loop-place-preserved c =
    let place = c.loop-place.place - 1 in
    let coefficient = slice_index c.args.coefficients.now place in
    let within : place < length c.args.coefficients.now = omega arith in
    horner_step c.args.self.degree 1 (field_product c.args.self.degree c.args.self.tail)
    (context-ring c.args.self.degree c.args.self.tail c.args.self.ratio c.args.self.context) (λ (z : ℕ). z % 2 ^ c.args.self.degree) c.args.x
    c.loop-place.value (bit_xor c.multiply.result c.low_bits.result) c.loop-place.place c.args.coefficients.now coefficient (omega arith) (omega arith)
    (mod-lt coefficient (pow_pos c.args.self.degree)) (get_or_default c.args.coefficients.now place 0 coefficient within) c.loop-place.invariant
    (ap₂ bit_xor c.multiply.ensures c.low_bits.ensures)
