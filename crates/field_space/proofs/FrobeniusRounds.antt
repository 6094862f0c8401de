-- As many automorphisms as the dimension of a field over a smaller one return each element, so that a count of them counts modulo
-- the dimension.
use Rattle.std.proofs.Common.{◌≡◌, ℕ, ◌+◌, ◌*◌, ◌/◌, ◌%◌, ◌^◌, ◌<◌, sym, ◌∙◌, ap, arith}
use native.Mathlib.Nat.{add-mul-mod_self_right, div-add-mod', mul-add, mul-suc, mul-zero, mul_assoc, mul_comm}
use native.Mathlib.Numerals.{add-one}
use Rattle.field_base.specs.Field.{IsField}
use Rattle.field_base.specs.Powers.{repeated_square}
use Rattle.field_base.proofs.FieldLemmas.{field_repeated_square-mod_bits}
use Rattle.field_base.proofs.PowerLemmas.{repeated_square-add, repeated_square-none}

module _ (whole : ℕ) (times : ℕ → ℕ → ℕ) (field : IsField whole times) (width : ℕ) where
  -- no automorphism is no squaring
  pub no_round : (value x count : ℕ) → value ≡ x → x < 2 ^ whole → value ≡ repeated_square 1 times (width * 0) x
  no_round value x count same fits =
      same ∙ sym (ap (λ (k : ℕ). repeated_square 1 times k x) (mul-zero width) ∙ repeated_square-none whole 1 times field.ring x fits)

  -- one automorphism more is `width` squarings more
  pub one_round : (count value x y : ℕ) → y ≡ repeated_square 1 times width value → value ≡ repeated_square 1 times (width * count) x
      → y ≡ repeated_square 1 times (width * (count + 1)) x
  one_round count value x y is begun =
      let next : width * (count + 1) ≡ width + width * count =
      ap (λ (k : ℕ). width * k) (add-one count) ∙ mul-suc width count ∙ omega arith in
      is ∙ ap (repeated_square 1 times width) begun
      ∙ sym (ap (λ (k : ℕ). repeated_square 1 times k x) next ∙ repeated_square-add whole 1 times field.ring width (width * count) x)

  -- a count of automorphisms can be taken modulo the dimension
  pub rounds_count : (dimension count x : ℕ) → whole ≡ width * dimension
      → repeated_square 1 times (width * (count % dimension)) x ≡ repeated_square 1 times (width * count) x
  rounds_count dimension count x bits =
      let left = count % dimension in
      let turns = count / dimension in
      let parts : count ≡ left + dimension * turns = omega (arith, mul_comm turns dimension, div-add-mod' count dimension) in
      let product : width * count ≡ width * left + turns * whole =
      ap (λ (k : ℕ). width * k) parts ∙ mul-add width left (dimension * turns)
      ∙ ap (λ (k : ℕ). width * left + k) (sym (mul_assoc width dimension turns) ∙ mul_comm (width * dimension) turns)
      ∙ ap (λ (k : ℕ). width * left + turns * k) (sym bits) in
      let same : width * count % whole ≡ width * left % whole =
      ap (λ (k : ℕ). k % whole) product ∙ add-mul-mod_self_right (width * left) turns whole in
      sym (field_repeated_square-mod_bits whole times field (width * left) x)
      ∙ ap (λ (k : ℕ). repeated_square 1 times k x) (sym same)
      ∙ field_repeated_square-mod_bits whole times field (width * count) x
