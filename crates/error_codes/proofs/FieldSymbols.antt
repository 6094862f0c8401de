-- Elements of fields of at most 2 ^ 16 elements as words of 16 bits.
use Rattle.std.proofs.Common.{◌≡◌, ◌≢◌, ℕ, ◌%◌, ◌^◌, ◌<◌, ◌≤◌, sym, ◌∙◌, ap, arith, lit<}
use Rattle.std.proofs.Math.Nat.{pow-le-pow_right}
use native.Mathlib.Nat.{mod-eq_of_lt}
use Rattle.field_base.specs.Field.{IsInverseOrZero}
use Rattle.field_base.proofs.RingLemmas.{mod-times, times-mod}
use Rattle.reed_solomon.specs.ByteFields.{byte_times}
use Rattle.reed_solomon.specs.declared.byte_field.ByteField.{ByteField}
use Rattle.reed_solomon.proofs.ByteFields.{bytes_are_fields}

-- an element fits in a word
pub element-fits : (width x : ℕ) → width ≤ 16 → x < 2 ^ width → x < 65536
element-fits width x narrow below =
    let most : 2 ^ width ≤ 2 ^ 16 = pow-le-pow_right (lit< tt) narrow in
    omega (arith, most, below)

-- the inverse of an element other than 0
pub inverse-found : (times : ℕ → ℕ → ℕ) (width x y : ℕ) → x < 2 ^ width → x ≢ 0 → IsInverseOrZero times (x % 2 ^ width) y
    → times x y ≡ 1
inverse-found times width x y fits nonzero inverse =
    let same : x % 2 ^ width ≡ x = mod-eq_of_lt fits in
    ap (λ (z : ℕ). times z y) (sym same) ∙ inverse.1 (λ e. nonzero (sym same ∙ e))

-- ---- bytes

-- a product depends on the low bytes
pub low-product : (field : ByteField) (x y : ℕ) → byte_times field (x % 256) (y % 256) ≡ byte_times field x y
low-product field x y =
    mod-times 8 1 (byte_times field) (bytes_are_fields field).ring x (y % 256)
    ∙ times-mod 8 1 (byte_times field) (bytes_are_fields field).ring x y
