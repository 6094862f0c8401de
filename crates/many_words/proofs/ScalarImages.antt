-- The products of a scalar modulo x^64 + x^4 + x^3 + x + 1 as the values of a linear map.
use Rattle.std.proofs.Common.{below_more, ◌≡◌, ℕ, ◌+◌, ◌*◌, ◌%◌, ◌^◌, ◌<◌, List, length, set, get_or-set_other, get_or-set_same, refl, sym, ◌∙◌, ap, subst, arith}
use Rattle.std.specs.Prelude.{slice_index}
use Rattle.std.proofs.Math.Nat.{mul-lt-mul_of_pos_right}
use Rattle.std.proofs.Math.Pow.{pow-lt}
use Rattle.std.proofs.lemmas.Nat.{pow_pos}
use native.Mathlib.Nat.{mod-eq_of_lt, one-mul}
use Rattle.field_base.specs.Carryless.{carryless}
use Rattle.field_base.specs.LinearMaps.{linear_image}
use Rattle.field_base.specs.Remainder.{mul_mod, poly64_modulus, rem}
use Rattle.field_base.proofs.CarrylessProduct.{one_carryless, shl_carryless}
use Rattle.field_base.proofs.LinearMapLemmas.{the_linear_map}
use Rattle.field_base.proofs.RemainderRing.{mul_mod-rem, poly64_ring}
use Rattle.field_base.proofs.RingLemmas.{sum_times}

-- the product of a bit is the remainder of a number that is moved up
bit_product : (s j : ℕ) → s < 2 ^ 64 → j < 64 → mul_mod 64 poly64_modulus (2 ^ j) s ≡ rem 64 poly64_modulus (s * 2 ^ j)
bit_product s j fits below =
    mul_mod-rem 64 poly64_modulus refl (2 ^ j) s (pow-lt below) fits
    ∙ ap (rem 64 poly64_modulus)
    (ap (λ (x : ℕ). carryless x s) (sym (one-mul (2 ^ j))) ∙ shl_carryless j 1 s ∙ ap (λ (x : ℕ). x * 2 ^ j) (one_carryless s))

-- a word that is moved up by less than its bits fits two words
pub moved : (s j : ℕ) → s < 2 ^ 64 → j < 64 → s * 2 ^ j % 2 ^ 128 ≡ s * 2 ^ j
moved s j fits below =
    let less : s * 2 ^ j < 2 ^ 64 * 2 ^ j = mul-lt-mul_of_pos_right fits (pow_pos j) in
    let few : 2 ^ j < 2 ^ 64 = pow-lt below in
    mod-eq_of_lt (omega (arith, less, few))

-- images that are these remainders give the products
pub products_of_images : (s : ℕ) (images : List ℕ) → length images ≡ 64 → s < 2 ^ 64
    → ((j : ℕ) → j < 64 → slice_index images j ≡ rem 64 poly64_modulus (s * 2 ^ j))
    → (x : ℕ) → x < 2 ^ 64 → linear_image images x ≡ mul_mod 64 poly64_modulus x s
products_of_images s images long fits are x small =
    sym ((the_linear_map images).only (λ y. mul_mod 64 poly64_modulus y s) (λ y z. sum_times 64 1 (mul_mod 64 poly64_modulus) poly64_ring y z s)
    (λ j below. let inside : j < 64 = omega (arith, below, long) in bit_product s j fits inside ∙ sym (are j inside)) x
    (subst (λ (n : ℕ). x < 2 ^ n) (sym long) small))

-- one image more
pub image_set : (value : ℕ → ℕ) (images : List ℕ) (bit image : ℕ) → bit < length images → image ≡ value bit
    → ((j : ℕ) → j < bit → slice_index images j ≡ value j) → (j : ℕ) → j < bit + 1 → slice_index (set images bit image) j ≡ value j
image_set value images bit image inside is before =
    below_more (λ (j : ℕ). slice_index (set images bit image) j ≡ value j) bit
    (λ j early. get_or-set_other images bit j image 0 (λ e. absurd (omega (arith, early, e))) ∙ before j early)
    (get_or-set_same images bit image 0 inside ∙ is)
