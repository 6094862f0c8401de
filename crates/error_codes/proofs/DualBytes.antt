-- The two maps between a symbol and its byte in the dual basis are inverse: at 1, 2, 4, .., and so at every byte.
use Rattle.std.proofs.Common.{◌≡◌, ℕ, suc, ◌<◌, List, [], ◌∷◌, map, refl, sym, ◌∙◌, ap, ap₂}
use Rattle.std.specs.Prelude.{bit_xor, slice_index}
use Rattle.field_base.specs.Basis.{sum_below}
use Rattle.field_base.specs.LinearMaps.{linear_image}
use Rattle.field_base.proofs.BasisColumns.{sum_of_columns}
use Rattle.field_base.proofs.LinearMapLemmas.{columns_checked, the_linear_map}
use Rattle.field_base.proofs.TableChecks.{passes}
use Rattle.error_codes.specs.DualBasis.{dual_byte, dual_images}
use Rattle.error_codes.specs.declared.dual_basis.TheConstants.{FROM_DUAL}

powers : List ℕ
powers = 1 ∷ 2 ∷ 4 ∷ 8 ∷ 16 ∷ 32 ∷ 64 ∷ 128 ∷ []

identity-checked : (x : ℕ) → x < 256 → sum_of_columns powers x ≡ x
unfolding passes powers
identity-checked x fits = columns_checked (λ y. y) (λ a b. refl) powers refl x fits

pub dual-sums : (x y : ℕ) → dual_byte (bit_xor x y) ≡ bit_xor (dual_byte x) (dual_byte y)
dual-sums = (the_linear_map dual_images).of_sum

from-sums : (x y : ℕ) → linear_image FROM_DUAL (bit_xor x y) ≡ bit_xor (linear_image FROM_DUAL x) (linear_image FROM_DUAL y)
from-sums = (the_linear_map FROM_DUAL).of_sum

-- the byte of the symbol of a byte
pub there-and-back : (y : ℕ) → y < 256 → dual_byte (linear_image FROM_DUAL y) ≡ y
unfolding passes linear_image sum_below powers
there-and-back y fits =
    sym (columns_checked (λ z. dual_byte (linear_image FROM_DUAL z))
    (λ a b. ap dual_byte (from-sums a b) ∙ dual-sums (linear_image FROM_DUAL a) (linear_image FROM_DUAL b)) powers refl y
    fits)
    ∙ identity-checked y fits

-- the symbol of the byte of a symbol
back-and-there : (x : ℕ) → x < 256 → linear_image FROM_DUAL (dual_byte x) ≡ x
unfolding passes linear_image sum_below powers
back-and-there x fits =
    sym (columns_checked (λ z. linear_image FROM_DUAL (dual_byte z))
    (λ a b. ap (linear_image FROM_DUAL) (dual-sums a b) ∙ from-sums (dual_byte a) (dual_byte b)) powers refl x fits)
    ∙ identity-checked x fits

pub dual-differ : (x y : ℕ) → x < 256 → y < 256 → dual_byte x ≡ dual_byte y → x ≡ y
dual-differ x y x_fits y_fits same =
    sym (back-and-there x x_fits) ∙ ap (linear_image FROM_DUAL) same ∙ back-and-there y y_fits

-- at each byte of a list
pub each-back : (bytes : List ℕ) → ((i : ℕ) → slice_index bytes i < 256)
    → map dual_byte (map (linear_image FROM_DUAL) bytes) ≡ bytes
each-back [] fits = refl
each-back (byte ∷ bytes) fits =
    ap₂ ◌∷◌ (there-and-back byte (fits 0)) (each-back bytes (λ i. fits (suc i)))
