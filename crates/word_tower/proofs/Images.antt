-- The product of two elements by the product of their images in another basis.
use Rattle.std.proofs.Common.{◌≡◌, ℕ, ◌^◌, ◌<◌, List, sym, ◌∙◌, ap₂}
use Rattle.field_base.specs.Basis.{basis_image, IsHomomorphism}
use Rattle.field_base.specs.Remainder.{mul_mod}
use Rattle.field_base.specs.Tower.{tower_mul}
use Rattle.field_base.proofs.TowerRing.{tower_ring}

-- a and b are the images, p is their product, and r is the only element whose image is p
pub product_by_images : (k width modulus : ℕ) (images : List ℕ) → IsHomomorphism k width modulus images → (x y a b p r : ℕ)
    → a ≡ basis_image width modulus images x → b ≡ basis_image width modulus images y → p ≡ mul_mod width modulus a b
    → ((z : ℕ) → z < 2 ^ 2 ^ k → basis_image width modulus images z ≡ p → z ≡ r) → r ≡ tower_mul k x y
product_by_images k width modulus images keeps x y a b p r of_a of_b of_p only =
    sym (only (tower_mul k x y) ((tower_ring k).below x y)
    (keeps.product_image x y ∙ sym (of_p ∙ ap₂ (mul_mod width modulus) of_a of_b)))
