-- The products of bytes, checked whole by computation.
use Rattle.std.proofs.Common.{◌≡◌, ℕ, ◌+◌, ◌*◌, ◌/◌, ◌%◌, ◌<◌, true, refl, ◌∙◌, ap, arith, lit<}
use Rattle.std.specs.Prelude.{slice_index}
use Rattle.field_base.specs.Quadratic.{quadratic}
use Rattle.field_base.specs.Tower.{root, tower_mul}
use Rattle.field_base.proofs.TableChecks.{passes, tabulates, tabulates_at}
use Rattle.field_base.proofs.TowerRing.{tower_ring}
use Rattle.additive_transforms.specs.declared.multiples.literals.TheConstants.{PRODUCTS}

-- the product of s by n, or by 16 n
abbrev product_of : ℕ → ℕ → ℕ → ℕ
product_of s n high = tower_mul 3 s (n * (1 + 15 * high))

-- that which stands at a place
abbrev product_at : ℕ → ℕ
product_at p = product_of (p / 32) (p % 16) (p / 16 % 2)

-- PRODUCTS has these (computed)
products_pass : tabulates product_at PRODUCTS ≡ true
unfolding tower_mul quadratic root tabulates passes
products_pass = refl

-- the entry at a place, by its digits
entry_is : (p s n high : ℕ) → p < 8192 → p / 32 ≡ s → p % 16 ≡ n → p / 16 % 2 ≡ high → slice_index PRODUCTS p ≡ product_of s n high
entry_is p s n high inside of_s of_n of_high =
    tabulates_at product_at PRODUCTS p products_pass inside
    ∙ ap (λ (x : ℕ). product_of x (p % 16) (p / 16 % 2)) of_s
    ∙ ap (λ (x : ℕ). product_of s x (p / 16 % 2)) of_n
    ∙ ap (product_of s n) of_high

-- the product by a low half
pub low_product : (s n : ℕ) → s < 256 → n < 16 → slice_index PRODUCTS (32 * s + n) ≡ tower_mul 3 s n
low_product s n byte half =
    let single : n * (1 + 15 * 0) ≡ n = omega arith in
    entry_is (32 * s + n) s n 0 (omega (arith, byte, half)) (omega (arith, half)) (omega (arith, half)) (omega (arith, half))
    ∙ ap (tower_mul 3 s) single

-- the product by a high half
pub high_product : (s n : ℕ) → s < 256 → n < 16 → slice_index PRODUCTS (32 * s + 16 + n) ≡ tower_mul 3 s (n * 16)
high_product s n byte half =
    entry_is (32 * s + 16 + n) s n 1 (omega (arith, byte, half)) (omega (arith, half)) (omega (arith, half)) (omega (arith, half))

-- the product by the root of level 3
pub root_product : (s : ℕ) → s < 256 → slice_index PRODUCTS (32 * s + 17) ≡ tower_mul 3 (root 3) s
unfolding root
root_product s byte =
    let place : 32 * s + 17 ≡ 32 * s + 16 + 1 = omega arith in
    ap (slice_index PRODUCTS) place ∙ high_product s 1 byte (lit< tt) ∙ (tower_ring 3).comm s 16
