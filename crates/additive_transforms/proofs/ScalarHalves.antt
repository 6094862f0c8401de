-- Scalars by their halves: the multiples of three of them, and the product by a root.
use Rattle.std.proofs.Common.{◌≡◌, ℕ, suc, ◌+◌, ◌/◌, ◌%◌, ◌^◌, ◌<◌, sym, ◌∙◌, ap, ap₂, subst, arith}
use Rattle.std.specs.Prelude.{bit_xor}
use Rattle.std.proofs.Math.Nat.{div-lt_iff_lt-mul, pow-suc}
use Rattle.std.proofs.lemmas.Nat.{div-add-mod', pow-add, pow_pos, xor_lt}
use native.Mathlib.Nat.{mod-lt}
use Rattle.field_base.specs.Quadratic.{high_half, low_half, pair}
use Rattle.field_base.specs.Tower.{root, tower_mul}
use Rattle.field_base.proofs.QuadraticRing.{high_half-pair, low_half-pair}
use Rattle.field_base.proofs.TowerProducts.{tower_mul-root_suc}
use Rattle.field_base.proofs.TowerRing.{tower_ring}
use Rattle.additive_transforms.specs.Products.{AreHalves, AreMultiplesOfHalves}

-- a scalar of level k + 1 has these halves
pub are_halves : (k bits s low high product : ℕ) → bits ≡ 2 ^ suc k → s < 2 ^ bits → low ≡ s % 2 ^ (bits / 2) → high ≡ s / 2 ^ (bits / 2)
    → AreHalves k (bits / 2) s low high product
are_halves k bits s low high product bits_are fits low_is high_is =
    record {
      half_is = half;
      low_fits = low_fits;
      high_fits = high_fits;
      sum_fits = sum_fits;
      low_sum_fits = λ is. xor_lt (bits / 2) low product low_fits (product_fits is);
      both_sum_fits = λ is. xor_lt (bits / 2) (bit_xor low high) product sum_fits (product_fits is);
      of_halves = sym (ap₂ (pair (bits / 2)) low_is high_is ∙ div-add-mod' s (2 ^ (bits / 2)));
    }
  where
    half : bits / 2 ≡ 2 ^ k
    half = let next = pow-suc 2 k in omega (arith, bits_are, next)

    low_fits : low < 2 ^ (bits / 2)
    low_fits = subst (λ (x : ℕ). x < 2 ^ (bits / 2)) (sym low_is) (mod-lt s (pow_pos (bits / 2)))

    high_fits : high < 2 ^ (bits / 2)
    high_fits =
        let next = pow-suc 2 k in
        let twice : bits ≡ bits / 2 + bits / 2 = omega (arith, bits_are, next) in
        subst (λ (x : ℕ). x < 2 ^ (bits / 2)) (sym high_is)
        ((div-lt_iff_lt-mul (pow_pos (bits / 2))).1
        (subst (λ (b : ℕ). s < b) (ap (λ (e : ℕ). 2 ^ e) twice ∙ pow-add 2 (bits / 2) (bits / 2)) fits))

    sum_fits : bit_xor low high < 2 ^ (bits / 2)
    sum_fits = xor_lt (bits / 2) low high low_fits high_fits

    product_fits : product ≡ tower_mul k (root k) high → product < 2 ^ (bits / 2)
    product_fits is =
        subst (λ (h : ℕ). product < 2 ^ h) (sym half)
        (subst (λ (y : ℕ). y < 2 ^ 2 ^ k) (sym is) ((tower_ring k).below (root k) high))

-- the multiples of three scalars are those of the scalar with these halves
pub multiples_of_scalar : (k half s low high product : ℕ) {M : Type 0} (are : M → ℕ → Type 0) (of_both of_low of_high : M)
    → AreHalves k half s low high product → product ≡ tower_mul k (root k) high → are of_both high → are of_low (bit_xor low high)
    → are of_high (bit_xor (bit_xor low high) product)
    → AreMultiplesOfHalves k are record { both = of_both; low = of_low; high = of_high } s
multiples_of_scalar k half s low high product are of_both of_low of_high halves product_is both_are low_are high_are = (
  low,
  high,
  subst (λ (h : ℕ). low < 2 ^ h) halves.half_is halves.low_fits,
  subst (λ (h : ℕ). high < 2 ^ h) halves.half_is halves.high_fits,
  halves.of_halves ∙ ap (λ (h : ℕ). pair h low high) halves.half_is,
  both_are,
  low_are,
  subst (λ (x : ℕ). are of_high (bit_xor (bit_xor low high) x)) product_is high_are,
)

-- X (low + high X) = high + (low + t high) X
pub root_times : (k half s low high product : ℕ) → AreHalves k half s low high product → product ≡ tower_mul k (root k) high
    → pair half high (bit_xor low product) ≡ tower_mul (suc k) (root (suc k)) s
root_times k half s low high product halves is =
    let low_fits = subst (λ (h : ℕ). low < 2 ^ h) halves.half_is halves.low_fits in
    let high_fits = subst (λ (h : ℕ). high < 2 ^ h) halves.half_is halves.high_fits in
    let whole = halves.of_halves ∙ ap (λ (h : ℕ). pair h low high) halves.half_is in
    ap₂ (λ (w y : ℕ). pair w high (bit_xor low y)) halves.half_is is
    ∙ ap₂ (λ (x y : ℕ). pair (2 ^ k) x (bit_xor y (tower_mul k (root k) x)))
    (sym (ap (high_half (2 ^ k)) whole ∙ high_half-pair (2 ^ k) low high low_fits high_fits))
    (sym (ap (low_half (2 ^ k)) whole ∙ low_half-pair (2 ^ k) low high low_fits))
    ∙ sym (tower_mul-root_suc k s)
