-- Repeated squarings of an element of the tower: half as many as the level has bits give the conjugate, as many return
-- the element, and one fewer give its square root.
use Rattle.std.proofs.Common.{◌≡◌, ◌≢◌, ℕ, suc, ◌-◌, ◌%◌, ◌^◌, ◌<◌, sym, ◌∙◌, ap, arith}
use Rattle.std.proofs.lemmas.Nat.{pow_below, pow_pos}
use native.Mathlib.Nat.{mod-eq_of_lt}
use Rattle.field_base.specs.Norm.{conjugate}
use Rattle.field_base.specs.Powers.{power, repeated_square}
use Rattle.field_base.specs.Tower.{root, tower_mul}
use Rattle.field_base.specs.TowerField.{root_inverse}
use Rattle.field_base.proofs.TowerRing.{tower_ring}
use Rattle.field_base.proofs.TowerTraces.{tower_traces, squarings_return}
use Rattle.field_base.proofs.TowerInverse.{tower_inverse, tower_mul-inverse}
use Rattle.field_base.proofs.PowerLemmas.{times-one, repeated_square-mod_round, repeated_square-power, power-lt}
use Rattle.field_base.proofs.QuadraticTraces.{repeated_square-conjugate}

-- 2 ^ k squarings of an element of level k + 1, which return each element of level k, are its conjugate
pub tower_repeated_square-half : (k a : ℕ) → repeated_square 1 (tower_mul (suc k)) (2 ^ k) a ≡ conjugate (2 ^ k) (tower_mul k) (root k) a
unfolding tower_mul
tower_repeated_square-half k a =
    repeated_square-conjugate (2 ^ k) (tower_mul k) (tower_ring k) (root k) (root_inverse k) (tower_traces k) a

-- n squarings are as many as n leaves modulo the number of bits
pub tower_repeated_square-mod_bits : (k n a : ℕ) → repeated_square 1 (tower_mul k) (n % 2 ^ k) a ≡ repeated_square 1 (tower_mul k) n a
tower_repeated_square-mod_bits k n a = repeated_square-mod_round (2 ^ k) 1 (tower_mul k) (tower_ring k) (2 ^ k) (squarings_return k) n a

-- the one is an element of every level
pub one_fits : (k : ℕ) → 1 < 2 ^ 2 ^ k
one_fits k = pow_below 0 (2 ^ k) (pow_pos k)

-- n squarings are the power 2 ^ n
pub tower_repeated_square-power : (k n a : ℕ) → repeated_square 1 (tower_mul k) n a ≡ power 1 (tower_mul k) a (2 ^ n)
tower_repeated_square-power k n a = repeated_square-power (2 ^ k) 1 (tower_mul k) (tower_ring k) (one_fits k) n a

-- the power of a nonzero element by the number of nonzero elements is 1 (Fermat)
pub tower_power-units : (k a : ℕ) → a < 2 ^ 2 ^ k → a ≢ 0 → power 1 (tower_mul k) a (2 ^ 2 ^ k - 1) ≡ 1
unfolding power
tower_power-units k a fits nonzero =
    sym (times-one (2 ^ k) 1 (tower_mul k) (tower_ring k) p (power-lt (2 ^ k) 1 (tower_mul k) (tower_ring k) (one_fits k) a _))
    ∙ ap (tower_mul k p) (sym (tower_mul-inverse k a fits nonzero))
    ∙ sym ((tower_ring k).assoc p a (tower_inverse k a))
    ∙ ap (λ (x : ℕ). tower_mul k x (tower_inverse k a)) returned ∙ tower_mul-inverse k a fits nonzero
  where
    p : ℕ
    p = power 1 (tower_mul k) a (2 ^ 2 ^ k - 1)

    last : suc (2 ^ 2 ^ k - 1) ≡ 2 ^ 2 ^ k
    last = omega (arith, pow_pos (2 ^ k))

    returned : tower_mul k p a ≡ a
    returned =
        ap (power 1 (tower_mul k) a) last ∙ sym (tower_repeated_square-power k (2 ^ k) a) ∙ squarings_return k a
        ∙ mod-eq_of_lt fits
