-- The orders of the elements that standards take powers of: each power below 255 but the first is computed, and none is
-- 1.
use Rattle.std.proofs.Common.{◌≡◌, ℕ, zero, suc, ◌+◌, ◌<◌, ◌≤◌, Bool, true, ◌&&◌, refl, ◌∙◌, ap, arith}
use Rattle.std.specs.Prelude.{nat_eq, not}
use Rattle.std.proofs.lemmas.Bool.{and_parts}
use Rattle.field_base.specs.Carryless.{carryless, carryless_in}
use Rattle.field_base.specs.Powers.{power}
use Rattle.field_base.specs.Remainder.{mul_mod, rem, rem_in}
use Rattle.error_codes.specs.Correcting.{HasOrder}
use Rattle.error_codes.proofs.Marks.{differ-is, not-false}

-- none of so many values is 1, each the one before times r
unfoldable none_is_one : (ℕ → ℕ → ℕ) → ℕ → ℕ → ℕ → Bool
none_is_one times r value zero = true
none_is_one times r value (suc n) = not (nat_eq value 1) && none_is_one times r (times value r) n

none-at : (times : ℕ → ℕ → ℕ) (r : ℕ) (n d i : ℕ) → none_is_one times r (power 1 times r d) n ≡ true → i < n
    → power 1 times r (d + i) ≡ 1 → ⊥
unfolding none_is_one power
none-at times r zero d i pass below one = absurd (omega (arith, below))
none-at times r (suc n) d zero pass below one =
    let first = (and_parts (not (nat_eq (power 1 times r d) 1))
    (none_is_one times r (power 1 times r (suc d)) n) pass).0 in
    differ-is (power 1 times r d) 1 (not-false (nat_eq (power 1 times r d) 1) first) (ap (power 1 times r) here ∙ one)
  where
    here : d ≡ d + zero
    here = omega arith
none-at times r (suc n) d (suc i) pass below one =
    none-at times r n (suc d) i
    (and_parts (not (nat_eq (power 1 times r d) 1)) (none_is_one times r (power 1 times r (suc d)) n) pass).1
    (omega (arith, below)) (ap (power 1 times r) next ∙ one)
  where
    next : suc d + i ≡ d + suc i
    next = omega arith

order : (times : ℕ → ℕ → ℕ) (r : ℕ) → none_is_one times r (power 1 times r 1) 254 ≡ true → (n : ℕ) → n ≤ 255
    → HasOrder times r n
order times r pass n few zero some below one = absurd (omega (arith, some))
order times r pass n few (suc d) some below one =
    none-at times r 254 1 d pass (omega (arith, below, few)) (ap (power 1 times r) next ∙ one)
  where
    next : 1 + d ≡ suc d
    next = omega arith

qr-passes : none_is_one (mul_mod 8 0x11d) (power 1 (mul_mod 8 0x11d) 2 1)
    (power 1 (mul_mod 8 0x11d) (power 1 (mul_mod 8 0x11d) 2 1) 1) 254 ≡ true
unfolding mul_mod rem rem_in carryless carryless_in none_is_one power
qr-passes = refl

ccsds-passes : none_is_one (mul_mod 8 0x187) (power 1 (mul_mod 8 0x187) 2 11)
    (power 1 (mul_mod 8 0x187) (power 1 (mul_mod 8 0x187) 2 11) 1) 254 ≡ true
unfolding mul_mod rem rem_in carryless carryless_in none_is_one power
ccsds-passes = refl

pub qr-order : (n : ℕ) → n ≤ 255 → HasOrder (mul_mod 8 0x11d) (power 1 (mul_mod 8 0x11d) 2 1) n
qr-order = order (mul_mod 8 0x11d) (power 1 (mul_mod 8 0x11d) 2 1) qr-passes

pub ccsds-order : (n : ℕ) → n ≤ 255 → HasOrder (mul_mod 8 0x187) (power 1 (mul_mod 8 0x187) 2 11) n
ccsds-order = order (mul_mod 8 0x187) (power 1 (mul_mod 8 0x187) 2 11) ccsds-passes

-- the generator itself
pub qr-root : power 1 (mul_mod 8 0x11d) 2 1 ≡ 2
unfolding mul_mod rem rem_in carryless carryless_in power
qr-root = refl
