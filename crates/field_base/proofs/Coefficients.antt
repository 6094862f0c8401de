-- An element of a level of the tower multiplies an element of a level above it chunk by chunk: the chunks are its coefficients over the
-- lower level.
use Rattle.std.proofs.Common.{◌≡◌, ◌⊎◌, inl, inr, ℕ, zero, suc, ◌+◌, ◌-◌, ◌*◌, ◌/◌, ◌%◌, ◌^◌, ◌<◌, ◌≤◌, sym, ◌∙◌, ap, subst, arith}
use Rattle.std.proofs.lemmas.Bool.{cases_lt}
use Rattle.std.proofs.lemmas.Nat.{shr-shr, shr_high, pow-add, pow_pos}
use native.Mathlib.Nat.{div-add-mod, div-one, mod-eq_of_lt, mod-lt, mul-add, mul-zero, zero-add, pow-suc}
use Rattle.field_base.specs.Chunks.{chunk}
use Rattle.field_base.specs.Quadratic.{pair, low_half, high_half}
use Rattle.field_base.specs.Ring.{IsRing}
use Rattle.field_base.specs.Tower.{tower_mul}
use Rattle.field_base.proofs.TowerProducts.{level-lt, tower_mul-low_times}
use Rattle.field_base.proofs.TowerRing.{tower_ring}
use Rattle.field_base.proofs.ChunkLists.{chunk_above}

-- ---- dimension 1, which a ring has over itself

-- a product reads the low bits of its operands, which are the one coefficient
pub scales_one_coefficient : (width unit : ℕ) (times : ℕ → ℕ → ℕ) → IsRing width unit times → (i c a : ℕ) → i < 1 → c < 2 ^ width
    → chunk width i (times c a) ≡ times c (chunk width i a)
scales_one_coefficient width unit times ring zero c a first fits =
    only (times c a) ∙ mod-eq_of_lt (ring.below c a) ∙ sym low ∙ sym (ap (times c) (only a))
  where
    only : (x : ℕ) → chunk width 0 x ≡ x % 2 ^ width
    only x = ap (λ (k : ℕ). x / 2 ^ k % 2 ^ width) (mul-zero width) ∙ ap (λ (y : ℕ). y % 2 ^ width) (div-one x)

    low : times c (a % 2 ^ width) ≡ times c a
    low =
        ap (times c) (sym (ring.one a)) ∙ sym (ring.assoc c unit a)
        ∙ ap (λ (z : ℕ). times z a) (ring.comm c unit ∙ ring.one c ∙ mod-eq_of_lt fits)
scales_one_coefficient width unit times ring (suc i) c a first fits = absurd (omega (arith, first))

-- ---- level j inside level k

-- the chunks of a pair of halves of n chunks each
chunk_of_low : (width n i high low : ℕ) → i < n → chunk width i (pair (width * n) low high) ≡ chunk width i low
chunk_of_low width n i high low place = chunk_above width n i high low place

-- a chunk of the high half of a pair
chunk_of_high : (width n i high low : ℕ) → low < 2 ^ (width * n) → chunk width (n + i) (pair (width * n) low high) ≡ chunk width i high
chunk_of_high width n i high low fits =
    ap (λ (k : ℕ). (high * 2 ^ (width * n) + low) / 2 ^ k % 2 ^ width) (mul-add width n i)
    ∙ ap (λ (x : ℕ). x % 2 ^ width) (sym (shr-shr (high * 2 ^ (width * n) + low) (width * n) (width * i)))
    ∙ ap (chunk width i) (shr_high high (width * n) low fits)

-- and of a number by its halves
halves : (width n a : ℕ) → pair (width * n) (a % 2 ^ (width * n)) (a / 2 ^ (width * n)) ≡ a
halves width n a = omega (arith, div-add-mod a (2 ^ (width * n)))

-- a chunk of the low half of a number is that of the number
chunk_in_low : (width n i a : ℕ) → i < n → chunk width i (low_half (width * n) a) ≡ chunk width i a
chunk_in_low width n i a place =
    sym (chunk_of_low width n i (a / 2 ^ (width * n)) (a % 2 ^ (width * n)) place) ∙ ap (chunk width i) (halves width n a)

-- and one of the high half lies n chunks higher
chunk_in_high : (width n i a : ℕ) → i < n → chunk width i (high_half (width * n) a) ≡ chunk width (n + i) a
chunk_in_high width n i a place =
    chunk_in_low width n i (a / 2 ^ (width * n)) place
    ∙ sym (chunk_of_high width n i (a / 2 ^ (width * n)) (a % 2 ^ (width * n)) (mod-lt a (pow_pos (width * n))))
    ∙ ap (chunk width (n + i)) (halves width n a)

-- an element of level j, d levels below
chunk-tower_above : (d j i c a : ℕ) → i < 2 ^ d → c < 2 ^ 2 ^ j → chunk (2 ^ j) i (tower_mul (d + j) c a) ≡ tower_mul j c (chunk (2 ^ j) i a)
chunk-tower_above zero j i c a place fits =
    ap (λ (k : ℕ). chunk (2 ^ j) i (tower_mul k c a)) (zero-add j)
    ∙ scales_one_coefficient (2 ^ j) 1 (tower_mul j) (tower_ring j) i c a place fits
chunk-tower_above (suc d) j i c a place fits =
    ap (λ (k : ℕ). chunk (2 ^ j) i (tower_mul k c a)) next
    ∙ ap (chunk (2 ^ j) i) (tower_mul-low_times (d + j) c a (level-lt d j c fits))
    ∙ ap (λ (w : ℕ). chunk (2 ^ j) i (pair w (tower_mul (d + j) c (low_half w a)) (tower_mul (d + j) c (high_half w a)))) bits
    ∙ by_half (λ n x less. chunk-tower_above d j n c x less fits) (cases_lt i (2 ^ d))
  where
    next : suc d + j ≡ suc (d + j)
    next = omega arith

    bits : 2 ^ (d + j) ≡ 2 ^ j * 2 ^ d
    bits = pow-add 2 d j ∙ omega arith

    low_fits : (x : ℕ) → tower_mul (d + j) c x < 2 ^ (2 ^ j * 2 ^ d)
    low_fits x = subst (λ (w : ℕ). tower_mul (d + j) c x < 2 ^ w) bits ((tower_ring (d + j)).below c x)

    by_half : ((n x : ℕ) → n < 2 ^ d → chunk (2 ^ j) n (tower_mul (d + j) c x) ≡ tower_mul j c (chunk (2 ^ j) n x))
        → (i < 2 ^ d) ⊎ (2 ^ d ≤ i)
        → chunk (2 ^ j) i (pair (2 ^ j * 2 ^ d) (tower_mul (d + j) c (low_half (2 ^ j * 2 ^ d) a)) (tower_mul (d + j) c (high_half (2 ^ j * 2 ^ d) a)))
        ≡ tower_mul j c (chunk (2 ^ j) i a)
    by_half below (inl low) =
        chunk_of_low (2 ^ j) (2 ^ d) i _ _ low
        ∙ below i (low_half (2 ^ j * 2 ^ d) a) low
        ∙ ap (tower_mul j c) (chunk_in_low (2 ^ j) (2 ^ d) i a low)
    by_half below (inr high) =
        let place_is : i ≡ 2 ^ d + (i - 2 ^ d) = omega (arith, high) in
        let double : 2 ^ suc d ≡ 2 ^ d * 2 = pow-suc 2 d in
        let within : i - 2 ^ d < 2 ^ d = omega (arith, high, place, double) in
        ap (λ (k : ℕ). chunk (2 ^ j) k (pair (2 ^ j * 2 ^ d) (tower_mul (d + j) c (low_half (2 ^ j * 2 ^ d) a)) (tower_mul (d + j) c (high_half (2 ^ j * 2 ^ d) a)))) place_is
        ∙ chunk_of_high (2 ^ j) (2 ^ d) (i - 2 ^ d) _ _ (low_fits (low_half (2 ^ j * 2 ^ d) a))
        ∙ below (i - 2 ^ d) (high_half (2 ^ j * 2 ^ d) a) within
        ∙ ap (tower_mul j c) (chunk_in_high (2 ^ j) (2 ^ d) (i - 2 ^ d) a within)
        ∙ ap (λ (k : ℕ). tower_mul j c (chunk (2 ^ j) k a)) (sym place_is)

-- an element of level j multiplies each coefficient of one of level k
pub scales_coefficients : (k j count : ℕ) → count ≡ 2 ^ (k - j) → j ≤ k → (i c a : ℕ) → i < count → c < 2 ^ 2 ^ j
    → chunk (2 ^ j) i (tower_mul k c a) ≡ tower_mul j c (chunk (2 ^ j) i a)
scales_coefficients k j count is inside i c a place fits =
    let level : k ≡ k - j + j = omega (arith, inside) in
    ap (λ (l : ℕ). chunk (2 ^ j) i (tower_mul l c a)) level
    ∙ chunk-tower_above (k - j) j i c a (subst (λ (n : ℕ). i < n) is place) fits
