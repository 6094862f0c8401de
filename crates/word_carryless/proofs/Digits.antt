-- Numbers in base 16 by lists of digits, lowest first, that may pass 15: the product of two lists, its parities, and the
-- bound by which no carry reaches the lowest bit of a digit.
use Rattle.std.proofs.Common.{◌≡◌, ℕ, zero, suc, ◌+◌, ◌*◌, ◌%◌, ◌^◌, ◌≤◌, ◌<◌, List, [], ◌∷◌, refl, sym, ◌∙◌, ap, ap₂, subst, arith, lit<, lit≤}
use Rattle.std.specs.Prelude.{bit_xor, bit_and}
use Rattle.std.proofs.lemmas.Nat.{and_mask, and_block, pow_pos, pow-add, xor_comm, xor_block}
use native.Mathlib.Nat.{zero-mul, one-mul, mul-zero, add-zero, zero-add, zero-mod, mod-one, add-mod, mod-mod, mod-lt, lt_of_lt_of_le}
use lib.Arith.{mod-mul}
use lib.Bits.{and_zero_r, xor_shifted, xor_zero_r}
use Rattle.field_base.specs.Carryless.{carryless}
use Rattle.field_base.proofs.CarrylessProduct.{bit_cases, zero_carryless, sum_carryless, bit_carryless, shl_carryless}

-- ---- lists of digits

-- the number
abbrev pub value : List ℕ → ℕ
value [] = 0
value (d ∷ ds) = value ds * 16 + d

-- the parities of the digits, as a number with a bit in each place of base 16
abbrev pub parity : List ℕ → ℕ
parity [] = 0
parity (d ∷ ds) = parity ds * 16 + d % 2

-- the sum of two lists of digits, digit by digit and without carries
abbrev pub plus : List ℕ → List ℕ → List ℕ
plus [] es = es
plus (d ∷ ds) [] = d ∷ ds
plus (d ∷ ds) (e ∷ es) = (d + e) ∷ plus ds es

-- the digits times a bit
abbrev pub scaled : ℕ → List ℕ → List ℕ
scaled b [] = []
scaled b (d ∷ ds) = b * d ∷ scaled b ds

-- the product of two lists of digits: row d of the school method is the digits of es times d, shifted
abbrev pub product : List ℕ → List ℕ → List ℕ
product [] es = []
product (d ∷ ds) es = plus (scaled d es) (0 ∷ product ds es)

-- every digit is a bit
abbrev pub AreBits : List ℕ → Type 0
AreBits [] = Unit {0}
AreBits (d ∷ ds) = (d % 2 ≡ d) × AreBits ds

-- digit n is at most n + k
abbrev pub Stairs : ℕ → List ℕ → Type 0
Stairs k [] = Unit {0}
Stairs k (d ∷ ds) = (d ≤ k) × Stairs (suc k) ds

-- ---- the number of a product

-- the number of a sum is the sum of the numbers
value-plus : (ds es : List ℕ) → value (plus ds es) ≡ value ds + value es
value-plus [] es = sym (zero-add (value es))
value-plus (d ∷ ds) [] = sym (add-zero (value (d ∷ ds)))
value-plus (d ∷ ds) (e ∷ es) =
    let rest : value (plus ds es) ≡ value ds + value es = value-plus ds es in omega arith

-- the number of the digits times b is b times the number
value-scaled : (b : ℕ) (ds : List ℕ) → value (scaled b ds) ≡ b * value ds
value-scaled b [] = sym (mul-zero b)
value-scaled b (d ∷ ds) = let rest : value (scaled b ds) ≡ b * value ds = value-scaled b ds in omega arith

-- the number of a product is the product of the numbers
pub value-product : (ds es : List ℕ) → value (product ds es) ≡ value ds * value es
value-product [] es = sym (zero-mul (value es))
value-product (d ∷ ds) es =
    let rest : value (product ds es) ≡ value ds * value es = value-product ds es in
    let first : value (scaled d es) ≡ d * value es = value-scaled d es in
    let sum : value (plus (scaled d es) (0 ∷ product ds es)) ≡ value (scaled d es) + (value (product ds es) * 16 + 0) =
    value-plus (scaled d es) (0 ∷ product ds es) in
    omega arith

-- ---- the parities of a product

-- the parity of a sum of two digits is the sum of their parities
parity_sum : (d e : ℕ) → (d + e) % 2 ≡ bit_xor (d % 2) (e % 2)
parity_sum d e =
    add-mod d e 2
    ∙ bit_cases (λ x. (x + e % 2) % 2 ≡ bit_xor x (e % 2))
    (ap (λ (x : ℕ). x % 2) (zero-add (e % 2)) ∙ mod-mod e 2)
    (bit_cases (λ y. (1 + y) % 2 ≡ bit_xor 1 y) refl refl e) d

-- a parity is a digit to base 16
parity_lt : (d : ℕ) → d % 2 < 2 ^ 4
parity_lt d = lt_of_lt_of_le (mod-lt d (lit< tt)) (lit≤ tt)

-- the parities of a sum are the sum of the parities
parity-plus : (ds es : List ℕ) → parity (plus ds es) ≡ bit_xor (parity ds) (parity es)
parity-plus [] es = refl
parity-plus (d ∷ ds) [] = sym (xor_zero_r (parity (d ∷ ds)))
parity-plus (d ∷ ds) (e ∷ es) =
    ap₂ (λ (x y : ℕ). x * 16 + y) (parity-plus ds es) (parity_sum d e)
    ∙ sym (xor_block 4 (parity ds) (parity es) (d % 2) (e % 2) (parity_lt d) (parity_lt e))

-- digits times 0 have parities 0
parity-none : (es : List ℕ) → parity (scaled 0 es) ≡ 0
parity-none [] = refl
parity-none (e ∷ es) =
    ap₂ (λ (x y : ℕ). x * 16 + y) (parity-none es) (ap (λ (x : ℕ). x % 2) (zero-mul e))

-- digits times 1 keep their parities
parity-once : (es : List ℕ) → parity (scaled 1 es) ≡ parity es
parity-once [] = refl
parity-once (e ∷ es) = ap₂ (λ (x y : ℕ). x * 16 + y % 2) (parity-once es) (one-mul e)

-- digits times a bit have the parities times this bit
parity-scaled : (d : ℕ) (es : List ℕ) → parity (scaled (d % 2) es) ≡ d % 2 * parity es
parity-scaled d es =
    bit_cases (λ x. parity (scaled x es) ≡ x * parity es) (parity-none es ∙ sym (zero-mul (parity es)))
    (parity-once es ∙ sym (one-mul (parity es))) d

-- a digit before the others, as a sum
digit_first : (v d : ℕ) → v * 16 + d % 2 ≡ bit_xor (v * 16) (d % 2)
digit_first v d = sym (xor_shifted v 4 (d % 2) (parity_lt d))

-- the parities of a product by bits are the carryless product
pub parity-product : (ds es : List ℕ) → AreBits ds → parity (product ds es) ≡ carryless (value ds) (parity es)
parity-product [] es bits = sym (zero_carryless (parity es))
parity-product (d ∷ ds) es bits =
    parity-plus (scaled d es) (0 ∷ product ds es)
    ∙ ap₂ bit_xor
    (ap (λ (x : ℕ). parity (scaled x es)) (sym bits.0) ∙ parity-scaled d es ∙ sym (bit_carryless d (parity es)))
    (add-zero (parity (product ds es) * 16)
    ∙ ap (λ (x : ℕ). x * 16) (parity-product ds es bits.1) ∙ sym (shl_carryless 4 (value ds) (parity es)))
    ∙ xor_comm (carryless (d % 2) (parity es)) (carryless (value ds * 16) (parity es))
    ∙ sym (sum_carryless (value ds * 16) (d % 2) (parity es))
    ∙ ap (λ (x : ℕ). carryless x (parity es)) (sym (digit_first (value ds) d) ∙ ap (λ (x : ℕ). value ds * 16 + x) bits.0)

-- digits that are bits are their own parities
pub parity-bits : (ds : List ℕ) → AreBits ds → parity ds ≡ value ds
parity-bits [] bits = refl
parity-bits (d ∷ ds) bits = ap₂ (λ (x y : ℕ). x * 16 + y) (parity-bits ds bits.1) bits.0

-- ---- the bound

-- every digit is at most 1
abbrev AreFlat : List ℕ → Type 0
AreFlat [] = Unit {0}
AreFlat (d ∷ ds) = (d ≤ 1) × AreFlat ds

-- the product of two bits is at most 1
bit_product_le : (d e : ℕ) → d % 2 * (e % 2) ≤ 1
bit_product_le d e =
    bit_cases (λ x. x * (e % 2) ≤ 1) (rw zero-mul (lit≤ tt))
    (rw one-mul (bit_cases (λ y. y ≤ 1) (lit≤ tt) (lit≤ tt) e)) d

-- bits times a bit are at most 1
flat_scaled : (d : ℕ) (es : List ℕ) → d % 2 ≡ d → AreBits es → AreFlat (scaled d es)
flat_scaled d [] bit bits = tt
flat_scaled d (e ∷ es) bit bits =
    (subst (λ (x : ℕ). x ≤ 1) (ap₂ (λ (x y : ℕ). x * y) bit bits.0) (bit_product_le d e), flat_scaled d es bit bits.1)

-- a bound n + k on digit n may be raised to n + k + 1
stairs_higher : (k : ℕ) (ds : List ℕ) → Stairs k ds → Stairs (suc k) ds
stairs_higher k [] stairs = tt
stairs_higher k (d ∷ ds) stairs = (omega arith, stairs_higher (suc k) ds stairs.1)

-- digits of at most 1 meet every bound n + k + 1
flat_stairs : (k : ℕ) (ds : List ℕ) → AreFlat ds → Stairs (suc k) ds
flat_stairs k [] flat = tt
flat_stairs k (d ∷ ds) flat = (omega arith, flat_stairs (suc k) ds flat.1)

-- adding digits of at most 1 raises the bound on each digit by 1
stairs_plus : (k : ℕ) (ds es : List ℕ) → AreFlat ds → Stairs k es → Stairs (suc k) (plus ds es)
stairs_plus k [] es flat stairs = stairs_higher k es stairs
stairs_plus k (d ∷ ds) [] flat stairs = flat_stairs k (d ∷ ds) flat
stairs_plus k (d ∷ ds) (e ∷ es) flat stairs = (omega arith, stairs_plus (suc k) ds es flat.1 stairs.1)

-- digit n of a product of two lists of bits is at most n + 1
pub stairs_product : (ds es : List ℕ) → AreBits ds → AreBits es → Stairs 1 (product ds es)
stairs_product [] es bits bits' = tt
stairs_product (d ∷ ds) es bits bits' =
    stairs_plus 0 (scaled d es) (0 ∷ product ds es) (flat_scaled d es bits.0 bits')
    (lit≤ tt, stairs_product ds es bits.1 bits')

-- a digit 0 in front is a shift by four places
pub stairs_shift : (ds : List ℕ) → Stairs 1 ds → Stairs 1 (0 ∷ ds)
stairs_shift ds stairs = (lit≤ tt, stairs_higher 1 ds stairs)

-- ---- the mask

-- the number with the lowest bit of each of n digits set
abbrev pub ones : ℕ → ℕ
ones zero = 0
ones (suc n) = ones n * 16 + 1

-- the mask 1 keeps the parity of the lowest digit
lowest : (v d : ℕ) → bit_and (v * 16 + d) 1 ≡ d % 2
lowest v d = and_mask (v * 16 + d) 1 ∙ omega arith

-- the lowest bits of n digits, of which no carry leaves but the last, are their parities
pub mask-value : (n k : ℕ) (ds : List ℕ) → Stairs k ds → k + n ≤ 17
    → bit_and (value ds) (ones n) ≡ parity ds % 2 ^ (4 * n)
mask-value zero k ds stairs small = and_zero_r (value ds) ∙ sym (mod-one (parity ds))
mask-value (suc n) k [] stairs small = sym (zero-mod (2 ^ (4 * suc n)))
mask-value (suc zero) k (d ∷ ds) stairs small = lowest (value ds) d ∙ omega arith
mask-value (suc (suc n)) k (d ∷ ds) stairs small =
    and_block 4 (value ds) (ones (suc n)) d 1 (omega arith) (lit< tt)
    ∙ ap₂ (λ (x y : ℕ). x * 16 + y) (mask-value (suc n) (suc k) ds stairs.1 (omega arith)) (and_mask d 1)
    ∙ sym (low_digits (parity ds) d (suc n))
  where
    shift : (m : ℕ) → 2 ^ (4 * suc m) ≡ 2 ^ (4 * m) * 16
    shift m = ap (λ (x : ℕ). 2 ^ x) (omega arith) ∙ pow-add 2 (4 * m) 4

    low_digits : (p e m : ℕ) → (p * 16 + e % 2) % 2 ^ (4 * suc m) ≡ p % 2 ^ (4 * m) * 16 + e % 2
    low_digits p e m =
        ap (λ (x : ℕ). (p * 16 + e % 2) % x) (shift m)
        ∙ mod-mul (p * 16 + e % 2) (pow_pos (4 * m)) (lit< tt)
        ∙ ap₂ (λ (x y : ℕ). x % 2 ^ (4 * m) * 16 + y) (omega arith) (omega arith)
