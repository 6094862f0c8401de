-- Carry isolation: the integer product of two words with holes, masked to its class, is their carryless product.
use Rattle.std.proofs.Common.{◌≡◌, ◌⊎◌, inl, inr, ℕ, zero, suc, ◌+◌, ◌*◌, ◌/◌, ◌%◌, ◌^◌, ◌≤◌, ◌<◌, List, [], ◌∷◌, sym, ◌∙◌, ap, ap₂, subst, arith, lit<, lit≤}
use Rattle.std.specs.Prelude.{bit_and}
use Rattle.std.specs.Int.{bit_at}
use Rattle.std.proofs.lemmas.Nat.{and_block, and_mod, and_le_r, pow_pos, pow-add, shr-shr, shr_le, mul-mod_first}
use Rattle.std.proofs.lemmas.Nat.Bits.{bit_at-suc, bit_at_lowest}
use native.Mathlib.Nat.{add-zero, mul_assoc, div-add-mod', mod-eq_of_lt, mul-mul-mul_comm, lt_of_le_of_lt, le_refl, le_dest}
use Rattle.std.proofs.lemmas.Bool.{cases_lt}
use lib.Arith.{mod-mul}
use Rattle.field_base.specs.Carryless.{carryless}
use Rattle.field_base.proofs.CarrylessProduct.{carryless_shl, shl_carryless}
use Rattle.word_carryless.specs.Masked.{IsInClass, HasPlaces, class_mask, CarryIsolation}
use Rattle.word_carryless.proofs.ClassMasks.{mask_lt, no_bit, class-fits, class-places}
use Rattle.word_carryless.proofs.Digits.{value, parity, product, AreBits, Stairs, ones, value-product, parity-product, parity-bits, stairs_product, stairs_shift, mask-value}

-- ---- classes by their bits

-- a shift to the right by the class itself leaves class 0
places-shr : (i x : ℕ) → i < 4 → HasPlaces i x → HasPlaces 0 (x / 2 ^ i)
places-shr i x small within place set =
    let known : (i + place) % 4 ≡ i = within (i + place) (ap (λ (y : ℕ). y % 2) (sym (shifted i place)) ∙ set) in
    omega arith
  where
    shifted : (j k : ℕ) → x / 2 ^ j / 2 ^ k ≡ x / 2 ^ (j + k)
    shifted j k = shr-shr x j k

-- where no bit below k is set, nothing is below 2 ^ k
low_zero : (k x : ℕ) → ((place : ℕ) → place < k → bit_at x place ≡ 0) → x % 2 ^ k ≡ 0
low_zero zero x none = omega arith
low_zero (suc k) x none =
    ap (λ (y : ℕ). x % y) (pow k) ∙ mod-mul x (pow_pos k) (lit< tt)
    ∙ ap₂ (λ (y z : ℕ). y * 2 + z)
    (low_zero k (x / 2) (λ place below. sym (bit_at-suc x place) ∙ none (suc place) (omega arith)))
    (sym (bit_at_lowest x) ∙ none 0 (omega arith))
  where
    pow : (n : ℕ) → 2 ^ suc n ≡ 2 ^ n * 2
    pow n = omega arith

-- a word of class i is one of class 0, shifted by i
places-shl : (i x : ℕ) → i < 4 → HasPlaces i x → x / 2 ^ i * 2 ^ i ≡ x
places-shl i x small within =
    sym (add-zero (x / 2 ^ i * 2 ^ i))
    ∙ ap (λ (y : ℕ). x / 2 ^ i * 2 ^ i + y)
    (sym (low_zero i x (λ place below. no_bit i x place within (omega arith))))
    ∙ div-add-mod' x (2 ^ i)

-- ---- class 0 as a list of digits

-- the n low digits of x, of each its lowest bit
abbrev digits_of : ℕ → ℕ → List ℕ
digits_of zero x = []
digits_of (suc n) x = x % 2 ∷ digits_of n (x / 16)

-- every digit that is taken of a word is a bit
digits_of-bits : (n x : ℕ) → AreBits (digits_of n x)
digits_of-bits zero x = tt
digits_of-bits (suc n) x = (omega arith, digits_of-bits n (x / 16))

-- the lowest digit of class 0 is a bit
lowest_digit : (x : ℕ) → HasPlaces 0 x → x % 16 ≡ x % 2
lowest_digit x within =
    let one : x / 2 % 2 ≡ 0 = no_bit 0 x 1 within (omega arith) in
    let two : x / 4 % 2 ≡ 0 = no_bit 0 x 2 within (omega arith) in
    let three : x / 8 % 2 ≡ 0 = no_bit 0 x 3 within (omega arith) in
    omega arith

-- without its lowest digit, a word with bits at places 0 modulo 4 alone is such a word again
next_digits : (x : ℕ) → HasPlaces 0 x → HasPlaces 0 (x / 16)
next_digits x within place set =
    let known : (4 + place) % 4 ≡ 0 = within (4 + place) (ap (λ (y : ℕ). y % 2) (sym (shr-shr x 4 place)) ∙ set) in
    omega arith

-- the number of its n digits is the word, if the word has bits at places 0 modulo 4 alone and fits into n digits
value-digits_of : (n x : ℕ) → HasPlaces 0 x → x < 2 ^ (4 * n) → value (digits_of n x) ≡ x
value-digits_of zero x within fits = omega arith
value-digits_of (suc n) x within fits =
    let rest : value (digits_of n (x / 16)) ≡ x / 16 = value-digits_of n (x / 16) (next_digits x within) (fewer n fits) in
    let low : x % 16 ≡ x % 2 = lowest_digit x within in
    omega arith
  where
    pow : (m : ℕ) → 2 ^ (4 * suc m) ≡ 2 ^ (4 * m) * 16
    pow m = ap (λ (y : ℕ). 2 ^ y) (omega arith) ∙ pow-add 2 (4 * m) 4

    fewer : (m : ℕ) → x < 2 ^ (4 * suc m) → x / 16 < 2 ^ (4 * m)
    fewer m below = let known : x < 2 ^ (4 * m) * 16 = subst (λ (y : ℕ). x < y) (pow m) below in omega arith

-- ---- the product of class 0

-- the mask of class 0 keeps of a product with no carry into it the parities, shifted by a whole number of digits
masked_list : (ds : List ℕ) → Stairs 1 ds → bit_and (value ds) (ones 16) ≡ parity ds % 2 ^ 64
masked_list ds stairs = mask-value 16 1 ds stairs (lit≤ tt)

-- masked to class 0, the product of two numbers whose digits are bits is the low half of their carryless product
masked_digits : (ds es : List ℕ) → AreBits ds → AreBits es
    → bit_and (value ds * value es) (ones 16) ≡ carryless (value ds) (value es) % 2 ^ 64
masked_digits ds es left right =
    ap (λ (x : ℕ). bit_and x (ones 16)) (sym (value-product ds es))
    ∙ masked_list (product ds es) (stairs_product ds es left right)
    ∙ ap (λ (x : ℕ). x % 2 ^ 64) (parity-product ds es left ∙ ap (carryless (value ds)) (parity-bits es right))

-- and so it is after a shift of both by one digit, where the mask still keeps every parity
masked_digits-shifted : (ds es : List ℕ) → AreBits ds → AreBits es
    → bit_and (value ds * value es * 16) (ones 16) ≡ carryless (value ds) (value es) * 16 % 2 ^ 64
masked_digits-shifted ds es left right =
    ap (λ (x : ℕ). bit_and x (ones 16)) (ap (λ (x : ℕ). x * 16) (sym (value-product ds es)) ∙ sym (add-zero _))
    ∙ masked_list (0 ∷ product ds es) (stairs_shift (product ds es) (stairs_product ds es left right))
    ∙ ap (λ (x : ℕ). x % 2 ^ 64)
    (add-zero (parity (product ds es) * 16)
    ∙ ap (λ (x : ℕ). x * 16) (parity-product ds es left ∙ ap (carryless (value ds)) (parity-bits es right)))

-- the integer product of two words of class 0, masked to class 0, is the low half of their carryless product
class_zero : (x y : ℕ) → HasPlaces 0 x → HasPlaces 0 y → x < 2 ^ 64 → y < 2 ^ 64
    → bit_and (x * y) (ones 16) ≡ carryless x y % 2 ^ 64
class_zero x y left right left_fits right_fits =
    subst (λ (v : ℕ). bit_and (v * y) (ones 16) ≡ carryless v y % 2 ^ 64) (value-digits_of 16 x left left_fits)
    (subst (λ (w : ℕ). bit_and (value (digits_of 16 x) * w) (ones 16) ≡ carryless (value (digits_of 16 x)) w % 2 ^ 64)
    (value-digits_of 16 y right right_fits)
    (masked_digits (digits_of 16 x) (digits_of 16 y) (digits_of-bits 16 x) (digits_of-bits 16 y)))

-- and after a shift of both by one digit
class_zero-shifted : (x y : ℕ) → HasPlaces 0 x → HasPlaces 0 y → x < 2 ^ 64 → y < 2 ^ 64
    → bit_and (x * y * 16) (ones 16) ≡ carryless x y * 16 % 2 ^ 64
class_zero-shifted x y left right left_fits right_fits =
    subst (λ (v : ℕ). bit_and (v * y * 16) (ones 16) ≡ carryless v y * 16 % 2 ^ 64) (value-digits_of 16 x left left_fits)
    (subst
    (λ (w : ℕ). bit_and (value (digits_of 16 x) * w * 16) (ones 16) ≡ carryless (value (digits_of 16 x)) w * 16 % 2 ^ 64)
    (value-digits_of 16 y right right_fits)
    (masked_digits-shifted (digits_of 16 x) (digits_of 16 y) (digits_of-bits 16 x) (digits_of-bits 16 y)))

-- ---- every class

-- a mask that fits the word reads the word alone
mask-mod : (p m : ℕ) → m < 2 ^ 64 → bit_and (p % 2 ^ 64) m ≡ bit_and p m
mask-mod p m fits =
    ap (bit_and (p % 2 ^ 64)) (sym (mod-eq_of_lt fits)) ∙ sym (and_mod p m 64)
    ∙ mod-eq_of_lt (lt_of_le_of_lt (and_le_r p m) fits)

-- shifting a word and its mask by k places shifts what the mask keeps
mask_shl : (k v m : ℕ) → bit_and (v * 2 ^ k) (m * 2 ^ k) ≡ bit_and v m * 2 ^ k
mask_shl k v m =
    ap₂ bit_and (sym (add-zero (v * 2 ^ k))) (sym (add-zero (m * 2 ^ k)))
    ∙ and_block k v m 0 0 (pow_pos k) (pow_pos k) ∙ add-zero (bit_and v m * 2 ^ k)

-- a masked product of class 0 moves up to class k
class_up : (k v z : ℕ) → k < 4 → bit_and v (ones 16) ≡ z % 2 ^ 64
    → bit_and (v * 2 ^ k % 2 ^ 64) (class_mask k) ≡ z * 2 ^ k % 2 ^ 64
class_up k v z small known =
    mask-mod (v * 2 ^ k) (class_mask k) (mask_lt k (ones 16) small (le_refl (ones 16)))
    ∙ mask_shl k v (ones 16) ∙ ap (λ (x : ℕ). x * 2 ^ k) known
    ∙ sym (mod-eq_of_lt (mask_lt k (z % 2 ^ 64) small (subst (λ (x : ℕ). x ≤ ones 16) known (and_le_r v (ones 16)))))
    ∙ mul-mod_first z (2 ^ k) (2 ^ 64)

-- products of shifted words
shifted_product : (i j x y : ℕ) → x * 2 ^ i * (y * 2 ^ j) ≡ x * y * 2 ^ (i + j)
shifted_product i j x y =
    mul-mul-mul_comm x (2 ^ i) y (2 ^ j) ∙ ap (λ (z : ℕ). x * y * z) (sym (pow-add 2 i j))

-- a shift of the left operand by i and of the right one by j shifts the product by i + j
shifted_carryless : (i j x y : ℕ) → carryless (x * 2 ^ i) (y * 2 ^ j) ≡ carryless x y * 2 ^ (i + j)
shifted_carryless i j x y =
    carryless_shl j (x * 2 ^ i) y ∙ ap (λ (z : ℕ). z * 2 ^ j) (shl_carryless i x y) ∙ mul_assoc (carryless x y) (2 ^ i) (2 ^ j)
    ∙ ap (λ (z : ℕ). carryless x y * z) (sym (pow-add 2 i j))

-- a shift by 4 + k places is one digit and k places
past_digit : (p k : ℕ) → p * 2 ^ (4 + k) ≡ p * 16 * 2 ^ k
past_digit p k = ap (λ (z : ℕ). p * z) (pow-add 2 4 k) ∙ sym (mul_assoc p 16 (2 ^ k))

-- two words of class 0, shifted by i and j
isolated : (i j x y : ℕ) → i < 4 → j < 4 → HasPlaces 0 x → HasPlaces 0 y → x < 2 ^ 64 → y < 2 ^ 64
    → (i + j < 4) ⊎ (4 ≤ i + j)
    → bit_and (x * y * 2 ^ (i + j) % 2 ^ 64) (class_mask ((i + j) % 4)) ≡ carryless x y * 2 ^ (i + j) % 2 ^ 64
isolated i j x y i_small j_small left right left_fits right_fits (inl low) =
    ap (λ (k : ℕ). bit_and (x * y * 2 ^ (i + j) % 2 ^ 64) (class_mask k)) (mod-eq_of_lt low)
    ∙ class_up (i + j) (x * y) (carryless x y) low (class_zero x y left right left_fits right_fits)
isolated i j x y i_small j_small left right left_fits right_fits (inr high) = past (le_dest high)
  where
    past : (k : ℕ) × (4 + k ≡ i + j)
        → bit_and (x * y * 2 ^ (i + j) % 2 ^ 64) (class_mask ((i + j) % 4)) ≡ carryless x y * 2 ^ (i + j) % 2 ^ 64
    past (k, e) =
        ap₂ (λ (p m : ℕ). bit_and (x * y * 2 ^ p % 2 ^ 64) (class_mask m)) (sym e) (omega arith)
        ∙ ap (λ (p : ℕ). bit_and (p % 2 ^ 64) (class_mask k)) (past_digit (x * y) k)
        ∙ class_up k (x * y * 16) (carryless x y * 16) (omega arith)
        (class_zero-shifted x y left right left_fits right_fits)
        ∙ ap (λ (p : ℕ). p % 2 ^ 64) (sym (past_digit (carryless x y) k))
        ∙ ap (λ (p : ℕ). carryless x y * 2 ^ p % 2 ^ 64) e

-- masked to the class of the product, the integer product of a word of class i and one of class j is the low half of their
-- carryless product
places_isolated : (i j x y : ℕ) → i < 4 → j < 4 → x < 2 ^ 64 → y < 2 ^ 64 → HasPlaces i x → HasPlaces j y
    → bit_and (x * y % 2 ^ 64) (class_mask ((i + j) % 4)) ≡ carryless x y % 2 ^ 64
places_isolated i j x y i_small j_small x_fits y_fits x_class y_class =
    ap (λ (p : ℕ). bit_and (p % 2 ^ 64) (class_mask ((i + j) % 4)))
    (sym (ap₂ (λ (p q : ℕ). p * q) (places-shl i x i_small x_class) (places-shl j y j_small y_class))
    ∙ shifted_product i j (x / 2 ^ i) (y / 2 ^ j))
    ∙ isolated i j (x / 2 ^ i) (y / 2 ^ j) i_small j_small (places-shr i x i_small x_class)
    (places-shr j y j_small y_class) (lt_of_le_of_lt (shr_le x i) x_fits) (lt_of_le_of_lt (shr_le y j) y_fits)
    (cases_lt (i + j) 4)
    ∙ ap (λ (p : ℕ). p % 2 ^ 64)
    (sym (shifted_carryless i j (x / 2 ^ i) (y / 2 ^ j))
    ∙ ap₂ carryless (places-shl i x i_small x_class) (places-shl j y j_small y_class))

-- carry isolation, for words of any two classes
pub carry_isolation : CarryIsolation
carry_isolation i j x y i_small j_small x_class y_class =
    places_isolated i j x y i_small j_small (class-fits i x i_small x_class) (class-fits j y j_small y_class)
    (class-places i x i_small x_class) (class-places j y j_small y_class)

-- the bits of a class, as the code takes them: with the mask shifted in a word
pub kept_bits : (i x : ℕ) → i < 4 → bit_and x (0x1111_1111_1111_1111 * 2 ^ i % 2 ^ 64) ≡ bit_and x (class_mask i)
kept_bits i x i_small = ap (bit_and x) (mod-eq_of_lt (mask_lt i (ones 16) i_small (le_refl (ones 16))))

-- the product, as the code computes it
pub masked_carryless : (i j x y : ℕ) → i < 4 → j < 4 → IsInClass i x → IsInClass j y
    → bit_and (x * y % 2 ^ 64) (0x1111_1111_1111_1111 * 2 ^ ((i + j) % 4) % 2 ^ 64) ≡ carryless x y % 2 ^ 64
masked_carryless i j x y i_small j_small x_class y_class =
    kept_bits ((i + j) % 4) (x * y % 2 ^ 64) (omega arith) ∙ carry_isolation i j x y i_small j_small x_class y_class
