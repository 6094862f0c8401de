-- The masks of the four classes: which places they have, and that a word keeps its class under them.
use Rattle.std.proofs.Common.{◌≡◌, ◌≢◌, ◌⊎◌, inl, inr, ℕ, zero, suc, ◌+◌, ◌-◌, ◌*◌, ◌%◌, ◌^◌, ◌≤◌, ◌<◌, refl, sym, ◌∙◌, ap, subst, arith, lit<, lit≤}
use Rattle.std.specs.Prelude.{bit_and, min}
use Rattle.std.specs.Int.{bit_at}
use Rattle.std.proofs.lemmas.Nat.{and_le_r, and_assoc, pow_pos}
use Rattle.std.proofs.lemmas.Nat.Bits.{bit_at_and, bit_at-lt, bit_at-zero, bit_at_cat_low, bit_at_cat_high, same_from_bits_below}
use Rattle.std.proofs.lemmas.Bool.{cases_lt}
use native.Mathlib.Nat.{add-zero, lt_of_le_of_lt, le_refl, mul-le-mul}
use lib.Bits.{and_self}
use Rattle.word_carryless.specs.Masked.{IsInClass, HasPlaces, class_mask, ClassIsPlaces}
use Rattle.word_carryless.proofs.Digits.{ones}

-- ---- bounds

-- 2^k is at most 8 for k below 4
power_le : (k : ℕ) → k < 4 → 2 ^ k ≤ 8
power_le zero small = lit≤ tt
power_le (suc zero) small = lit≤ tt
power_le (suc (suc zero)) small = lit≤ tt
power_le (suc (suc (suc zero))) small = lit≤ tt
power_le (suc (suc (suc (suc k)))) small = absurd (omega arith)

-- a number of at most the mask of class 0, shifted by fewer than four places, is a word
pub mask_lt : (k a : ℕ) → k < 4 → a ≤ ones 16 → a * 2 ^ k < 2 ^ 64
mask_lt k a small le = lt_of_le_of_lt (mul-le-mul le (power_le k small)) (lit< tt)

-- ---- a class by its places

-- a place of another class has no bit
pub no_bit : (i x place : ℕ) → HasPlaces i x → place % 4 ≢ i → bit_at x place ≡ 0
no_bit i x place within other = cases (bit_at x place) (bit_at-lt x place) (within place)
  where
    cases : (b : ℕ) → b < 2 → (b ≡ 1 → place % 4 ≡ i) → b ≡ 0
    cases zero fits set = refl
    cases (suc zero) fits set = absurd (other (set refl))
    cases (suc (suc b)) fits set = absurd (omega arith)

-- ---- the places of the masks

-- a bit is not both 0 and 1
clash : (b : ℕ) → b ≡ 0 → b ≡ 1 → ⊥
clash b none one = omega arith

-- a digit with its lowest bit set, below a mask of class 0
ones_next : (v : ℕ) → HasPlaces 0 v → HasPlaces 0 (v * 16 + 1)
ones_next v within place set = cases place (cases_lt place 4) set
  where
    low : (p : ℕ) → bit_at 1 p ≡ 1 → p < 4 → p % 4 ≡ 0
    low zero one small = refl
    low (suc zero) one small = absurd (omega arith)
    low (suc (suc zero)) one small = absurd (omega arith)
    low (suc (suc (suc zero))) one small = absurd (omega arith)
    low (suc (suc (suc (suc p)))) one small = absurd (omega arith)

    cases : (p : ℕ) → (p < 4) ⊎ (4 ≤ p) → bit_at (v * 16 + 1) p ≡ 1 → p % 4 ≡ 0
    cases p (inl small) one = low p (sym (bit_at_cat_low v 4 1 p small) ∙ one) small
    cases p (inr large) one =
        let known : (p - 4) % 4 ≡ 0 = within (p - 4) (sym (bit_at_cat_high v 4 1 p (lit< tt) large) ∙ one) in
        omega arith

-- the mask of class 0
ones-places : (n : ℕ) → HasPlaces 0 (ones n)
ones-places zero place set = absurd (clash (bit_at 0 place) (bit_at-zero place) set)
ones-places (suc n) place set = ones_next (ones n) (ones-places n) place set

-- a shift of class 0 by i is class i
places-shl : (i x : ℕ) → i < 4 → HasPlaces 0 x → HasPlaces i (x * 2 ^ i)
places-shl i x small within place set = cases (cases_lt place i) (ap (λ (y : ℕ). bit_at y place) (add-zero (x * 2 ^ i)) ∙ set)
  where
    cases : (place < i) ⊎ (i ≤ place) → bit_at (x * 2 ^ i + 0) place ≡ 1 → place % 4 ≡ i
    cases (inl below) one =
        absurd (clash (bit_at 0 place) (bit_at-zero place) (sym (bit_at_cat_low x i 0 place below) ∙ one))
    cases (inr above) one =
        let known : (place - i) % 4 ≡ 0 =
        within (place - i) (sym (bit_at_cat_high x i 0 place (pow_pos i) above) ∙ one) in
        omega arith

-- a masked word has the mask's places
pub mask-places : (i x : ℕ) → i < 4 → HasPlaces i (bit_and x (class_mask i))
mask-places i x small place set =
    places-shl i (ones 16) small (ones-places 16) place
    (both (bit_at x place) (bit_at (class_mask i) place) (bit_at-lt (class_mask i) place)
    (sym (bit_at_and x (class_mask i) place) ∙ set))
  where
    both : (a b : ℕ) → b < 2 → min a b ≡ 1 → b ≡ 1
    both a b fits one = omega arith

-- a word under the mask of a class fits into 64 bits
pub mask_fits : (i x : ℕ) → i < 4 → bit_and x (class_mask i) < 2 ^ 64
mask_fits i x small = lt_of_le_of_lt (and_le_r x (class_mask i)) (mask_lt i (ones 16) small (le_refl (ones 16)))

-- ---- the class of a word

-- a number of a class fits into 64 bits
pub class-fits : (i x : ℕ) → i < 4 → IsInClass i x → x < 2 ^ 64
class-fits i x small within = subst (λ (y : ℕ). y < 2 ^ 64) within (mask_fits i x small)

-- a number of class i has bits at places that are i modulo 4 alone
pub class-places : (i x : ℕ) → i < 4 → IsInClass i x → HasPlaces i x
class-places i x small within = subst (λ (y : ℕ). HasPlaces i y) within (mask-places i x small)

-- to mask again keeps a masked word
pub class-mask : (i x : ℕ) → IsInClass i (bit_and x (class_mask i))
class-mask i x = and_assoc (class_mask i) x (class_mask i) ∙ ap (bit_and x) (and_self (class_mask i))

-- a mask has every place of its class
ones_full : (n place : ℕ) → place < 4 * n → place % 4 ≡ 0 → bit_at (ones n) place ≡ 1
ones_full zero place below within = absurd (omega arith)
ones_full (suc n) place below within = cases place (cases_lt place 4) within (λ above. ones_full n (place - 4) (omega arith) (omega arith))
  where
    cases : (p : ℕ) → (p < 4) ⊎ (4 ≤ p) → p % 4 ≡ 0 → (4 ≤ p → bit_at (ones n) (p - 4) ≡ 1) → bit_at (ones n * 16 + 1) p ≡ 1
    cases zero side of_class later = bit_at_cat_low (ones n) 4 1 0 (lit< tt)
    cases (suc p) (inl small) of_class later = absurd (omega arith)
    cases (suc p) (inr large) of_class later =
        bit_at_cat_high (ones n) 4 1 (suc p) (lit< tt) large ∙ later large

-- the mask of class i has a bit at every place below 64 that is i modulo 4
mask_full : (i place : ℕ) → i < 4 → place < 64 → place % 4 ≡ i → bit_at (class_mask i) place ≡ 1
mask_full i place small below within =
    ap (λ (x : ℕ). bit_at x place) (sym (add-zero (class_mask i)))
    ∙ bit_at_cat_high (ones 16) i 0 place (pow_pos i) (omega arith)
    ∙ ones_full 16 (place - i) (omega arith) (omega arith)

-- a word with bits at places that are i modulo 4 alone is of class i
places-class : (i x : ℕ) → i < 4 → x < 2 ^ 64 → HasPlaces i x → IsInClass i x
places-class i x small fits places =
    same_from_bits_below 64 (bit_and x (class_mask i)) x (mask_fits i x small) fits
    (λ place below. bit_at_and x (class_mask i) place
    ∙ kept (bit_at x place) (bit_at (class_mask i) place) (bit_at-lt x place)
    (λ set. mask_full i place small below (places place set)))
  where
    kept : (a b : ℕ) → a < 2 → (a ≡ 1 → b ≡ 1) → min a b ≡ a
    kept zero b bit full = omega arith
    kept (suc zero) b bit full = let set : b ≡ 1 = full refl in omega arith
    kept (suc (suc a)) b bit full = absurd (omega arith)

-- the words of a class are those whose set bits are at the places of the class
pub class_is_places : ClassIsPlaces
class_is_places i x small fits = (class-places i x small, places-class i x small fits)
