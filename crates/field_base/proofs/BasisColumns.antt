-- A linear map of numbers by its columns, and the columns of a change of basis.
use Rattle.std.proofs.Common.{◌≡◌, ℕ, zero, suc, ◌+◌, ◌*◌, ◌/◌, ◌%◌, ◌^◌, ◌<◌, List, [], ◌∷◌, ◌++◌, length, map, length-append, refl, sym, ◌∙◌, ap, ap₂, arith, lit<}
use Rattle.std.specs.Prelude.{bit_xor}
use Rattle.std.proofs.lemmas.List.{length-map}
use Rattle.std.proofs.lemmas.Nat.{xor_mod, xor_shr, shr-shr, field_of}
use Rattle.std.proofs.lemmas.Nat.Bits.{bit_at_lowest}
use native.Mathlib.Nat.{mod-lt, zero-mul, one-mul, mul-one}
use lib.Bits.{xor_assoc, xor_self, xor_zero_r}
use Rattle.field_base.specs.lemmas.BitRing.{two_cases}
use Rattle.field_base.specs.Ring.{IsRing}
use Rattle.field_base.proofs.AdditiveMaps.{KeepsSums, keeps_zero}
use Rattle.field_base.proofs.BasisSums.{bit_at-mod}
use Rattle.field_base.proofs.BasisMaps.{image_at, image_at-suc, image_at-zero}
use Rattle.field_base.proofs.TowerRing.{bits_double}
use Rattle.field_base.proofs.RingLemmas.{xor_left_comm, sum_times, zero-times}

-- ---- linear maps

-- the sum of the columns at the set bits of x, the lowest bit first
unfoldable pub sum_of_columns : List ℕ → ℕ → ℕ
sum_of_columns [] x = 0
sum_of_columns (column ∷ columns) x = bit_xor (x % 2 * column) (sum_of_columns columns (x / 2))

-- a multiple by a sum of bits is the sum of the multiples
bit_of_sum : (a b column : ℕ) → bit_xor a b % 2 * column ≡ bit_xor (a % 2 * column) (b % 2 * column)
bit_of_sum a b column =
    ap (λ (d : ℕ). d * column) (xor_mod a b 1)
    ∙ two_cases (λ d. bit_xor d (b % 2) * column ≡ bit_xor (d * column) (b % 2 * column))
    (simp zero-mul)
    (two_cases (λ e. bit_xor 1 e * column ≡ bit_xor (1 * column) (e * column)) (simp (zero-mul, xor_zero_r))
    (simp (zero-mul, one-mul, xor_self)) (b % 2) (mod-lt b (lit< tt)))
    (a % 2) (mod-lt a (lit< tt))

-- the map of given columns keeps sums
pub sum_of_columns-sum : (columns : List ℕ) → KeepsSums (sum_of_columns columns)
unfolding sum_of_columns
sum_of_columns-sum [] a b = refl
sum_of_columns-sum (column ∷ columns) a b =
    ap₂ bit_xor (bit_of_sum a b column) (ap (sum_of_columns columns) (xor_shr a b 1) ∙ sum_of_columns-sum columns (a / 2) (b / 2))
    ∙ exchange (a % 2 * column) (b % 2 * column) _ _
  where
    exchange : (p q r s : ℕ) → bit_xor (bit_xor p q) (bit_xor r s) ≡ bit_xor (bit_xor p r) (bit_xor q s)
    exchange p q r s = simp (xor_assoc, xor_left_comm)

-- and it takes 0 to 0
pub sum_of_columns-nothing : (columns : List ℕ) → sum_of_columns columns 0 ≡ 0
sum_of_columns-nothing columns = keeps_zero (sum_of_columns columns) (sum_of_columns-sum columns)

-- columns after columns take the bits after theirs
pub sum_of_columns-append : (first last : List ℕ) (x : ℕ) → sum_of_columns (first ++ last) x ≡ bit_xor (sum_of_columns first x) (sum_of_columns last (x / 2 ^ length first))
unfolding sum_of_columns
sum_of_columns-append [] last x =
    let whole : x / 2 ^ 0 ≡ x = omega arith in
    ap (sum_of_columns last) (sym whole)
sum_of_columns-append (column ∷ first) last x =
    ap (bit_xor (x % 2 * column)) (sum_of_columns-append first last (x / 2))
    ∙ ap (λ (y : ℕ). bit_xor (x % 2 * column) (bit_xor (sum_of_columns first (x / 2)) (sum_of_columns last y))) (shr-shr x 1 (length first) ∙ ap (λ (n : ℕ). x / 2 ^ n) (one_more (length first)))
    ∙ sym (xor_assoc (x % 2 * column) (sum_of_columns first (x / 2)) _)
  where
    one_more : (n : ℕ) → 1 + n ≡ suc n
    one_more n = omega arith

-- as many columns read as many bits
pub sum_of_columns-mod : (columns : List ℕ) (x : ℕ) → sum_of_columns columns (x % 2 ^ length columns) ≡ sum_of_columns columns x
unfolding sum_of_columns
sum_of_columns-mod [] x = refl
sum_of_columns-mod (column ∷ columns) x =
    ap₂ (λ (d y : ℕ). bit_xor (d * column) (sum_of_columns columns y)) (lowest (length columns)) (others (length columns))
    ∙ ap (bit_xor (x % 2 * column)) (sum_of_columns-mod columns (x / 2))
  where
    lowest : (n : ℕ) → x % 2 ^ suc n % 2 ≡ x % 2
    lowest n =
        sym (bit_at_lowest (x % 2 ^ suc n)) ∙ bit_at-mod x (suc n) 0 (omega arith) ∙ bit_at_lowest x

    others : (n : ℕ) → x % 2 ^ suc n / 2 ≡ x / 2 % 2 ^ n
    others n =
        let next : suc n ≡ n + 1 = omega arith in
        ap (λ (m : ℕ). x % 2 ^ m / 2) next ∙ field_of x n 1

-- the columns times an element give the image times it
pub sum_of_columns-times : (width unit : ℕ) (times : ℕ → ℕ → ℕ) → IsRing width unit times → (a : ℕ) (columns : List ℕ) (x : ℕ)
    → sum_of_columns (map (λ column. times column a) columns) x ≡ times (sum_of_columns columns x) a
unfolding sum_of_columns
sum_of_columns-times width unit times ring a [] x = sym (zero-times width unit times ring a)
sum_of_columns-times width unit times ring a (column ∷ columns) x =
    ap₂ bit_xor (bit_times (x % 2) (mod-lt x (lit< tt))) (sum_of_columns-times width unit times ring a columns (x / 2))
    ∙ sym (sum_times width unit times ring (x % 2 * column) (sum_of_columns columns (x / 2)) a)
  where
    bit_times : (d : ℕ) → d < 2 → d * times column a ≡ times (d * column) a
    bit_times =
        two_cases (λ d. d * times column a ≡ times (d * column) a)
        (zero-mul (times column a) ∙ sym (ap (λ (y : ℕ). times y a) (zero-mul column) ∙ zero-times width unit times ring a))
        (one-mul (times column a) ∙ sym (ap (λ (y : ℕ). times y a) (one-mul column)))

-- ---- the columns of a change of basis

-- columns, and after them their images under a map
unfoldable pub doubled : (ℕ → ℕ) → List ℕ → List ℕ
doubled f columns = columns ++ map f columns

-- the images of the bits of level k: those of a level are followed by their products by the image of the next root
unfoldable pub level_columns : (ℕ → ℕ → ℕ) → (ℕ → ℕ) → ℕ → List ℕ
level_columns times images zero = 1 ∷ []
level_columns times images (suc k) = doubled (λ column. times column (images k)) (level_columns times images k)

-- level k has 2^k columns
pub length-level_columns : (times : ℕ → ℕ → ℕ) (images : ℕ → ℕ) (k : ℕ) → length (level_columns times images k) ≡ 2 ^ k
unfolding level_columns doubled
length-level_columns times images zero = refl
length-level_columns times images (suc k) =
    length-append (level_columns times images k) _
    ∙ ap₂ (λ (m n : ℕ). m + n) (length-level_columns times images k)
    (length-map (level_columns times images k) (λ column. times column (images k)) ∙ length-level_columns times images k)
    ∙ bits_double k

-- the map of the columns of level k is the image at level k
pub sum_of_columns-level_columns : (width : ℕ) (times : ℕ → ℕ → ℕ) (ring : IsRing width 1 times) (wide : 0 < width) (images : ℕ → ℕ) (k x : ℕ)
    → sum_of_columns (level_columns times images k) x ≡ image_at width times ring wide images k x
unfolding level_columns doubled sum_of_columns
sum_of_columns-level_columns width times ring wide images zero x =
    xor_zero_r (x % 2 * 1) ∙ mul-one (x % 2) ∙ sym (image_at-zero width times ring wide images x)
sum_of_columns-level_columns width times ring wide images (suc k) x =
    sum_of_columns-append (level_columns times images k) (map (λ column. times column (images k)) (level_columns times images k)) x
    ∙ ap₂ bit_xor (sum_of_columns-level_columns width times ring wide images k x)
    (ap (λ (n : ℕ). sum_of_columns (map (λ column. times column (images k)) (level_columns times images k)) (x / 2 ^ n)) (length-level_columns times images k)
    ∙ sum_of_columns-times width 1 times ring (images k) (level_columns times images k) (x / 2 ^ 2 ^ k)
    ∙ ap (λ (y : ℕ). times y (images k)) (sum_of_columns-level_columns width times ring wide images k (x / 2 ^ 2 ^ k)))
    ∙ sym (image_at-suc width times ring wide images k x)
