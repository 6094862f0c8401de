-- What the columns of eight bytes are.
use Rattle.std.proofs.Common.{◌≡◌, ℕ, zero, suc, ◌+◌, ◌*◌, ◌/◌, ◌%◌, ◌^◌, ◌<◌, ◌⊎◌, inl, inr, List, [], ◌∷◌, length, map, refl, sym, ◌∙◌, ap, ap₂, subst, arith, lit<}
use Rattle.std.specs.Prelude.{bit_and, bit_xor, slice_index}
use Rattle.std.specs.Int.{bit_at}
use Rattle.std.proofs.lemmas.Nat.Bits.{shr_and_one, bit_at-lt}
use Rattle.std.proofs.lemmas.Nat.{mod-pow-add, pow_pos, shr_high, mod_low, xor_block, xor_comm}
use native.Mathlib.Nat.{add-zero, eq-or-lt_of_le, mod-eq_of_lt, mod-one, mul_comm, pow-suc, zero-add, zero-mul}
use lib.Arith.{digits_lt}
use lib.Bits.{xor_zero_r}
use Rattle.field_base.specs.Basis.{sum_below}
use Rattle.field_base.proofs.BasisSums.{bit_at-mod, sum_below-same}
use Rattle.field_base.proofs.EightCases.{eight_cases}
use Rattle.word_tables.specs.Columns.{column, columns}

-- ---- a number by its bits

module _ (d : ℕ → ℕ) (bits : (j : ℕ) → d j < 2) where
  -- the number of the bits below n
  unfoldable number : ℕ → ℕ
  number n = sum_below (λ j. d j * 2 ^ j) n

  -- a number of n + 1 bits is its highest bit and the rest
  number_more : (n : ℕ) → number n < 2 ^ n → number (suc n) ≡ d n * 2 ^ n + number n
  unfolding number sum_below
  number_more n fits =
      xor_comm (number n) (d n * 2 ^ n)
      ∙ ap₂ bit_xor (sym (add-zero (d n * 2 ^ n))) (sym (zero-add (number n)) ∙ ap (λ (z : ℕ). z + number n) (sym (zero-mul (2 ^ n))))
      ∙ xor_block n (d n) 0 0 (number n) (pow_pos n) fits
      ∙ ap₂ (λ (h l : ℕ). h * 2 ^ n + l) (xor_zero_r (d n)) (xor_comm 0 (number n) ∙ xor_zero_r (number n))

  -- a number of no bits is 0
  number_none : number 0 ≡ 0
  unfolding number sum_below
  number_none = refl

  -- a number of n bits is below 2 ^ n
  number_lt : (n : ℕ) → number n < 2 ^ n
  unfolding number sum_below
  number_lt zero = lit< tt
  number_lt (suc n) =
      let fits = number_lt n in
      subst (λ (x : ℕ). x < 2 ^ suc n) (sym (number_more n fits))
      (subst (λ (x : ℕ). d n * 2 ^ n + number n < x) (sym (pow-suc 2 n ∙ mul_comm (2 ^ n) 2)) (digits_lt (bits n) fits))

  -- bit j of it is d j
  number_bit : (n j : ℕ) → j < n → bit_at (number n) j ≡ d j
  number_bit zero j within = absurd (omega (arith, within))
  number_bit (suc n) j within = pick (λ k below. number_bit n k below) (eq-or-lt_of_le (omega (arith, within)))
    where
      lower : number (suc n) % 2 ^ n ≡ number n
      lower = ap (λ (x : ℕ). x % 2 ^ n) (number_more n (number_lt n)) ∙ mod_low (d n) n (number n) (number_lt n)

      pick : ((k : ℕ) → k < n → bit_at (number n) k ≡ d k) → (j ≡ n) ⊎ (j < n) → bit_at (number (suc n)) j ≡ d j
      pick rest (inl same) =
          ap (bit_at (number (suc n))) same
          ∙ ap (λ (x : ℕ). x / 2 ^ n % 2) (number_more n (number_lt n))
          ∙ ap (λ (x : ℕ). x % 2) (shr_high (d n) n (number n) (number_lt n))
          ∙ mod-eq_of_lt (bits n) ∙ ap d (sym same)
      pick rest (inr below) =
          sym (bit_at-mod (number (suc n)) n j below) ∙ ap (λ (x : ℕ). bit_at x j) lower ∙ rest j below

-- ---- columns

-- the low bits of a number are those of its bits
number_back : (x n : ℕ) → number (bit_at x) (bit_at-lt x) n ≡ x % 2 ^ n
number_back x zero = number_none (bit_at x) (bit_at-lt x) ∙ sym (mod-one x)
number_back x (suc n) =
    let more : 1 + n ≡ suc n = omega arith in
    number_more (bit_at x) (bit_at-lt x) n (number_lt (bit_at x) (bit_at-lt x) n)
    ∙ ap (λ (low : ℕ). bit_at x n * 2 ^ n + low) (number_back x n)
    ∙ sym (mod-pow-add x 1 n) ∙ ap (λ (k : ℕ). x % 2 ^ k) more

-- bit j of column k is bit k of byte j
pub column_bit : (bytes : List ℕ) (j k : ℕ) → j < 8 → bit_at (column bytes k) j ≡ bit_at (slice_index bytes j) k
unfolding column number
column_bit bytes j k within =
    number_bit (λ i. bit_at (slice_index bytes i) k) (λ i. bit_at-lt (slice_index bytes i) k) 8 j within

-- entry k of the columns is column k
columns_at : (bytes : List ℕ) (k : ℕ) → k < 8 → slice_index (columns bytes) k ≡ column bytes k
columns_at bytes =
    eight_cases (λ k. slice_index (columns bytes) k ≡ column bytes k) refl refl refl refl refl refl refl refl

-- so bit j of entry k is bit k of byte j
pub columns_bit : (bytes : List ℕ) (j k : ℕ) → j < 8 → k < 8
    → bit_at (slice_index (columns bytes) k) j ≡ bit_at (slice_index bytes j) k
columns_bit bytes j k j_within k_within =
    ap (λ (x : ℕ). bit_at x j) (columns_at bytes k k_within) ∙ column_bit bytes j k j_within

-- column k of the columns is byte k
back_at : (bytes : List ℕ) (k : ℕ) → k < 8 → column (columns bytes) k ≡ slice_index bytes k % 2 ^ 8
unfolding column number
back_at bytes k within =
    sum_below-same (λ j. bit_at (slice_index (columns bytes) j) k * 2 ^ j)
    (λ j. bit_at (slice_index bytes k) j * 2 ^ j) 8
    (λ j below. ap (λ (d : ℕ). d * 2 ^ j) (columns_bit bytes k j within below))
    ∙ number_back (slice_index bytes k) 8

-- functions that agree below 8 have the same eight values
same_eight : (f g : ℕ → ℕ) → ((k : ℕ) → k < 8 → f k ≡ g k)
    → map f (0 ∷ 1 ∷ 2 ∷ 3 ∷ 4 ∷ 5 ∷ 6 ∷ 7 ∷ []) ≡ map g (0 ∷ 1 ∷ 2 ∷ 3 ∷ 4 ∷ 5 ∷ 6 ∷ 7 ∷ [])
same_eight f g same =
    ap₂ (λ (x : ℕ) (xs : List ℕ). x ∷ xs) (same 0 (lit< tt))
    (ap₂ (λ (x : ℕ) (xs : List ℕ). x ∷ xs) (same 1 (lit< tt))
    (ap₂ (λ (x : ℕ) (xs : List ℕ). x ∷ xs) (same 2 (lit< tt))
    (ap₂ (λ (x : ℕ) (xs : List ℕ). x ∷ xs) (same 3 (lit< tt))
    (ap₂ (λ (x : ℕ) (xs : List ℕ). x ∷ xs) (same 4 (lit< tt))
    (ap₂ (λ (x : ℕ) (xs : List ℕ). x ∷ xs) (same 5 (lit< tt))
    (ap₂ (λ (x : ℕ) (xs : List ℕ). x ∷ xs) (same 6 (lit< tt))
    (ap (λ (x : ℕ). x ∷ []) (same 7 (lit< tt)))))))))

-- a list of eight bytes is its entries
eight_entries : (bytes : List ℕ) → length bytes ≡ 8
    → map (slice_index bytes) (0 ∷ 1 ∷ 2 ∷ 3 ∷ 4 ∷ 5 ∷ 6 ∷ 7 ∷ []) ≡ bytes
eight_entries (a ∷ b ∷ c ∷ d ∷ e ∷ f ∷ g ∷ h ∷ []) long = refl
eight_entries [] long = absurd (omega (arith, long))
eight_entries (a ∷ []) long = absurd (omega (arith, long))
eight_entries (a ∷ b ∷ []) long = absurd (omega (arith, long))
eight_entries (a ∷ b ∷ c ∷ []) long = absurd (omega (arith, long))
eight_entries (a ∷ b ∷ c ∷ d ∷ []) long = absurd (omega (arith, long))
eight_entries (a ∷ b ∷ c ∷ d ∷ e ∷ []) long = absurd (omega (arith, long))
eight_entries (a ∷ b ∷ c ∷ d ∷ e ∷ f ∷ []) long = absurd (omega (arith, long))
eight_entries (a ∷ b ∷ c ∷ d ∷ e ∷ f ∷ g ∷ []) long = absurd (omega (arith, long))
eight_entries (a ∷ b ∷ c ∷ d ∷ e ∷ f ∷ g ∷ h ∷ i ∷ rest) long = absurd (omega (arith, long))

-- the columns of the columns are the bytes
pub columns_back : (bytes : List ℕ) → length bytes ≡ 8 → ((i : ℕ) → slice_index bytes i < 256)
    → columns (columns bytes) ≡ bytes
columns_back bytes long fits =
    same_eight (column (columns bytes)) (slice_index bytes)
    (λ k within. back_at bytes k within ∙ mod-eq_of_lt (fits k))
    ∙ eight_entries bytes long

-- ---- one bit more

-- bit k of a byte, moved to place j
bit_moved : (x k j : ℕ) → j < 8 → bit_and (x / 2 ^ k) 1 * 2 ^ j % 256 ≡ bit_at x k * 2 ^ j
bit_moved x k j within =
    ap (λ (d : ℕ). d * 2 ^ j % 256) (shr_and_one x k)
    ∙ mod-eq_of_lt (small j within (bit_at x k) (bit_at-lt x k))
  where
    small : (j : ℕ) → j < 8 → (d : ℕ) → d < 2 → d * 2 ^ j < 256
    small =
        eight_cases (λ j. (d : ℕ) → d < 2 → d * 2 ^ j < 256)
        (λ d fits. omega (arith, fits)) (λ d fits. omega (arith, fits)) (λ d fits. omega (arith, fits))
        (λ d fits. omega (arith, fits)) (λ d fits. omega (arith, fits)) (λ d fits. omega (arith, fits))
        (λ d fits. omega (arith, fits)) (λ d fits. omega (arith, fits))

-- a row more enters the column
pub row_enters : (bytes : List ℕ) (k j x : ℕ) → j < 8 → x ≡ slice_index bytes j
    → bit_xor (sum_below (λ i. bit_at (slice_index bytes i) k * 2 ^ i) j) (bit_and (x / 2 ^ k) 1 * 2 ^ j % 256)
    ≡ sum_below (λ i. bit_at (slice_index bytes i) k * 2 ^ i) (j + 1)
unfolding sum_below
row_enters bytes k j x within is =
    let next : suc j ≡ j + 1 = omega arith in
    ap (bit_xor (sum_below (λ i. bit_at (slice_index bytes i) k * 2 ^ i) j))
    (bit_moved x k j within ∙ ap (λ (y : ℕ). bit_at y k * 2 ^ j) is)
    ∙ ap (sum_below (λ i. bit_at (slice_index bytes i) k * 2 ^ i)) next
