-- Masked sums of bytes, in lanes, and products of bytes by them.
use Rattle.std.proofs.Common.{◌≡◌, ℕ, zero, suc, ◌+◌, ◌*◌, ◌/◌, ◌%◌, ◌^◌, ◌<◌, ◌-◌, ◌≤◌, ◌++◌, Bool, false, cond, eqb, min, inl, inr, List, [], ◌∷◌, length, map, replicate, drop, get_or, refl, sym, ◌∙◌, ap, ap₂, subst, arith, Fits, w8}
use Rattle.std.specs.Prelude.{bit_and, bit_or, bit_xor, if◌then◌else◌, nat_lt, slice_index}
use Rattle.std.specs.Int.{bit_at}
use Rattle.std.specs.Int.Bits.{and_lt, or_shifted_r}
use Rattle.std.specs.Simd.Lanes.{Each1, mask_l, top, zip2}
use Rattle.std.specs.List.{between}
use Rattle.std.proofs.lemmas.Bool.{cases_lt, le-ltb, lt-ltb}
use Rattle.std.proofs.lemmas.List.{get_or-append_right, get_or-drop, get_or-map, get_or-replicate, get_or_append_left, length-map}
use Rattle.std.proofs.lemmas.List.Edits.{get_or-between, length-between}
use Rattle.std.proofs.lemmas.Simd.{Each1-get_or, bit_mask_l, bitmask_splat, map-map, mask_l-lt, zip2_splat}
use Rattle.std.proofs.lemmas.Nat.Bits.{bit_at-lt, bit_at_and}
use native.Mathlib.Nat.{mod-eq_of_lt, mod-lt}
use Rattle.field_base.specs.Basis.{sum_below}
use Rattle.field_base.specs.lemmas.BitRing.{two_cases}
use Rattle.field_base.specs.LinearMaps.{linear_image}
use Rattle.field_base.proofs.AdditiveMaps.{KeepsSums}
use Rattle.field_base.proofs.BasisSums.{bit_at-add, bit_at-mod, sum_below-add, sum_below-same}
use Rattle.field_base.proofs.LinearMapLemmas.{the_linear_map}
use Rattle.field_slices.proofs.LaplaceExpansion.{sum-lt}
use Rattle.word_tables.specs.Nibbles.{entry_sum}
use Rattle.bits_packed.specs.BytesAsBits.{masked_sum}

-- ---- the sum is a linear map to bits

-- the bits of a mask
abbrev mask_bits : ℕ → List ℕ
mask_bits mask =
    bit_at mask 0 ∷ bit_at mask 1 ∷ bit_at mask 2 ∷ bit_at mask 3 ∷ bit_at mask 4 ∷ bit_at mask 5 ∷ bit_at mask 6 ∷ bit_at mask 7 ∷ []

masked-linear : (mask x : ℕ) → masked_sum mask x ≡ linear_image (mask_bits mask) x
unfolding linear_image sum_below
masked-linear mask x = refl

pub masked-keeps : (mask : ℕ) → KeepsSums (masked_sum mask)
masked-keeps mask a b =
    masked-linear mask (bit_xor a b) ∙ (the_linear_map (mask_bits mask)).of_sum a b
    ∙ sym (ap₂ bit_xor (masked-linear mask a) (masked-linear mask b))

-- the product of two bits is one
pub bit-product : (a b : ℕ) → a < 2 → b < 2 → a * b < 2 ^ 1
bit-product a b small other = two_cases (λ x. x * b < 2 ^ 1) (omega arith) (omega (arith, other)) a small

pub masked-lt : (mask x : ℕ) → masked_sum mask x < 2
masked-lt mask x =
    sum-lt 1 (λ j. bit_at x j * bit_at mask j) 8 (λ j. bit-product (bit_at x j) (bit_at mask j) (bit_at-lt x j) (bit_at-lt mask j))

-- ---- in lanes

-- the sums of the bits of the numbers below 16
abbrev pub sums_of_bits : List ℕ
sums_of_bits = 0 ∷ 1 ∷ 1 ∷ 0 ∷ 1 ∷ 0 ∷ 0 ∷ 1 ∷ 1 ∷ 0 ∷ 0 ∷ 1 ∷ 0 ∷ 1 ∷ 1 ∷ 0 ∷ []

sixteen : (n : ℕ) → n < 16 → slice_index sums_of_bits n ≡ sum_below (bit_at n) 4
unfolding sum_below
sixteen zero below = refl
sixteen (suc zero) below = refl
sixteen (suc (suc zero)) below = refl
sixteen (suc (suc (suc zero))) below = refl
sixteen (suc (suc (suc (suc zero)))) below = refl
sixteen (suc (suc (suc (suc (suc zero))))) below = refl
sixteen (suc (suc (suc (suc (suc (suc zero)))))) below = refl
sixteen (suc (suc (suc (suc (suc (suc (suc zero))))))) below = refl
sixteen (suc (suc (suc (suc (suc (suc (suc (suc zero)))))))) below = refl
sixteen (suc (suc (suc (suc (suc (suc (suc (suc (suc zero))))))))) below = refl
sixteen (suc (suc (suc (suc (suc (suc (suc (suc (suc (suc zero)))))))))) below = refl
sixteen (suc (suc (suc (suc (suc (suc (suc (suc (suc (suc (suc zero))))))))))) below = refl
sixteen (suc (suc (suc (suc (suc (suc (suc (suc (suc (suc (suc (suc zero)))))))))))) below = refl
sixteen (suc (suc (suc (suc (suc (suc (suc (suc (suc (suc (suc (suc (suc zero))))))))))))) below = refl
sixteen (suc (suc (suc (suc (suc (suc (suc (suc (suc (suc (suc (suc (suc (suc zero)))))))))))))) below = refl
sixteen (suc (suc (suc (suc (suc (suc (suc (suc (suc (suc (suc (suc (suc (suc (suc zero))))))))))))))) below = refl
sixteen (suc (suc (suc (suc (suc (suc (suc (suc (suc (suc (suc (suc (suc (suc (suc (suc n)))))))))))))))) below =
    absurd (omega (arith, below))

-- the look-ups by both halves of a byte give the sum of its bits
by-halves : (y : ℕ) → y < 2 ^ 8 → entry_sum sums_of_bits sums_of_bits y ≡ sum_below (bit_at y) 8
by-halves y small =
    ap₂ bit_xor
    (sixteen (y % 16) (mod-lt y (omega arith)) ∙ sum_below-same (bit_at (y % 16)) (bit_at y) 4 (λ j below. bit_at-mod y 4 j below))
    (sixteen (y / 16) (omega (arith, small))
    ∙ sum_below-same (bit_at (y / 16)) (λ j. bit_at y (4 + j)) 4 (λ j below. sym (bit_at-add y 4 j)))
    ∙ sym (sum_below-add (bit_at y) 4 4)

-- a bit of a masked byte is the product of the bits
masked-bit : (x mask j : ℕ) → bit_at (bit_and x mask) j ≡ bit_at x j * bit_at mask j
masked-bit x mask j =
    bit_at_and x mask j
    ∙ two_cases (λ a. min a (bit_at mask j) ≡ a * bit_at mask j)
    (two_cases (λ b. min 0 b ≡ 0 * b) refl refl (bit_at mask j) (bit_at-lt mask j))
    (two_cases (λ b. min 1 b ≡ 1 * b) refl refl (bit_at mask j) (bit_at-lt mask j))
    (bit_at x j) (bit_at-lt x j)

-- so that a lane is the masked sum
lane-sum : (mask x : ℕ) → x < 2 ^ 8 → mask < 2 ^ 8 → entry_sum sums_of_bits sums_of_bits (bit_and x mask) ≡ masked_sum mask x
lane-sum mask x small narrow =
    by-halves (bit_and x mask) (and_lt 8 x mask small narrow)
    ∙ sum_below-same (bit_at (bit_and x mask)) (λ j. bit_at x j * bit_at mask j) 8 (λ j below. masked-bit x mask j)

-- a bit that is compared with 1
bit-told : (b : ℕ) → b < 2 → cond (eqb b 1) 1 0 ≡ b
bit-told b small = two_cases (λ x. cond (eqb x 1) 1 0 ≡ x) refl refl b small

module _ (mask : ℕ) (bytes sums : List ℕ) (narrow : mask < 2 ^ 8) (many : length bytes ≡ 32) (fit : Each1 (Fits w8) bytes)
    (are : sums ≡ map (entry_sum sums_of_bits sums_of_bits) (zip2 bit_and bytes (replicate 32 mask))) where
  mapped : sums ≡ map (λ x. entry_sum sums_of_bits sums_of_bits (bit_and x mask)) bytes
  mapped = are ∙ ap (map (entry_sum sums_of_bits sums_of_bits)) (zip2_splat bit_and bytes 32 mask many)
      ∙ map-map (entry_sum sums_of_bits sums_of_bits) (λ x. bit_and x mask) bytes

  sums-many : length sums ≡ 32
  sums-many = ap length mapped ∙ length-map bytes _ ∙ many

  abbrev told : List Bool
  told = map (λ x. eqb x 1) sums

  told-many : length told ≡ 32
  told-many = length-map sums (λ x. eqb x 1) ∙ sums-many

  abbrev word : ℕ
  word = mask_l (map (top 7) (zip2 (λ a b. cond (eqb a b) (2 ^ 8 - 1) 0) sums (replicate 32 1))) % 2 ^ 64

  word-is : word ≡ mask_l told
  word-is = bitmask_splat w8 eqb sums 32 1 sums-many (omega arith)

  pub word-lt : mask_l (map (top 7) (zip2 (λ a b. cond (eqb a b) (2 ^ 8 - 1) 0) sums (replicate 32 1))) % 2 ^ 64 < 2 ^ 32
  word-lt = subst (λ (n : ℕ). word < 2 ^ n) told-many (subst (λ (x : ℕ). x < 2 ^ length told) (sym word-is) (mask_l-lt told))

  pub word-bits : (b : ℕ) → b < 32
      → bit_at (mask_l (map (top 7) (zip2 (λ a b. cond (eqb a b) (2 ^ 8 - 1) 0) sums (replicate 32 1))) % 2 ^ 64) b
      ≡ masked_sum mask (slice_index bytes b)
  word-bits b inside =
      let lane : get_or sums b 0 ≡ masked_sum mask (slice_index bytes b)
      = ap (λ (xs : List ℕ). get_or xs b 0) mapped ∙ get_or-map _ bytes b 0 0 (omega (arith, inside, many))
      ∙ lane-sum mask (slice_index bytes b) (Each1-get_or (Fits w8) bytes b 0 (omega (arith, inside, many)) fit).fits narrow in
      ap (λ (x : ℕ). bit_at x b) word-is ∙ bit_mask_l told b
      ∙ ap (λ (t : Bool). cond t 1 0) (get_or-map (λ x. eqb x 1) sums b 0 false (omega (arith, inside, sums-many)) ∙ ap (λ (x : ℕ). eqb x 1) lane)
      ∙ bit-told (masked_sum mask (slice_index bytes b)) (masked-lt mask (slice_index bytes b))

-- two words of 32 bits, one behind the other
pub word-halves : (low high : ℕ) (f : ℕ → ℕ) → low < 2 ^ 32 → high < 2 ^ 32 → ((b : ℕ) → b < 32 → bit_at low b ≡ f b)
    → ((b : ℕ) → b < 32 → bit_at high b ≡ f (32 + b)) → (b : ℕ) → b < 64 → bit_at (bit_or low (high * 2 ^ 32 % 2 ^ 64)) b ≡ f b
word-halves low high f low-lt high-lt lows highs b inside =
    ap (λ (x : ℕ). bit_at x b) joined ∙ elim (cases_lt b 32) [
      | inl below ↦ sym (bit_at-mod (high * 2 ^ 32 + low) 32 b below) ∙ ap (λ (x : ℕ). bit_at x b) rest ∙ lows b below
      | inr past ↦ ap (bit_at (high * 2 ^ 32 + low)) (place past) ∙ bit_at-add (high * 2 ^ 32 + low) 32 (b - 32) ∙ ap (λ (x : ℕ). bit_at x (b - 32)) quotient
          ∙ highs (b - 32) (omega (arith, inside, past)) ∙ ap f (sym (place past))
    ]
  where
    joined : bit_or low (high * 2 ^ 32 % 2 ^ 64) ≡ (high * 2 ^ 32 + low)
    joined = let fits : high * 2 ^ 32 < 2 ^ 64 = omega (arith, high-lt) in
        ap (bit_or low) (mod-eq_of_lt fits) ∙ or_shifted_r high 32 low low-lt

    rest : (high * 2 ^ 32 + low) % 2 ^ 32 ≡ low
    rest = omega (arith, low-lt)

    quotient : (high * 2 ^ 32 + low) / 2 ^ 32 ≡ high
    quotient = omega (arith, low-lt)

    place : 32 ≤ b → b ≡ 32 + (b - 32)
    place past = omega (arith, past)

-- bytes that were copied to the front of 64 zeros
pub padded : (bytes front : List ℕ) (start count b : ℕ) → count ≤ 64 → start + count ≤ length bytes → front ≡ between start (start + count) bytes
    → b < 64 → slice_index (front ++ drop count (replicate 64 0)) b ≡ (if nat_lt b count then slice_index bytes (start + b) else 0)
padded bytes front start count b few inside is below =
    elim (cases_lt b count) [
      | inl early ↦
          get_or_append_left front (drop count (replicate 64 0)) 0 b (omega (arith, early, long))
          ∙ ap (λ (xs : List ℕ). get_or xs b 0) is ∙ get_or-between bytes start (start + count) b 0 (omega (arith, early))
          ∙ sym (ap (λ (t : Bool). if t then slice_index bytes (start + b) else 0) (lt-ltb b count early))
      | inr late ↦
          get_or-append_right front (drop count (replicate 64 0)) count b 0 long late
          ∙ get_or-drop count (replicate 64 0) (b - count) 0 ∙ get_or-replicate 64 (count + (b - count)) 0 0 (omega (arith, below, late))
          ∙ sym (ap (λ (t : Bool). if t then slice_index bytes (start + b) else 0) (le-ltb b count late))
    ]
  where
    long : length front ≡ count
    long = ap length is ∙ length-between bytes start (start + count) inside ∙ omega arith

-- and bytes of which none is missing
pub unpadded : (bytes : List ℕ) (start count b : ℕ) → count ≡ 64 → b < 64
    → slice_index bytes (start + b) ≡ (if nat_lt b count then slice_index bytes (start + b) else 0)
unpadded bytes start count b whole below =
    sym (ap (λ (t : Bool). if t then slice_index bytes (start + b) else 0) (lt-ltb b count (omega (arith, whole, below))))
