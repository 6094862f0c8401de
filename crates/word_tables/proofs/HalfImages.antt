-- A linear map of bytes by two tables of sixteen entries: the sums of the first four images, and those of the others.
use Rattle.std.proofs.Common.{◌≡◌, ℕ, zero, suc, ◌*◌, ◌/◌, ◌%◌, ◌^◌, ◌<◌, Bool, true, false, List, [], ◌∷◌, length, map, take, drop, cond, sym, ◌∙◌, ap, ap₂, refl, arith, lit<, w8, Fits}
use Rattle.std.specs.Prelude.{bit_and, bit_xor, slice_index}
use Rattle.std.specs.Simd.Lanes.{Each1}
use Rattle.std.proofs.lemmas.Nat.{and_mask}
use native.Mathlib.Nat.{mod-eq_of_lt, mod-lt, zero-mul, one-mul}
use lib.Bits.{xor_assoc, xor_zero_r}
use Rattle.field_base.specs.LinearMaps.{linear_image}
use Rattle.field_base.proofs.BasisColumns.{sum_of_columns}
use Rattle.field_base.proofs.LinearMapLemmas.{linear_image-columns}
use Rattle.word_tables.specs.Nibbles.{HasImages, entry_sum}

-- ---- the sums of four images

-- a bit as a mask of a byte
abbrev mask : Bool → ℕ
mask b = cond b 255 0

-- and as a digit
abbrev digit : Bool → ℕ
digit b = cond b 1 0

-- a byte that is kept or cleared
kept : (c : ℕ) → c < 256 → (b : Bool) → bit_and c (mask b) ≡ digit b * c
kept c fits true = and_mask c 8 ∙ mod-eq_of_lt fits ∙ sym (one-mul c)
kept c fits false = and_mask c 0 ∙ (let none : c % 2 ^ 0 ≡ 0 = omega arith in none) ∙ sym (zero-mul c)

module _ (c0 c1 c2 c3 : ℕ) (f0 : c0 < 256) (f1 : c1 < 256) (f2 : c2 < 256) (f3 : c3 < 256) where
  -- an entry as the code computes it, by the bits of its place
  abbrev line : Bool → Bool → Bool → Bool → ℕ
  line b0 b1 b2 b3 = bit_xor (bit_xor (bit_xor (bit_and c0 (mask b0)) (bit_and c1 (mask b1))) (bit_and c2 (mask b2))) (bit_and c3 (mask b3))

  -- `line` as a sum of its columns
  by_columns : (b0 b1 b2 b3 : Bool) → line b0 b1 b2 b3
      ≡ bit_xor (digit b0 * c0) (bit_xor (digit b1 * c1) (bit_xor (digit b2 * c2) (bit_xor (digit b3 * c3) 0)))
  by_columns b0 b1 b2 b3 =
      ap₂ bit_xor (ap₂ bit_xor (ap₂ bit_xor (kept c0 f0 b0) (kept c1 f1 b1)) (kept c2 f2 b2)) (kept c3 f3 b3)
      ∙ xor_assoc (bit_xor (digit b0 * c0) (digit b1 * c1)) (digit b2 * c2) (digit b3 * c3)
      ∙ xor_assoc (digit b0 * c0) (digit b1 * c1) (bit_xor (digit b2 * c2) (digit b3 * c3))
      ∙ ap (λ (z : ℕ). bit_xor (digit b0 * c0) (bit_xor (digit b1 * c1) (bit_xor (digit b2 * c2) z))) (sym (xor_zero_r (digit b3 * c3)))

  -- the four images
  abbrev four : List ℕ
  four = c0 ∷ c1 ∷ c2 ∷ c3 ∷ []

  -- the table of the code
  abbrev lines : List ℕ
  lines =
      line false false false false ∷ line true false false false ∷ line false true false false ∷ line true true false false
      ∷ line false false true false ∷ line true false true false ∷ line false true true false ∷ line true true true false
      ∷ line false false false true ∷ line true false false true ∷ line false true false true ∷ line true true false true
      ∷ line false false true true ∷ line true false true true ∷ line false true true true ∷ line true true true true ∷ []

  -- its entries
  columns_at : (n : ℕ) → n < 16 → slice_index lines n ≡ sum_of_columns four n
  unfolding sum_of_columns
  columns_at zero h = by_columns false false false false
  columns_at (suc zero) h = by_columns true false false false
  columns_at (suc (suc zero)) h = by_columns false true false false
  columns_at (suc (suc (suc zero))) h = by_columns true true false false
  columns_at (suc (suc (suc (suc zero)))) h = by_columns false false true false
  columns_at (suc (suc (suc (suc (suc zero))))) h = by_columns true false true false
  columns_at (suc (suc (suc (suc (suc (suc zero)))))) h = by_columns false true true false
  columns_at (suc (suc (suc (suc (suc (suc (suc zero))))))) h = by_columns true true true false
  columns_at (suc (suc (suc (suc (suc (suc (suc (suc zero)))))))) h = by_columns false false false true
  columns_at (suc (suc (suc (suc (suc (suc (suc (suc (suc zero))))))))) h = by_columns true false false true
  columns_at (suc (suc (suc (suc (suc (suc (suc (suc (suc (suc zero)))))))))) h = by_columns false true false true
  columns_at (suc (suc (suc (suc (suc (suc (suc (suc (suc (suc (suc zero))))))))))) h = by_columns true true false true
  columns_at (suc (suc (suc (suc (suc (suc (suc (suc (suc (suc (suc (suc zero)))))))))))) h = by_columns false false true true
  columns_at (suc (suc (suc (suc (suc (suc (suc (suc (suc (suc (suc (suc (suc zero))))))))))))) h = by_columns true false true true
  columns_at (suc (suc (suc (suc (suc (suc (suc (suc (suc (suc (suc (suc (suc (suc zero)))))))))))))) h = by_columns false true true true
  columns_at (suc (suc (suc (suc (suc (suc (suc (suc (suc (suc (suc (suc (suc (suc (suc zero))))))))))))))) h = by_columns true true true true
  columns_at (suc (suc (suc (suc (suc (suc (suc (suc (suc (suc (suc (suc (suc (suc (suc (suc n)))))))))))))))) h = absurd (omega arith)

  pub sums_at : HasImages four lines
  sums_at n h = columns_at n h ∙ sym (linear_image-columns four n)

-- ---- the image of a byte by its halves

-- the image of a number is the sum of that of its low four bits by the first four images, and that of the rest by the others
abbrev Halves : List ℕ → Type 0
Halves images = (x : ℕ) → linear_image images x ≡ bit_xor (linear_image (take 4 images) (x % 16)) (linear_image (drop 4 images) (x / 16))

-- by columns
halves_columns : (c0 c1 c2 c3 : ℕ) (more : List ℕ) (x : ℕ)
    → sum_of_columns (c0 ∷ c1 ∷ c2 ∷ c3 ∷ more) x ≡ bit_xor (sum_of_columns (c0 ∷ c1 ∷ c2 ∷ c3 ∷ []) (x % 16)) (sum_of_columns more (x / 16))
unfolding sum_of_columns
halves_columns c0 c1 c2 c3 more x =
    let e0 : x % 2 ≡ x % 16 % 2 = omega arith in
    let e1 : x / 2 % 2 ≡ x % 16 / 2 % 2 = omega arith in
    let e2 : x / 2 / 2 % 2 ≡ x % 16 / 2 / 2 % 2 = omega arith in
    let e3 : x / 2 / 2 / 2 % 2 ≡ x % 16 / 2 / 2 / 2 % 2 = omega arith in
    let e4 : x / 2 / 2 / 2 / 2 ≡ x / 16 = omega arith in
    let rest = sum_of_columns more (x / 16) in
    ap₂ bit_xor (ap (λ (d : ℕ). d * c0) e0)
    (ap₂ bit_xor (ap (λ (d : ℕ). d * c1) e1)
    (ap₂ bit_xor (ap (λ (d : ℕ). d * c2) e2) (ap₂ bit_xor (ap (λ (d : ℕ). d * c3) e3) (ap (sum_of_columns more) e4))))
    ∙ joined (x % 16 % 2 * c0) (x % 16 / 2 % 2 * c1) (x % 16 / 2 / 2 % 2 * c2) (x % 16 / 2 / 2 / 2 % 2 * c3) rest
  where
    joined : (a b c d r : ℕ) → bit_xor a (bit_xor b (bit_xor c (bit_xor d r))) ≡ bit_xor (bit_xor a (bit_xor b (bit_xor c (bit_xor d 0)))) r
    joined a b c d r =
        sym (ap (λ (z : ℕ). bit_xor (bit_xor a (bit_xor b (bit_xor c z))) r) (xor_zero_r d)
        ∙ xor_assoc a (bit_xor b (bit_xor c d)) r
        ∙ ap (bit_xor a) (xor_assoc b (bit_xor c d) r ∙ ap (bit_xor b) (xor_assoc c d r)))

-- so it is for eight images
halves : (images : List ℕ) → length images ≡ 8 → Halves images
halves (c0 ∷ c1 ∷ c2 ∷ c3 ∷ more) long x =
    linear_image-columns (c0 ∷ c1 ∷ c2 ∷ c3 ∷ more) x ∙ halves_columns c0 c1 c2 c3 more x
    ∙ sym (ap₂ bit_xor (linear_image-columns (c0 ∷ c1 ∷ c2 ∷ c3 ∷ []) (x % 16)) (linear_image-columns more (x / 16)))
halves [] long x = absurd (omega arith)
halves (c0 ∷ []) long x = absurd (omega arith)
halves (c0 ∷ c1 ∷ []) long x = absurd (omega arith)
halves (c0 ∷ c1 ∷ c2 ∷ []) long x = absurd (omega arith)

-- ---- the bytes that are looked up

-- the sums of what the tables of the first four images and of the others have at the halves of bytes are the images of the bytes
pub images_by_halves : (images low high : List ℕ) → length images ≡ 8 → HasImages (take 4 images) low → HasImages (drop 4 images) high
    → (bytes : List ℕ) → Each1 (Fits w8) bytes → map (entry_sum low high) bytes ≡ map (linear_image images) bytes
images_by_halves images low high long has also [] fit = refl
images_by_halves images low high long has also (byte ∷ bytes) fit =
    let below = fit.0.fits in
    ap₂ (λ (x : ℕ) (xs : List ℕ). x ∷ xs)
    (ap₂ bit_xor (has (byte % 16) (mod-lt byte (lit< tt))) (also (byte / 16) (omega (arith, below))) ∙ sym (halves images long byte))
    (images_by_halves images low high long has also bytes fit.1)
