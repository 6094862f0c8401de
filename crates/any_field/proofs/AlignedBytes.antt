-- Products in a field of degree up to 8 by products of bytes modulo a polynomial of degree 8, x^(8 - degree) times the modulus.
use Rattle.std.proofs.Common.{◌≡◌, ℕ, zero, suc, ◌+◌, ◌-◌, ◌*◌, ◌/◌, ◌%◌, ◌^◌, ◌<◌, ◌≤◌, List, [], ◌∷◌, length, replicate, refl, sym, ◌∙◌, ap, ap₂, subst, arith}
use Rattle.std.specs.Prelude.{bit_xor, slice_index}
use Rattle.std.specs.Simd.Lanes.{zip2}
use Rattle.std.proofs.lemmas.Nat.{pow-add, pow_pos, shl_below, shl-shr}
use Rattle.std.proofs.lemmas.Simd.{get_or-zip2}
use Rattle.std.proofs.Math.Pow.{mod-mod-pow}
use native.Mathlib.Nat.{mod-lt}
use Rattle.field_base.specs.Carryless.{carryless}
use Rattle.field_base.specs.Remainder.{HasDegree, IsRemainder, mul_mod, rem}
use Rattle.field_base.proofs.CarrylessProduct.{carryless_shl, shl_carryless, xor_shl}
use Rattle.field_base.proofs.RemainderLaws.{rem_is_remainder, rem_of}
use Rattle.field_base.proofs.RemainderRing.{mul_mod-rem}
use Rattle.any_field.specs.Contexts.{field_product, with_top}
use Rattle.any_field.proofs.WordRemainders.{scaled-mod, top-degree}

module _ (d t : ℕ) (narrow : d ≤ 8) (tail_fits : t < 2 ^ d) where
  -- a byte is an element and the places that it is shifted by
  whole : d + (8 - d) ≡ 8
  whole = omega (arith, narrow)

  byte : 2 ^ 8 ≡ 2 ^ d * 2 ^ (8 - d)
  byte = ap (λ (n : ℕ). 2 ^ n) (sym whole) ∙ pow-add 2 d (8 - d)

  below : (x : ℕ) → x < 2 ^ d → x * 2 ^ (8 - d) < 2 ^ 8
  below x fits = subst (λ (n : ℕ). x * 2 ^ (8 - d) < 2 ^ n) whole (shl_below x d (8 - d) fits)

  -- the tail that is shifted up is a byte
  pub tail-below : t * 2 ^ (8 - d) < 2 ^ 8
  tail-below = below t tail_fits

  -- the modulus of the bytes is that of the field shifted up
  modulus : with_top 8 (t * 2 ^ (8 - d)) ≡ with_top d t * 2 ^ (8 - d)
  modulus = ap (λ (z : ℕ). z + t * 2 ^ (8 - d)) byte ∙ sym (both (2 ^ d) t (2 ^ (8 - d)))
    where
      both : (a b k : ℕ) → (a + b) * k ≡ a * k + b * k
      both a b k = omega arith

  degree : HasDegree 8 (with_top 8 (t * 2 ^ (8 - d)))
  degree = top-degree 8 (t * 2 ^ (8 - d)) tail-below

  -- and so is the remainder
  remainder : (p : ℕ) → rem 8 (with_top 8 (t * 2 ^ (8 - d))) (p * 2 ^ (8 - d)) ≡ rem d (with_top d t) p * 2 ^ (8 - d)
  remainder p = shifted (rem d (with_top d t) p) (rem_is_remainder d (with_top d t) p (top-degree d t tail_fits))
    where
      shifted : (r : ℕ) → IsRemainder d (with_top d t) p r
          → rem 8 (with_top 8 (t * 2 ^ (8 - d))) (p * 2 ^ (8 - d)) ≡ r * 2 ^ (8 - d)
      shifted r is = rem_of 8 (with_top 8 (t * 2 ^ (8 - d))) degree (p * 2 ^ (8 - d)) (r * 2 ^ (8 - d)) (record {
        below = below r is.below;
        quotient = is.quotient;
        parts =
            ap (λ (z : ℕ). z * 2 ^ (8 - d)) is.parts ∙ sym (xor_shl (8 - d) (carryless is.quotient (with_top d t)) r)
            ∙ ap (λ (z : ℕ). bit_xor z (r * 2 ^ (8 - d)))
            (sym (carryless_shl (8 - d) is.quotient (with_top d t)) ∙ ap (carryless is.quotient) (sym modulus));
      })

  -- a byte that is shifted up has the low bits of the word
  raised : (a : ℕ) → a * 2 ^ (8 - d) % 2 ^ 8 ≡ a % 2 ^ d * 2 ^ (8 - d)
  raised a = ap (λ (z : ℕ). a * 2 ^ (8 - d) % z) byte ∙ scaled-mod a (2 ^ d) (2 ^ (8 - d)) (pow_pos d) (pow_pos (8 - d))

  lowered : (a : ℕ) → a * 2 ^ (8 - d) % 2 ^ 8 / 2 ^ (8 - d) ≡ a % 2 ^ d
  lowered a = ap (λ (z : ℕ). z / 2 ^ (8 - d)) (raised a) ∙ shl-shr (a % 2 ^ d) (8 - d)

  -- one lane
  lane : (a b : ℕ) → mul_mod 8 (2 ^ 8 + t * 2 ^ (8 - d)) (a * 2 ^ (8 - d) % 2 ^ 8) (b * 2 ^ (8 - d) % 2 ^ 8 / 2 ^ (8 - d)) / 2 ^ (8 - d)
      ≡ field_product d t a b
  unfolding mul_mod
  lane a b =
      let low : b * 2 ^ (8 - d) % 2 ^ 8 / 2 ^ (8 - d) < 2 ^ 8 = lt_whole (b * 2 ^ (8 - d) % 2 ^ 8) (2 ^ (8 - d)) (mod-lt (b * 2 ^ (8 - d)) (pow_pos 8)) in
      ap (λ (z : ℕ). z / 2 ^ (8 - d))
      (mul_mod-rem 8 (with_top 8 (t * 2 ^ (8 - d))) degree (a * 2 ^ (8 - d) % 2 ^ 8) (b * 2 ^ (8 - d) % 2 ^ 8 / 2 ^ (8 - d))
      (mod-lt (a * 2 ^ (8 - d)) (pow_pos 8)) low
      ∙ ap₂ (λ (x y : ℕ). rem 8 (with_top 8 (t * 2 ^ (8 - d))) (carryless x y)) (raised a) (lowered b)
      ∙ ap (rem 8 (with_top 8 (t * 2 ^ (8 - d)))) (shl_carryless (8 - d) (a % 2 ^ d) (b % 2 ^ d))
      ∙ remainder (carryless (a % 2 ^ d) (b % 2 ^ d)))
      ∙ shl-shr (mul_mod d (with_top d t) a b) (8 - d)
    where
      lt_whole : (x k : ℕ) → x < 2 ^ 8 → x / k < 2 ^ 8
      lt_whole x k fits = omega arith

  -- all lanes
  pub lanes : (n : ℕ) (xs ys : List ℕ) → length xs ≡ n → length ys ≡ n
      → zip2 (λ (a b : ℕ). a / 2 ^ b)
      (zip2 (mul_mod 8 (2 ^ 8 + t * 2 ^ (8 - d))) (zip2 (λ (a b : ℕ). a * 2 ^ b % 2 ^ 8) xs (replicate n (8 - d)))
      (zip2 (λ (a b : ℕ). a / 2 ^ b) (zip2 (λ (a b : ℕ). a * 2 ^ b % 2 ^ 8) ys (replicate n (8 - d))) (replicate n (8 - d))))
      (replicate n (8 - d))
      ≡ zip2 (field_product d t) xs ys
  lanes zero [] [] long also = refl
  lanes zero (x ∷ xs) ys long also = absurd (omega arith)
  lanes zero [] (y ∷ ys) long also = absurd (omega arith)
  lanes (suc n) [] ys long also = absurd (omega arith)
  lanes (suc n) (x ∷ xs) [] long also = absurd (omega arith)
  lanes (suc n) (x ∷ xs) (y ∷ ys) long also =
      ap₂ (λ (z : ℕ) (zs : List ℕ). z ∷ zs) (lane x y) (lanes n xs ys (omega arith) (omega arith))

  -- a lane of the products
  pub lane-product : (n tail i : ℕ) (xs ys products : List ℕ) → length xs ≡ n → length ys ≡ n → i < n → tail ≡ t * 2 ^ (8 - d)
      → products ≡ zip2 (mul_mod 8 (2 ^ 8 + tail)) (zip2 (λ (a b : ℕ). a * 2 ^ b % 2 ^ 8) xs (replicate n (8 - d)))
      (zip2 (λ (a b : ℕ). a / 2 ^ b) (zip2 (λ (a b : ℕ). a * 2 ^ b % 2 ^ 8) ys (replicate n (8 - d))) (replicate n (8 - d)))
      → slice_index (zip2 (λ (a b : ℕ). a / 2 ^ b) products (replicate n (8 - d))) i
      ≡ field_product d t (slice_index xs i) (slice_index ys i)
  lane-product n tail i xs ys products long also within tail_is products_are =
      let ups = replicate n (8 - d) in
      let left = zip2 (λ (a b : ℕ). a * 2 ^ b % 2 ^ 8) xs ups in
      let right = zip2 (λ (a b : ℕ). a / 2 ^ b) (zip2 (λ (a b : ℕ). a * 2 ^ b % 2 ^ 8) ys ups) ups in
      ap (λ (zs : List ℕ). slice_index (zip2 (λ (a b : ℕ). a / 2 ^ b) zs ups) i)
      (products_are ∙ ap (λ (z : ℕ). zip2 (mul_mod 8 (2 ^ 8 + z)) left right) tail_is)
      ∙ ap (λ (zs : List ℕ). slice_index zs i) (lanes n xs ys long also)
      ∙ get_or-zip2 (field_product d t) xs ys i 0 0 0 (omega (arith, long, within)) (omega (arith, also, within))

  -- a product reads the low bytes of words
  pub low_bytes-product : (x y : ℕ) → field_product d t (x % 2 ^ 8) (y % 2 ^ 8) ≡ field_product d t x y
  unfolding mul_mod
  low_bytes-product x y =
      ap₂ (λ (a b : ℕ). rem d (with_top d t) (carryless a b)) (bytes x) (bytes y)
    where
      bytes : (x : ℕ) → x % 2 ^ 8 % 2 ^ d ≡ x % 2 ^ d
      bytes x =
          let sum : 8 ≡ 8 - d + d = omega (arith, narrow) in
          ap (λ (n : ℕ). x % 2 ^ n % 2 ^ d) sum ∙ mod-mod-pow x (8 - d) d
