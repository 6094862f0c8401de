-- Numbers that are read byte by byte, from the highest byte down.
use Rattle.std.proofs.Common.{◌≡◌, ◌<◌, ◌+◌, ◌-◌, ◌*◌, ◌^◌, ℕ, suc, List, [], ◌∷◌, length, take, drop, reverse, get_or, refl, sym, ap, subst, ◌∙◌, arith}
use Rattle.std.proofs.Math.Pow.{pow_mono}
use Rattle.std.proofs.Math.Nat.{lt_of_lt_of_le}
use Rattle.std.proofs.Math.Seq.{drop-cons, take-suc}
use Rattle.std.proofs.lemmas.Nat.{pow-add}
use Rattle.std.proofs.lemmas.List.{reverse-append}
use native.Mathlib.Numerals.{add-one}
use Rattle.field_base.specs.Chunks.{joined}
use Rattle.field_bytes.specs.Bytes.{number_of_bytes}

-- 2 ^ (8 (i + 1)) = 256 * 2 ^ (8 i)
place : (i : ℕ) → 2 ^ (8 * (i + 1)) ≡ 256 * 2 ^ (8 * i)
place i = ap (λ (k : ℕ). 2 ^ k) (omega arith) ∙ pow-add 2 8 (8 * i)

-- a number of i bytes, with one byte more, is a number of i + 1 bytes
byte_more-lt : (i number b : ℕ) → number < 2 ^ (8 * i) → b < 256 → number * 256 + b < 2 ^ (8 * (i + 1))
byte_more-lt i number b below fits = let is = place i in omega (arith, is, below, fits)

-- which 128 bits hold where i is below 16
byte_more-fits : (i number b : ℕ) → i < 16 → number < 2 ^ (8 * i) → b < 256 → number * 256 + b < 2 ^ 128
byte_more-fits i number b few below fits =
    lt_of_lt_of_le (byte_more-lt i number b below fits) (pow_mono {j = 128} (omega (arith, few)))

-- i < 16 bytes are read, and have the number `before`
module _ {i number before : ℕ} (few : i < 16) (below : number < 2 ^ (8 * i)) (is : number ≡ before) where
  -- a word of 128 bits has room for one byte more
  pub room_for : {b : ℕ} → b < 256 → number * 256 + b < 2 ^ 128
  room_for {b} fits = byte_more-fits i number b few below fits

  -- the number with that byte
  pub grown : {b after now : ℕ} → b < 256 → after ≡ before * 256 + b → now ≡ number * 256 + b → (now < 2 ^ (8 * (i + 1))) × (now ≡ after)
  grown {b} fits next sum = (
    subst (λ (x : ℕ). x < 2 ^ (8 * (i + 1))) (sym sum) (byte_more-lt i number b below fits),
    sum ∙ ap (λ (n : ℕ). n * 256 + b) is ∙ sym next,
  )

-- no byte has the number 0
pub number_of_none : number_of_bytes [] ≡ 0
unfolding joined
number_of_none = refl

-- a byte below others
pub number_of_one_more : (bytes : List ℕ) (b : ℕ) → number_of_bytes (b ∷ bytes) ≡ number_of_bytes bytes * 256 + b
unfolding joined
number_of_one_more bytes b = refl

-- reading the lowest byte first from its end: one byte more of the last ones
pub number_of_last : (bytes : List ℕ) (i : ℕ) → i < length bytes
    → number_of_bytes (drop (length bytes - (i + 1)) bytes)
    ≡ number_of_bytes (drop (length bytes - i) bytes) * 256 + get_or bytes (length bytes - 1 - i) 0
number_of_last bytes i inside =
    let here : length bytes - (i + 1) ≡ length bytes - 1 - i = omega (arith, inside) in
    let next : suc (length bytes - 1 - i) ≡ length bytes - i = omega (arith, inside) in
    ap (λ k. number_of_bytes (drop k bytes)) here
    ∙ ap number_of_bytes (drop-cons bytes (length bytes - 1 - i) 0 (omega (arith, inside)))
    ∙ number_of_one_more _ _
    ∙ ap (λ k. number_of_bytes (drop k bytes) * 256 + get_or bytes (length bytes - 1 - i) 0) next

-- reading the highest byte first: one byte more of the first ones
pub number_of_first : (bytes : List ℕ) (i : ℕ) → i < length bytes
    → number_of_bytes (reverse (take (i + 1) bytes)) ≡ number_of_bytes (reverse (take i bytes)) * 256 + get_or bytes i 0
number_of_first bytes i inside =
    ap (λ (k : ℕ). number_of_bytes (reverse (take k bytes))) (add-one i)
    ∙ ap (λ xs. number_of_bytes (reverse xs)) (take-suc bytes i 0 inside)
    ∙ ap number_of_bytes (reverse-append (take i bytes) (get_or bytes i 0 ∷ []))
    ∙ number_of_one_more _ _
