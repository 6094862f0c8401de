-- The library's bytes of a word are its bytes in positional notation.
use Rattle.std.proofs.Common.{◌≡◌, ℕ, zero, suc, ◌+◌, ◌*◌, ◌/◌, ◌%◌, ◌^◌, ◌<◌, ◌≤◌, refl, sym, ◌∙◌, ap, ap₂, arith, List, [], ◌∷◌, ◌++◌, drop, get_or, length, slice_index, take}
use Rattle.std.specs.Int.{byte_at, byte_worth, bytes_low_first, from_le_bytes, sum_through, to_le_bytes, w16, w32, w64, w128}
use Rattle.std.proofs.Math.Seq.{take-suc}
use Rattle.std.proofs.lemmas.List.{length-take-le, take_all}
use Rattle.std.proofs.Math.Nat.{add_comm}
use native.Mathlib.Nat.{div-one}
use Rattle.field_bytes.specs.Bytes.{low_bytes, number_of_bytes}
use Rattle.field_base.specs.Chunks.{chunk, chunks, joined}
use Rattle.field_bytes.proofs.Taking.{number-more}
use Rattle.field_base.proofs.ChunkLists.{chunks-whole, pow-256}

-- a number below 2 ^ 8 is its only byte
pub one_byte : (n : ℕ) → n < 2 ^ 8 → n ∷ [] ≡ low_bytes 1 n
one_byte n fits = chunks-whole 8 n fits

-- byte 0 is read without a shift
byte_is : (i n : ℕ) → byte_at i n ≡ chunk 8 i n
byte_is zero n = ap (λ (x : ℕ). x % 256) (sym (div-one n))
byte_is (suc i) n = ap (λ (p : ℕ). n / p % 256) (pow-256 (suc i))

-- the bytes from byte i on, the last of them apart
last_apart : (k i j n : ℕ) → j ≡ i + k → bytes_low_first i (suc k) n ≡ bytes_low_first i k n ++ byte_at j n ∷ []
last_apart zero i j n last = ap (λ (m : ℕ). byte_at m n ∷ []) (omega arith)
last_apart (suc k) i j n last = ap (λ ys. byte_at i n ∷ ys) (last_apart k (suc i) j n (omega arith))

-- the bytes of the library are the digits in base 256
bytes_are : (k n : ℕ) → bytes_low_first 0 k n ≡ low_bytes k n
unfolding chunks
bytes_are zero n = refl
bytes_are (suc k) n = last_apart k 0 k n (omega arith) ∙ ap₂ (λ (ys : List ℕ) (b : ℕ). ys ++ b ∷ []) (bytes_are k n) (byte_is k n)

-- the bytes of a word of 16 bits
pub two_bytes : (n : ℕ) → to_le_bytes w16 n ≡ low_bytes 2 n
two_bytes n = bytes_are 2 n

-- the bytes of a word of 32 bits
pub four_bytes : (n : ℕ) → to_le_bytes w32 n ≡ low_bytes 4 n
four_bytes n = bytes_are 4 n

-- the bytes of a word of 64 bits
pub eight_bytes : (n : ℕ) → to_le_bytes w64 n ≡ low_bytes 8 n
eight_bytes n = bytes_are 8 n

-- the bytes of a word of 128 bits
pub sixteen_bytes : (n : ℕ) → to_le_bytes w128 n ≡ low_bytes 16 n
sixteen_bytes n = bytes_are 16 n

-- ---- and a word of its bytes is their number

-- the sum of the first bytes, each worth what its place says
summed : (bs : List ℕ) (n : ℕ) → n < length bs → sum_through (λ i. byte_worth i (get_or bs i 0)) n ≡ number_of_bytes (take (suc n) bs)
unfolding joined
summed [] zero within = absurd (omega (arith, within))
summed (b ∷ bs) zero within = omega arith
summed bs (suc n) within =
    let b = get_or bs (suc n) 0 in
    let long : length (take (suc n) bs) ≡ suc n = length-take-le (suc n) bs (omega (arith, within)) in
    ap₂ (λ (s p : ℕ). s + b * p) (summed bs n (omega (arith, within))) (pow-256 (suc n))
    ∙ add_comm (number_of_bytes (take (suc n) bs)) (b * 2 ^ (8 * suc n))
    ∙ ap (λ (k : ℕ). b * 2 ^ (8 * k) + number_of_bytes (take (suc n) bs)) (sym long)
    ∙ sym (number-more (take (suc n) bs) b) ∙ ap number_of_bytes (sym (take-suc bs (suc n) 0 within))

-- the sum of all bytes, each worth what its place says, is their number
of_bytes : (bs : List ℕ) (n : ℕ) → length bs ≡ suc n → sum_through (λ i. byte_worth i (get_or bs i 0)) n ≡ number_of_bytes bs
of_bytes bs n long =
    summed bs n (omega (arith, long)) ∙ ap number_of_bytes (take_all (suc n) bs (omega (arith, long)))

-- a single byte is its number
pub of_one : (bs : List ℕ) → length bs ≡ 1 → slice_index bs 0 ≡ number_of_bytes bs
of_one bs long = of_bytes bs 0 long

-- the word of two bytes is their number
pub of_two : (bs : List ℕ) → length bs ≡ 2 → from_le_bytes w16 bs ≡ number_of_bytes bs
of_two bs long = of_bytes bs 1 long

-- the word of four bytes is their number
pub of_four : (bs : List ℕ) → length bs ≡ 4 → from_le_bytes w32 bs ≡ number_of_bytes bs
of_four bs long = of_bytes bs 3 long

-- the word of eight bytes is their number
pub of_eight : (bs : List ℕ) → length bs ≡ 8 → from_le_bytes w64 bs ≡ number_of_bytes bs
of_eight bs long = of_bytes bs 7 long

-- the word of sixteen bytes is their number
pub of_sixteen : (bs : List ℕ) → length bs ≡ 16 → from_le_bytes w128 bs ≡ number_of_bytes bs
of_sixteen bs long = of_bytes bs 15 long
