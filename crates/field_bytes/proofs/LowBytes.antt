-- Bytes and the numbers that they represent: a number is built byte by byte, cut into bytes, and recovered from them. low_bytes
-- has the lowest byte first, be_bytes the highest.
use Rattle.std.proofs.Common.{◌≡◌, ◌<◌, ◌≤◌, ◌+◌, ◌-◌, ◌*◌, ◌/◌, ◌%◌, ◌^◌, ℕ, zero, suc, List, [], ◌∷◌, ◌++◌, length, take, drop, reverse, get_or, refl, sym, lit<, ap, ap₂, subst, ◌∙◌, arith}
use Rattle.std.proofs.Math.Pow.{mod-mod-pow}
use Rattle.std.proofs.Math.Nat.{add-mul-mod_self_left, div-div-eq-div-mul, mod-one}
use Rattle.std.proofs.Math.Seq.{take-append_seam}
use Rattle.std.proofs.lemmas.Nat.{div-mul-add, mod-pow-add, pow-add}
use native.Mathlib.Nat.{div-one, mod-eq_of_lt, mul-suc}
use native.Mathlib.Numerals.{add-one}
use Rattle.std.proofs.lemmas.List.{length-append, length-reverse, length-take, reverse-append, reverse-reverse, take-append-le, take_all}
use Rattle.std.specs.Int.{byte_at, bytes_high_first, to_be_bytes, to_le_bytes, w128}
use Rattle.field_base.specs.Chunks.{chunk, chunks, joined}
use Rattle.field_bytes.specs.Bytes.{low_bytes, number_of_bytes}
use Rattle.field_bytes.proofs.Taking.{number-more}
use Rattle.field_bytes.proofs.WordBytes.{sixteen_bytes}
use Rattle.field_base.proofs.ChunkLists.{chunks-put, put-lt, pow-256}
use Rattle.field_bytes.specs.BigEndian.{be_bytes}

-- ---- fewer bytes of a number

-- low_bytes n a has n bytes
pub length-low : (n a : ℕ) → length (low_bytes n a) ≡ n
unfolding chunks
length-low zero a = refl
length-low (suc n) a = length-append (low_bytes n a) (chunk 8 n a ∷ []) ∙ ap (λ (k : ℕ). k + 1) (length-low n a) ∙ add-one n

-- the first n of n + m low bytes of a number are its n low bytes
take-low : (n more a : ℕ) → take n (low_bytes (n + more) a) ≡ low_bytes n a
unfolding chunks
take-low n zero a =
    let none : n + 0 ≡ n = omega arith in
    let long = length-low n a in
    ap (λ (k : ℕ). take n (low_bytes k a)) none ∙ take_all n (low_bytes n a) (omega (arith, long))
take-low n (suc more) a =
    let one : n + suc more ≡ suc (n + more) = omega arith in
    let long = length-low (n + more) a in
    ap (λ (k : ℕ). take n (low_bytes k a)) one
    ∙ take-append-le n (low_bytes (n + more) a) (chunk 8 (n + more) a ∷ []) (omega (arith, long))
    ∙ take-low n more a

-- the first n of the 16 little-endian bytes of a number are its n low bytes, n <= 16
pub low_first_of : (n a : ℕ) → n ≤ 16 → take n (to_le_bytes w128 a) ≡ low_bytes n a
low_first_of n a few =
    let split : n + (16 - n) ≡ 16 = omega (arith, few) in
    ap (take n) (sixteen_bytes a) ∙ sym (ap (λ (k : ℕ). take n (low_bytes k a)) split) ∙ take-low n (16 - n) a

-- byte i of a number is its chunk i of 8 bits
high-chunk : (i a : ℕ) → byte_at i a ≡ chunk 8 i a
high-chunk zero a = ap (λ (x : ℕ). x % 256) (sym (div-one a))
high-chunk (suc i) a = ap (λ (p : ℕ). a / p % 256) (pow-256 (suc i))

-- the bytes from the highest are the low bytes in reverse order
high-reversed : (n a : ℕ) → bytes_high_first n a ≡ reverse (low_bytes n a)
unfolding chunks
high-reversed zero a = refl
high-reversed (suc n) a =
    ap₂ (λ (b : ℕ) bs. b ∷ bs) (high-chunk n a) (high-reversed n a)
    ∙ sym (reverse-append (low_bytes n a) (chunk 8 n a ∷ []))

-- the last n of m + n bytes, the highest first, are the n low bytes, the highest first
drop-high : (more n a : ℕ) → drop more (bytes_high_first (more + n) a) ≡ bytes_high_first n a
drop-high zero n a = let none : 0 + n ≡ n = omega arith in ap (λ (k : ℕ). bytes_high_first k a) none
drop-high (suc more) n a =
    let one : suc more + n ≡ suc (more + n) = omega arith in
    ap (λ (k : ℕ). drop (suc more) (bytes_high_first k a)) one ∙ drop-high more n a

-- the last n of the 16 big-endian bytes of a number are its n low bytes in reverse order, n <= 16
pub high_first_of : (n a : ℕ) → n ≤ 16 → drop (16 - n) (to_be_bytes w128 a) ≡ reverse (low_bytes n a)
high_first_of n a few =
    let split : 16 - n + n ≡ 16 = omega (arith, few) in
    sym (ap (λ (k : ℕ). drop (16 - n) (bytes_high_first k a)) split) ∙ drop-high (16 - n) n a ∙ high-reversed n a

-- ---- numbers from their bytes, and bytes of their numbers

-- chunk 0 of b + 256 v is b
first-chunk : (b v : ℕ) → b < 256 → chunk 8 0 (b + 256 * v) ≡ b
first-chunk b v fits =
    let low : (b + 256 * v) % 256 ≡ b % 256 = add-mul-mod_self_left b 256 v in
    ap (λ (x : ℕ). x % 256) (div-one (b + 256 * v)) ∙ low ∙ mod-eq_of_lt fits

-- chunk i + 1 of b + 256 v is chunk i of v
next-chunk : (i b v : ℕ) → b < 256 → chunk 8 (suc i) (b + 256 * v) ≡ chunk 8 i v
next-chunk i b v fits =
    let bits : 2 ^ (8 * suc i) ≡ 256 * 2 ^ (8 * i) = ap (λ (k : ℕ). 2 ^ k) (mul-suc 8 i ∙ omega arith) ∙ pow-add 2 8 (8 * i) in
    let swapped : b + 256 * v ≡ v * 256 + b = omega arith in
    ap (λ (p : ℕ). (b + 256 * v) / p % 256) bits
    ∙ ap (λ (x : ℕ). x % 256) (sym (div-div-eq-div-mul (b + 256 * v) 256 (2 ^ (8 * i))))
    ∙ ap (λ (x : ℕ). x / 256 / 2 ^ (8 * i) % 256) swapped
    ∙ ap (λ (x : ℕ). x / 2 ^ (8 * i) % 256) (div-mul-add v 256 b fits)

-- the bytes of b + 256 v are b and those of v
low-front : (n b v : ℕ) → b < 256 → low_bytes (suc n) (b + 256 * v) ≡ b ∷ low_bytes n v
unfolding chunks
low-front zero b v fits = ap (λ (x : ℕ). x ∷ []) (first-chunk b v fits)
low-front (suc n) b v fits = ap₂ (λ xs (x : ℕ). xs ++ x ∷ []) (low-front n b v fits) (next-chunk n b v fits)

-- the bytes of v * 256 + b are b and those of v
pub low-cons : (n b v : ℕ) → b < 256 → low_bytes (suc n) (v * 256 + b) ≡ b ∷ low_bytes n v
low-cons n b v fits =
    let turned : v * 256 + b ≡ b + 256 * v = omega arith in
    ap (low_bytes (suc n)) turned ∙ low-front n b v fits

-- the low bytes of the number of some bytes are these bytes
pub low-number : (bytes : List ℕ) → ((k : ℕ) → get_or bytes k 0 < 256) → low_bytes (length bytes) (number_of_bytes bytes) ≡ bytes
unfolding joined chunks
low-number [] fits = refl
low-number (b ∷ bytes) fits =
    low-cons (length bytes) b (number_of_bytes bytes) (fits 0) ∙ ap (λ xs. b ∷ xs) (low-number bytes (λ k. fits (suc k)))

-- the number of n bytes is below 2^(8 n)
pub number-lt : (bytes : List ℕ) → ((k : ℕ) → get_or bytes k 0 < 256) → number_of_bytes bytes < 2 ^ (8 * length bytes)
unfolding joined
number-lt [] fits = lit< tt
number-lt (b ∷ bytes) fits =
    let bits : 2 ^ (8 * suc (length bytes)) ≡ 256 * 2 ^ (8 * length bytes) =
    ap (λ (k : ℕ). 2 ^ k) (mul-suc 8 (length bytes) ∙ omega arith) ∙ pow-add 2 8 (8 * length bytes) in
    let rest = number-lt bytes (λ k. fits (suc k)) in
    let first : b < 256 = fits 0 in
    omega (arith, bits, rest, first)

-- the number of the n low bytes of v is v modulo 2^(8 n)
pub number-low : (n v : ℕ) → number_of_bytes (low_bytes n v) ≡ v % 2 ^ (8 * n)
unfolding chunks joined
number-low zero v = sym (mod-one v)
number-low (suc n) v =
    let bits : 8 * suc n ≡ 8 + 8 * n = mul-suc 8 n ∙ omega arith in
    number-more (low_bytes n v) (chunk 8 n v)
    ∙ ap₂ (λ (k m : ℕ). chunk 8 n v * 2 ^ (8 * k) + m) (length-low n v) (number-low n v)
    ∙ sym (mod-pow-add v 8 (8 * n))
    ∙ sym (ap (λ (k : ℕ). v % 2 ^ k) bits)

-- a number modulo 2^bits and then modulo 2^width is the number modulo 2^width, where width <= bits
pub number_held : (number width bits : ℕ) → width ≤ bits → number % 2 ^ bits % 2 ^ width ≡ number % 2 ^ width
number_held number width bits room =
    let split : bits - width + width ≡ bits = omega (arith, room) in
    sym (ap (λ (k : ℕ). number % 2 ^ k % 2 ^ width) split) ∙ mod-mod-pow number (bits - width) width

-- so an element that is made from a word is the number in the word, cut to its width
pub held : {repr word number value : ℕ} (width bits : ℕ) → width ≤ bits → repr ≡ word % 2 ^ width → word ≡ number % 2 ^ bits
    → number ≡ value → repr ≡ value % 2 ^ width
held {value = value} width bits room is_repr is_word is =
    is_repr ∙ ap (λ (n : ℕ). n % 2 ^ width) (is_word ∙ ap (λ (n : ℕ). n % 2 ^ bits) is) ∙ number_held value width bits room

-- ---- the highest byte first

-- a list with a byte before it, reversed, is the reversed list with the byte at its end
reverse-cons : (b : ℕ) (bytes : List ℕ) → reverse (b ∷ bytes) ≡ reverse bytes ++ b ∷ []
reverse-cons b bytes = reverse-append (b ∷ []) bytes

-- big-endian, a byte before n others adds b * 2^(8 n) to their number
high-number-more : (b : ℕ) (bytes : List ℕ)
    → number_of_bytes (reverse (b ∷ bytes)) ≡ b * 2 ^ (8 * length bytes) + number_of_bytes (reverse bytes)
high-number-more b bytes =
    ap number_of_bytes (reverse-cons b bytes) ∙ number-more (reverse bytes) b
    ∙ ap (λ (k : ℕ). b * 2 ^ (8 * k) + number_of_bytes (reverse bytes)) (length-reverse bytes)

-- the big-endian number of n bytes is below 2^(8 n)
high-number-lt : (bytes : List ℕ) → ((k : ℕ) → get_or bytes k 0 < 256) → number_of_bytes (reverse bytes) < 2 ^ (8 * length bytes)
unfolding joined
high-number-lt [] fits = lit< tt
high-number-lt (b ∷ bytes) fits =
    put-lt 8 (length bytes) (number_of_bytes (reverse (b ∷ bytes))) b (number_of_bytes (reverse bytes))
    (high-number-lt bytes (λ k. fits (suc k))) (fits 0) (high-number-more b bytes)

-- the big-endian bytes of the big-endian number of some bytes are these bytes
high-number : (bytes : List ℕ) → ((k : ℕ) → get_or bytes k 0 < 256)
    → be_bytes (length bytes) (number_of_bytes (reverse bytes)) ≡ bytes
unfolding chunks
high-number [] fits = refl
high-number (b ∷ bytes) fits =
    ap reverse (chunks-put 8 (length bytes) (number_of_bytes (reverse (b ∷ bytes))) b (number_of_bytes (reverse bytes))
    (high-number-lt bytes (λ k. fits (suc k))) (fits 0) (high-number-more b bytes))
    ∙ reverse-append (low_bytes (length bytes) (number_of_bytes (reverse bytes))) (b ∷ [])
    ∙ ap (λ bs. b ∷ bs) (high-number bytes (λ k. fits (suc k)))

-- a prefix of a list of bytes has bytes
pub fits-take : (n : ℕ) (bytes : List ℕ) → ((k : ℕ) → get_or bytes k 0 < 256) → (k : ℕ) → get_or (take n bytes) k 0 < 256
fits-take zero bytes fits k = lit< tt
fits-take (suc n) [] fits k = lit< tt
fits-take (suc n) (b ∷ bytes) fits zero = fits 0
fits-take (suc n) (b ∷ bytes) fits (suc k) = fits-take n bytes (λ i. fits (suc i)) k

-- the element that is read from the first bytes, the highest first, has these bytes
pub decoded : (size width : ℕ) (bytes : List ℕ) (x : ℕ) → ((k : ℕ) → get_or bytes k 0 < 256) → size ≤ length bytes → width ≡ 8 * size
    → x ≡ number_of_bytes (reverse (take size bytes)) % 2 ^ width → be_bytes size x ≡ take size bytes
decoded size width bytes x fits enough whole is =
    let long : length (take size bytes) ≡ size = length-take size bytes ∙ omega (arith, enough) in
    let begins = fits-take size bytes fits in
    let below : number_of_bytes (reverse (take size bytes)) < 2 ^ width =
    subst (λ (k : ℕ). number_of_bytes (reverse (take size bytes)) < 2 ^ k) (ap (λ (k : ℕ). 8 * k) long ∙ sym whole)
    (high-number-lt (take size bytes) begins) in
    ap (be_bytes size) (is ∙ mod-eq_of_lt below)
    ∙ sym (ap (λ (k : ℕ). be_bytes k (number_of_bytes (reverse (take size bytes)))) long)
    ∙ high-number (take size bytes) begins

-- two numbers of 8 n bits are equal if their n bytes are
pub same_number : (size width x y : ℕ) → width ≡ 8 * size → x < 2 ^ width → y < 2 ^ width → be_bytes size x ≡ be_bytes size y → x ≡ y
same_number size width x y whole x_fits y_fits same =
    sym (kept x x_fits) ∙ ap number_of_bytes lows ∙ kept y y_fits
  where
    lows : low_bytes size x ≡ low_bytes size y
    lows = sym (reverse-reverse (low_bytes size x)) ∙ ap reverse same ∙ reverse-reverse (low_bytes size y)

    kept : (z : ℕ) → z < 2 ^ width → number_of_bytes (low_bytes size z) ≡ z
    kept z fits = number-low size z ∙ ap (λ (k : ℕ). z % 2 ^ k) (sym whole) ∙ mod-eq_of_lt fits

-- be_bytes n x has n bytes
pub length-be : (size x : ℕ) → length (be_bytes size x) ≡ size
length-be size x = length-reverse (low_bytes size x) ∙ length-low size x

-- a list that begins with the big-endian bytes of x has them as its first bytes
pub be-begins : (size x : ℕ) (bytes rest : List ℕ) → bytes ≡ be_bytes size x ++ rest → take size bytes ≡ be_bytes size x
be-begins size x bytes rest is =
    ap (take size) is ∙ sym (ap (λ (k : ℕ). take k (be_bytes size x ++ rest)) (length-be size x))
    ∙ take-append_seam (be_bytes size x) rest
