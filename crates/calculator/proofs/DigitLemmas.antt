-- Numbers as hexadecimal text, against the bytes that the code reads and writes.
use Rattle.std.proofs.Common.{◌≡◌, ℕ, zero, suc, ◌+◌, ◌-◌, ◌*◌, ◌/◌, ◌%◌, ◌^◌, ◌<◌, ◌≤◌, Bool, true, false, cond, List, [], ◌∷◌, length, take, drop, Option, Some, None, Result, Ok, Err, MatchResult, OnOk, is_err, refl, sym, subst, ◌∙◌, ap, ap₂, arith, ⊎_elim, slice_index, zero-add, ◌++◌, lit<}
use Rattle.std.specs.Option.{option_and_then}
use Rattle.std.specs.Int.{bytes_high_first, byte_at}
use Rattle.hex.specs.Hex.{hex_digit_value, lower_digits, digit_or_error, encode_with, decode_pairs, decode_sized, ◌>>=◌}
use Rattle.hex.specs.declared.error.FromHexError.{FromHexError}
use Rattle.hex.proofs.HexLemmas.{decode_sized-twice, decode_of-even, decode_sized-odd, decode_sized-other, IsDigits-lower_digits}
use Rattle.std.proofs.Math.Arith.{mod-mul}
use Rattle.std.proofs.Math.Nat.{one-le-pow, mod-lt, mul_comm, mod-eq_of_lt, pow-suc, div-one, div-div-eq-div-mul, mul_assoc}
use Rattle.std.proofs.lemmas.List.{take_at, take_rest, length-take-le}
use Rattle.std.proofs.lemmas.Bool.{eq-eqb, ne_eqb, cases_eq}
use Rattle.calculator.specs.Digits.{number_after, operand_value, low_digits}
use Rattle.calculator.proofs.NumberLemmas.{number_from_bytes}

-- ---- reading

-- the number that decoded bytes write after the bytes of n
abbrev pub number_decoded : ℕ → Result (List ℕ) FromHexError → Option ℕ
number_decoded n (Ok bytes) = Some (number_from_bytes n bytes)
number_decoded n (Err e) = None

-- a byte in front of decoded bytes stands above them: n is followed by byte and then by the rest
decoded_more : (n byte : ℕ) (decoded : Result (List ℕ) FromHexError)
    → number_decoded n (decoded >>= λ bytes. Ok (byte ∷ bytes)) ≡ number_decoded (n * 256 + byte) decoded
decoded_more n byte (Ok bytes) = refl
decoded_more n byte (Err e) = refl

-- two digits more are one byte more, or not to be read in both
one_pair : (n i high low : ℕ) (upper lower : Option ℕ) (rest : List ℕ)
    → ((m : ℕ) → number_after m rest ≡ number_decoded m (decode_pairs (i + 2) rest))
    → option_and_then (λ x. option_and_then (λ y. number_after ((n * 16 + x) * 16 + y) rest) lower) upper
    ≡ number_decoded n
    ((digit_or_error high i upper >>= λ x. digit_or_error low (i + 1) lower >>= λ y. Ok (x * 16 + y))
    >>= λ byte. decode_pairs (i + 2) rest >>= λ bytes. Ok (byte ∷ bytes))
one_pair n i high low None lower rest known = refl
one_pair n i high low (Some x) None rest known = refl
one_pair n i high low (Some x) (Some y) rest known =
    let same : (n * 16 + x) * 16 + y ≡ n * 256 + (x * 16 + y) = omega arith in
    ap (λ (m : ℕ). number_after m rest) same ∙ known (n * 256 + (x * 16 + y))
    ∙ sym (decoded_more n (x * 16 + y) (decode_pairs (i + 2) rest))

-- an even number of digits writes the number of the bytes that its pairs decode to
number_after-pairs : (n i : ℕ) (text : List ℕ) → length text % 2 ≡ 0 → number_after n text ≡ number_decoded n (decode_pairs i text)
unfolding number_after decode_pairs
number_after-pairs n i [] even = refl
number_after-pairs n i (digit ∷ []) even = absurd (cc)
number_after-pairs n i (high ∷ low ∷ rest) even =
    one_pair n i high low (hex_digit_value high) (hex_digit_value low) rest
    (λ m. number_after-pairs m (i + 2) rest (omega arith))

-- a word of another length does not decode
decoded-other : (bytes : ℕ) (word : List ℕ) → (length word ≡ 2 * bytes → ⊥) → number_decoded 0 (decode_sized word bytes) ≡ None
decoded-other bytes word other =
    ⊎_elim (λ odd. ap (number_decoded 0) (decode_sized-odd word bytes odd))
    (λ even. let whole : length word % 2 ≡ 0 = omega arith in
    let differs : length word / 2 ≡ bytes → ⊥ = λ half. other (omega arith) in
    ap (number_decoded 0) (decode_sized-other word bytes whole differs))
    (cases_eq (length word % 2) 1)

-- the number of an operand is that of the bytes that it decodes to
operand_value-decoded : (bytes : ℕ) (word : List ℕ) → operand_value bytes word ≡ number_decoded 0 (decode_sized word bytes)
unfolding operand_value
operand_value-decoded bytes word =
    ⊎_elim (λ same. let whole : length word % 2 ≡ 0 = omega arith in
    ap (λ (b : Bool). cond b (number_after 0 word) None) (eq-eqb (length word) (2 * bytes) same)
    ∙ number_after-pairs 0 0 word whole
    ∙ ap (number_decoded 0) (sym (decode_of-even word whole) ∙ sym (decode_sized-twice word bytes same)))
    (λ other. ap (λ (b : Bool). cond b (number_after 0 word) None) (ne_eqb (length word) (2 * bytes) other)
    ∙ sym (decoded-other bytes word other))
    (cases_eq (length word) (2 * bytes))

-- what the decoder returns and writes: the bytes, or the error
abbrev Decodes : Result (List ℕ) FromHexError → Result Unit FromHexError → List ℕ → Type 0
Decodes decoded answer out = MatchResult decoded (λ bytes. (answer ≡ Ok tt) × (out ≡ bytes)) (λ e. answer ≡ Err e)

-- where the decoder returns no error, the number of the decoded bytes is that of the bytes written
decoded-read : (decoded : Result (List ℕ) FromHexError) (answer : Result Unit FromHexError) (out : List ℕ)
    → Decodes decoded answer out → false ≡ is_err answer → number_decoded 0 decoded ≡ Some (number_from_bytes 0 out)
decoded-read (Ok bytes) answer out found fine = ap (λ (b : List ℕ). Some (number_from_bytes 0 b)) (sym found.1)
decoded-read (Err e) answer out failed fine = let known = fine ∙ ap is_err failed in absurd (cc)

-- where the decoder returns an error, there is no number
decoded-refused : (decoded : Result (List ℕ) FromHexError) (answer : Result Unit FromHexError) (out : List ℕ)
    → Decodes decoded answer out → true ≡ is_err answer → number_decoded 0 decoded ≡ None
decoded-refused (Ok bytes) answer out found fails = let known = fails ∙ ap is_err found.0 in absurd (cc)
decoded-refused (Err e) answer out failed fails = refl

-- what the code answers where the word decodes into its room, and where it does not
pub operand_value-read : (bytes room : ℕ) (word out : List ℕ) (answer : Result Unit FromHexError) (number : ℕ) → room ≡ bytes
    → Decodes (decode_sized word room) answer out → false ≡ is_err answer → number ≡ number_from_bytes 0 out
    → Some number ≡ operand_value bytes word
operand_value-read bytes room word out answer number fits found fine is =
    ap Some is ∙ sym (decoded-read (decode_sized word room) answer out found fine)
    ∙ sym (operand_value-decoded room word) ∙ ap (λ (n : ℕ). operand_value n word) fits

-- where the word does not decode into its room, it is no operand
pub operand_value-refused : (bytes room : ℕ) (word out : List ℕ) (answer : Result Unit FromHexError) → room ≡ bytes
    → Decodes (decode_sized word room) answer out → true ≡ is_err answer → None ≡ operand_value bytes word
operand_value-refused bytes room word out answer fits failed fails =
    sym (decoded-refused (decode_sized word room) answer out failed fails)
    ∙ sym (operand_value-decoded room word) ∙ ap (λ (n : ℕ). operand_value n word) fits

-- ---- writing

-- the lowest bytes of a number are the last of more of its bytes
pub bytes_high_first-drop : (more count n : ℕ) → drop more (bytes_high_first (more + count) n) ≡ bytes_high_first count n
bytes_high_first-drop zero count n = rw zero-add refl
bytes_high_first-drop (suc more) count n =
    let one_more : suc more + count ≡ suc (more + count) = omega arith in
    rw one_more (bytes_high_first-drop more count n)

-- 256 ^ k = 16 ^ (2 * k)
square-pow : (k : ℕ) → 256 ^ k ≡ 16 ^ (2 * k)
square-pow zero = refl
square-pow (suc k) =
    let twice : 2 * suc k ≡ suc (suc (2 * k)) = omega arith in
    pow-suc 256 k ∙ ap (λ (n : ℕ). n * 256) (square-pow k)
    ∙ sym (ap (λ (n : ℕ). 16 ^ n) twice ∙ pow-suc 16 (suc (2 * k)) ∙ ap (λ (n : ℕ). n * 16) (pow-suc 16 (2 * k)) ∙ mul_assoc (16 ^ (2 * k)) 16 16)

-- byte k of n begins at digit 2 k
byte_at-div : (k n : ℕ) → byte_at k n ≡ n / 16 ^ (2 * k) % 256
byte_at-div zero n = ap (λ (m : ℕ). m % 256) (sym (div-one n))
byte_at-div (suc k) n = ap (λ (m : ℕ). n / m % 256) (square-pow (suc k))

-- the high half of byte k is digit 2 k + 1
high_digit : (k n : ℕ) → byte_at k n / 16 ≡ n / 16 ^ suc (2 * k) % 16
high_digit k n =
    let next : n / 16 ^ (2 * k) / 16 ≡ n / 16 ^ suc (2 * k) =
    div-div-eq-div-mul n (16 ^ (2 * k)) 16 ∙ ap (λ (m : ℕ). n / m) (sym (pow-suc 16 (2 * k))) in
    let part : n / 16 ^ (2 * k) % 256 / 16 ≡ n / 16 ^ (2 * k) / 16 % 16 = omega arith in
    ap (λ (m : ℕ). m / 16) (byte_at-div k n) ∙ part ∙ ap (λ (m : ℕ). m % 16) next

-- the low half of byte k is digit 2 k
low_digit : (k n : ℕ) → byte_at k n % 16 ≡ n / 16 ^ (2 * k) % 16
low_digit k n =
    let part : n / 16 ^ (2 * k) % 256 % 16 ≡ n / 16 ^ (2 * k) % 16 = omega arith in
    ap (λ (m : ℕ). m % 16) (byte_at-div k n) ∙ part

-- the digits of the lowest `count` bytes of n, the highest first, are its lowest 2 * count digits
pub encode_with-bytes : (count n : ℕ) → encode_with lower_digits (bytes_high_first count n) ≡ low_digits (2 * count) n
unfolding encode_with low_digits
encode_with-bytes zero n = refl
encode_with-bytes (suc count) n =
    let twice : 2 * suc count ≡ suc (suc (2 * count)) = omega arith in
    rw (twice, high_digit count n, low_digit count n, encode_with-bytes count n) refl

-- `low_digits count n` has `count` digits
pub length-low_digits : (count n : ℕ) → length (low_digits count n) ≡ count
unfolding low_digits
length-low_digits zero n = refl
length-low_digits (suc count) n = ap suc (length-low_digits count n)

-- what the code writes: the digits of the last bytes of all 24
pub text-written : (count number : ℕ) (all written rest : List ℕ) → count ≤ 24 → all ≡ bytes_high_first 24 number
    → written ≡ encode_with lower_digits (take (24 - (24 - count)) (drop (24 - count) all))
    → take (2 * count) (written ++ rest) ≡ low_digits (2 * count) number
text-written count number all written rest fits whole is =
    let size : length all ≡ 24 = ap length whole in
    let split : 24 - count + count ≡ 24 = omega arith in
    let last : take (24 - (24 - count)) (drop (24 - count) all) ≡ bytes_high_first count number =
    ap (λ (n : ℕ). take (n - (24 - count)) (drop (24 - count) all)) (sym size) ∙ take_rest all (24 - count) ∙ ap (drop (24 - count)) whole
    ∙ ap (λ (n : ℕ). drop (24 - count) (bytes_high_first n number)) (sym split)
    ∙ bytes_high_first-drop (24 - count) count number in
    let digits : written ≡ low_digits (2 * count) number =
    is ∙ ap (encode_with lower_digits) last ∙ encode_with-bytes count number in
    take_at written rest (2 * count) (ap length digits ∙ length-low_digits (2 * count) number) ∙ digits

-- the room that the code takes at the front of a buffer
pub length-front : (count : ℕ) (buffer : List ℕ) → count ≤ length buffer → length (take count buffer) ≡ count
length-front count buffer fits = length-take-le count buffer fits

-- what holds of a call that does not fail
pub on_ok : (answer : Result Unit FromHexError) (P : Type 0) → false ≡ is_err answer → OnOk answer P → P
on_ok (Ok done) P fine known = known
on_ok (Err e) P fine known = absurd (cc)

-- ---- the law of texts

-- (above * 16 + digit) * place + rest = above * (16 * place) + (digit * place + rest)
digit_above : (above digit place rest : ℕ) → (above * 16 + digit) * place + rest ≡ above * (16 * place) + (digit * place + rest)
digit_above above digit place rest = omega arith

-- reading the digits below a place puts them behind those of n
number_after-low_digits : (count n above : ℕ) → number_after above (low_digits count n) ≡ Some (above * 16 ^ count + n % 16 ^ count)
unfolding number_after low_digits
number_after-low_digits zero n above =
    let whole : above ≡ above * 1 + n % 1 = omega arith in ap Some whole
number_after-low_digits (suc count) n above =
    let digit = n / 16 ^ count % 16 in
    let next : 16 * 16 ^ count ≡ 16 ^ suc count = mul_comm 16 (16 ^ count) ∙ sym (pow-suc 16 count) in
    let read : hex_digit_value (slice_index lower_digits digit) ≡ Some digit = IsDigits-lower_digits digit (mod-lt (n / 16 ^ count) (lit< tt)) in
    ap (option_and_then (λ value. number_after (above * 16 + value) (low_digits count n))) read
    ∙ number_after-low_digits count n (above * 16 + digit)
    ∙ ap Some (digit_above above digit (16 ^ count) (n % 16 ^ count)
    ∙ ap₂ (λ (x : ℕ) (y : ℕ). above * x + y) next
    (sym (ap (λ (m : ℕ). n % m) (sym next) ∙ mod-mul n (lit< tt) (one-le-pow count 16 (lit< tt)))))

-- a number below 256 ^ bytes is read back from its 2 * bytes digits
pub operand_value-hex_text : (bytes n : ℕ) → n < 256 ^ bytes → operand_value bytes (low_digits (2 * bytes) n) ≡ Some n
unfolding operand_value
operand_value-hex_text bytes n fits =
    let low : n % 16 ^ (2 * bytes) ≡ n = mod-eq_of_lt (subst (λ (m : ℕ). n < m) (square-pow bytes) fits) in
    ap (λ (b : Bool). cond b (number_after 0 (low_digits (2 * bytes) n)) None)
    (eq-eqb (length (low_digits (2 * bytes) n)) (2 * bytes) (length-low_digits (2 * bytes) n))
    ∙ number_after-low_digits (2 * bytes) n 0 ∙ ap Some (omega (arith, low))
