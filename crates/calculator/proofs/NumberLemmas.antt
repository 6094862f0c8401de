-- Numbers as two words, and as bytes.
use Rattle.std.proofs.Common.{◌≡◌, ◌≢◌, ℕ, zero, suc, ◌+◌, ◌-◌, ◌*◌, ◌/◌, ◌%◌, ◌^◌, ◌<◌, ◌≤◌, nat_eq, nat_lt, List, [], ◌∷◌, ◌++◌, length, take, drop, fold, refl, subst, sym, ◌∙◌, ap, ap₂, arith, ⊎_elim, zero-add, lit<}
use Rattle.std.specs.Int.{bytes_high_first, byte_at}
use Rattle.std.proofs.Math.Nat.{one-le-pow, mul_comm, mul_assoc, pow-suc, div-one, div-div-eq-div-mul, div-lt_iff_lt-mul, mul-add-div_right, pow-le-pow_right}
use Rattle.std.proofs.lemmas.Bool.{cases_lt, lt-ltb, le-ltb, ne_eqb}
use Rattle.std.proofs.lemmas.List.{take-append-drop, length-drop}
use Rattle.std.proofs.lemmas.List.Sums.{fold-append}
use Rattle.std.proofs.lemmas.Nat.{div-mul-add, pow-add, pow_pos}

-- ---- the bytes of numbers side by side

-- byte k of n is n / 256 ^ k % 256, for k = 0 too
byte_at-place : (k n : ℕ) → byte_at k n ≡ n / 256 ^ k % 256
byte_at-place zero n = ap (λ (m : ℕ). m % 256) (sym (div-one n))
byte_at-place (suc k) n = refl

-- a byte below the place where the high part begins
low_byte : (more k high low : ℕ) → byte_at k (high * 256 ^ (more + suc k) + low) ≡ byte_at k low
low_byte more k high low =
    let above = high * 256 ^ more in
    let wide : high * 256 ^ (more + suc k) ≡ above * 256 * 256 ^ k =
    ap (λ (m : ℕ). high * m) (pow-add 256 more (suc k) ∙ ap (λ (m : ℕ). 256 ^ more * m) (pow-suc 256 k ∙ mul_comm (256 ^ k) 256))
    ∙ sym (mul_assoc high (256 ^ more) (256 * 256 ^ k)) ∙ sym (mul_assoc above 256 (256 ^ k)) in
    let part : (high * 256 ^ (more + suc k) + low) / 256 ^ k ≡ above * 256 + low / 256 ^ k =
    ap (λ (m : ℕ). (m + low) / 256 ^ k) wide ∙ mul-add-div_right (one-le-pow k 256 (lit< tt)) (above * 256) low in
    let kept : (above * 256 + low / 256 ^ k) % 256 ≡ low / 256 ^ k % 256 = omega arith in
    byte_at-place k (high * 256 ^ (more + suc k) + low) ∙ ap (λ (m : ℕ). m % 256) part ∙ kept ∙ sym (byte_at-place k low)

-- the lowest bytes do not depend on a part above them
low_bytes : (more count high low : ℕ) → bytes_high_first count (high * 256 ^ (more + count) + low) ≡ bytes_high_first count low
low_bytes more zero high low = refl
low_bytes more (suc count) high low =
    let one_more : more + suc count ≡ suc more + count = omega arith in
    ap₂ (λ (byte : ℕ) (rest : List ℕ). byte ∷ rest) (low_byte more count high low)
    (ap (λ (n : ℕ). bytes_high_first count (high * 256 ^ n + low)) one_more ∙ low_bytes (suc more) count high low)

-- a byte of the high part
high_byte : (k count high low : ℕ) → low < 256 ^ count → byte_at (k + count) (high * 256 ^ count + low) ≡ byte_at k high
high_byte k count high low fits =
    let place : 256 ^ (k + count) ≡ 256 ^ count * 256 ^ k = pow-add 256 k count ∙ mul_comm (256 ^ k) (256 ^ count) in
    byte_at-place (k + count) (high * 256 ^ count + low)
    ∙ ap (λ (m : ℕ). (high * 256 ^ count + low) / m % 256) place
    ∙ ap (λ (m : ℕ). m % 256) (sym (div-div-eq-div-mul (high * 256 ^ count + low) (256 ^ count) (256 ^ k)))
    ∙ ap (λ (m : ℕ). m / 256 ^ k % 256) (div-mul-add high (256 ^ count) low fits) ∙ sym (byte_at-place k high)

-- the bytes of high * 256 ^ count + low are those of high and then those of low
pub bytes-joined : (more count high low : ℕ) → low < 256 ^ count
    → bytes_high_first (more + count) (high * 256 ^ count + low) ≡ bytes_high_first more high ++ bytes_high_first count low
bytes-joined zero count high low fits =
    let none : zero + count ≡ count = zero-add count in
    rw none (ap (λ (n : ℕ). bytes_high_first count (high * 256 ^ n + low)) (sym none) ∙ low_bytes 0 count high low)
bytes-joined (suc more) count high low fits =
    let one_more : suc more + count ≡ suc (more + count) = omega arith in
    rw one_more (ap₂ (λ (byte : ℕ) (rest : List ℕ). byte ∷ rest) (high_byte more count high low fits) (bytes-joined more count high low fits))

-- ---- the number of bytes

-- the number that bytes write after the bytes of n, the highest first
abbrev pub number_from_bytes : ℕ → List ℕ → ℕ
number_from_bytes n bytes = fold (λ n byte. n * 256 + byte) n bytes

-- the number that bytes write after those of n is n * 256 ^ length + their own
number_from_bytes-after : (n : ℕ) (bytes : List ℕ) → number_from_bytes n bytes ≡ n * 256 ^ length bytes + number_from_bytes 0 bytes
number_from_bytes-after n [] = omega arith
number_from_bytes-after n (byte ∷ rest) =
    let unit = 256 ^ length rest in
    let wide : 256 ^ suc (length rest) ≡ 256 * unit = pow-suc 256 (length rest) ∙ mul_comm unit 256 in
    let first = number_from_bytes-after (n * 256 + byte) rest in
    let zero_first = number_from_bytes-after (0 * 256 + byte) rest in
    first ∙ (rw (wide, zero_first) (omega arith))

-- that of bytes which are cut in two
number_from_bytes-cut : (k : ℕ) (bytes : List ℕ)
    → number_from_bytes 0 (take k bytes) * 256 ^ length (drop k bytes) + number_from_bytes 0 (drop k bytes) ≡ number_from_bytes 0 bytes
number_from_bytes-cut k bytes =
    sym (number_from_bytes-after (number_from_bytes 0 (take k bytes)) (drop k bytes))
    ∙ sym (fold-append (λ n byte. n * 256 + byte) 0 (take k bytes) (drop k bytes))
    ∙ ap (number_from_bytes 0) (take-append-drop k bytes)

-- and at most 24 bytes are cut before the last 16
pub number-in_two : (high low above : ℕ) (bytes front back : List ℕ) → length bytes ≤ 24 → above ≡ length bytes - 16
    → front ≡ take above bytes → back ≡ drop above bytes → high ≡ number_from_bytes 0 front → low ≡ number_from_bytes 0 back
    → high * 2 ^ 128 + low ≡ number_from_bytes 0 bytes
number-in_two high low above bytes front back few cut is_front is_back first second =
    let high_is : high ≡ number_from_bytes 0 (take above bytes) = first ∙ ap (number_from_bytes 0) is_front in
    let low_is : low ≡ number_from_bytes 0 (drop above bytes) = second ∙ ap (number_from_bytes 0) is_back in
    let rest : length (drop above bytes) ≡ length bytes - above = length-drop above bytes in
    ⊎_elim (λ short. let none : above ≡ 0 = omega arith in
    let nothing : high ≡ 0 = high_is ∙ ap (λ (n : ℕ). number_from_bytes 0 (take n bytes)) none in
    let all : low ≡ number_from_bytes 0 bytes = low_is ∙ ap (λ (n : ℕ). number_from_bytes 0 (drop n bytes)) none in
    omega (arith, nothing, all))
    (λ long. let last : length (drop above bytes) ≡ 16 = omega (arith, rest) in
    let place : 256 ^ length (drop above bytes) ≡ 2 ^ 128 = ap (λ (n : ℕ). 256 ^ n) last in
    ap₂ (λ (x y : ℕ). x + y) (ap₂ (λ (x y : ℕ). x * y) high_is (sym place)) low_is ∙ number_from_bytes-cut above bytes)
    (cases_lt (length bytes) 17)

-- the number of at most 8 bytes fits a word of 64 bits
pub fits-word : (number count : ℕ) → number < 256 ^ count → count ≤ 8 → number < 2 ^ 64
fits-word number count below few = omega (arith, below, pow-le-pow_right {n = 256} (lit< tt) {i = count} {j = 8} few)

-- ---- how many bits a number has

-- tests that decide the same
same_test : (a b c d : ℕ) → (a < b → c < d) → (c < d → a < b) → nat_lt a b ≡ nat_lt c d
same_test a b c d there back =
    ⊎_elim (λ below. lt-ltb a b below ∙ sym (lt-ltb c d (there below)))
    (λ above. le-ltb a b above ∙ sym (le-ltb c d (⊎_elim (λ below. let lost = back below in absurd (omega arith)) (λ past. past) (cases_lt c d))))
    (cases_lt a b)

-- the test by a shift, which leaves the highest bit as well
shifted-test : (n place : ℕ) → nat_lt (n / 2 ^ place) 2 ≡ nat_lt n (2 ^ suc place)
shifted-test n place =
    let decides = div-lt_iff_lt-mul {k = 2 ^ place} {x = n} {y = 2} (pow_pos place) in
    let wide : 2 * 2 ^ place ≡ 2 ^ suc place = mul_comm 2 (2 ^ place) ∙ sym (pow-suc 2 place) in
    same_test (n / 2 ^ place) 2 n (2 ^ suc place) (λ below. subst (λ (m : ℕ). n < m) wide (decides.0 below))
    (λ below. decides.1 (subst (λ (m : ℕ). n < m) (sym wide) below))

-- the test of a number whose high word is 0
pub fits_low : (high low bits : ℕ) → high ≡ 0 → 0 < bits
    → nat_lt (low / 2 ^ (bits - 1)) 2 ≡ nat_lt (high * 2 ^ 128 + low) (2 ^ bits)
fits_low high low bits nothing some =
    let whole : low ≡ high * 2 ^ 128 + low = omega (arith, nothing) in
    let next : suc (bits - 1) ≡ bits = omega arith in
    shifted-test low (bits - 1) ∙ ap₂ (λ (n k : ℕ). nat_lt n (2 ^ k)) whole next

-- a number whose high word is not 0 has more than 128 bits
pub fits_not : (high low bits : ℕ) → high ≢ 0 → bits ≤ 128 → nat_eq high 0 ≡ nat_lt (high * 2 ^ 128 + low) (2 ^ bits)
fits_not high low bits some few =
    let narrow : 2 ^ bits ≤ 2 ^ 128 = pow-le-pow_right {n = 2} (lit< tt) {i = bits} {j = 128} few in
    let one : 1 ≤ high = ⊎_elim (λ below. absurd (some (omega arith))) (λ above. above) (cases_lt high 1) in
    ne_eqb high 0 some ∙ sym (le-ltb (high * 2 ^ 128 + low) (2 ^ bits) (omega (arith, narrow, one)))

-- the test of more than 128 bits looks at the high word alone
pub fits_high : (high low bits : ℕ) → low < 2 ^ 128 → 128 < bits
    → nat_lt (high / 2 ^ (bits - 129)) 2 ≡ nat_lt (high * 2 ^ 128 + low) (2 ^ bits)
fits_high high low bits fits more =
    let above = 2 ^ (bits - 128) in
    let next : suc (bits - 129) ≡ bits - 128 = omega arith in
    let cut : bits ≡ bits - 128 + 128 = omega arith in
    let wide : 2 ^ bits ≡ above * 2 ^ 128 = ap (λ (k : ℕ). 2 ^ k) cut ∙ pow-add 2 (bits - 128) 128 in
    shifted-test high (bits - 129) ∙ ap (λ (k : ℕ). nat_lt high (2 ^ k)) next
    ∙ same_test high above (high * 2 ^ 128 + low) (2 ^ bits) (λ below. omega (arith, wide)) (λ below. omega (arith, wide))

-- ---- numbers of at most 128 bits

-- a number of so few bits is its low word
pub low-word : (bits high low : ℕ) → bits ≤ 128 → high * 2 ^ 128 + low < 2 ^ bits → low ≡ high * 2 ^ 128 + low
low-word bits high low few fits =
    let narrow : 2 ^ bits ≤ 2 ^ 128 = pow-le-pow_right {n = 2} (lit< tt) {i = bits} {j = 128} few in
    omega (arith, narrow, fits)
