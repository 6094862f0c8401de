-- A number in decimal, some digits at a time.
use Rattle.std.proofs.Common.{◌≡◌, ℕ, zero, suc, ◌+◌, ◌-◌, ◌*◌, ◌/◌, ◌%◌, ◌^◌, ◌<◌, ◌≤◌, List, [], ◌∷◌, ◌++◌, length, replicate, refl, sym, ap, ◌∙◌, inl, inr, arith, eq-zero-or-pos, append_assoc, length-append, drop, take, pow-suc, mul_comm}
use Rattle.std.proofs.Math.Nat.{div-div-eq-div-mul, mod-le}
use Rattle.std.proofs.Math.Arith.{mod-mul}
use Rattle.std.proofs.lemmas.Nat.{le-div}
use Rattle.std.proofs.lemmas.List.{replicate-append-replicate, take-replicate, drop-replicate, take-append-drop, drop-append-le, take-append-le, take-take, length-replicate}
use Rattle.std.proofs.lemmas.Fmt.{decimal_digit, decimal_step_wide, length-decimal-le_wide}
use Rattle.std.specs.Fmt.{decimal}

-- k digits 0
abbrev pub zeros : ℕ → List ℕ
zeros k = replicate k 48

-- n in decimal behind zeros, k digits in all
abbrev pub padded_decimal : ℕ → ℕ → List ℕ
padded_decimal k n = zeros (k - length (decimal n)) ++ decimal n

-- a number with one digit more
pub decimal_more : (m r : ℕ) → 0 < m → r < 10 → m * 10 + r < 10 ^ 64 → decimal (m * 10 + r) ≡ decimal m ++ ((48 + r) ∷ [])
decimal_more m r some digit small =
    let a : (m * 10 + r) / 10 ≡ m = omega arith in
    let b : (m * 10 + r) % 10 ≡ r = omega arith in
    rw (decimal_step_wide (m * 10 + r) (omega arith) small, a, b)

zeros_more : (k : ℕ) → zeros (suc k) ≡ zeros k ++ (48 ∷ [])
zeros_more k =
    let one : suc k ≡ k + 1 = omega arith in
    ap zeros one ∙ sym (replicate-append-replicate {A = ℕ} k 1 48)

padded_first : (k r : ℕ) → zeros (suc (suc k) - 1) ++ ((48 + r) ∷ []) ≡ (zeros (suc k - 1) ++ (48 ∷ [])) ++ ((48 + r) ∷ [])
padded_first k r =
    let more : suc (suc k) - 1 ≡ suc k = omega arith in
    let less : suc k - 1 ≡ k = omega arith in
    rw (more, less) (ap (λ xs. xs ++ ((48 + r) ∷ [])) (zeros_more k))

pub padded_more : (k m r : ℕ) → r < 10 → m * 10 + r < 10 ^ 64 → padded_decimal (suc (suc k)) (m * 10 + r) ≡ padded_decimal (suc k) m ++ ((48 + r) ∷ [])
padded_more k m r digit small =
    elim (eq-zero-or-pos m) [
      | inl z ↦
          let low : m * 10 + r ≡ r = omega arith in
          rw (low, z, decimal_digit r digit, decimal_digit 0 (omega arith)) (padded_first k r)
      | inr some ↦
          let more = decimal_more m r some digit small in
          let long = ap length more ∙ length-append (decimal m) ((48 + r) ∷ []) in
          let same : suc (suc k) - length (decimal (m * 10 + r)) ≡ suc k - length (decimal m) = omega (arith, long) in
          rw (same, more, append_assoc)
    ]

ten_pow-pos : (k : ℕ) → 0 < 10 ^ k
ten_pow-pos zero = omega arith
ten_pow-pos (suc k) = omega (arith, pow-suc 10 k, ten_pow-pos k)

-- the last digits of a number stand behind zeros
pub decimal_groups : (k n : ℕ) → 10 ^ suc k ≤ n → n < 10 ^ 64 → decimal n ≡ decimal (n / 10 ^ suc k) ++ padded_decimal (suc k) (n % 10 ^ suc k)
decimal_groups zero n large small =
    rw (decimal_step_wide n large small, decimal_digit (n % 10) (omega arith))
decimal_groups (suc k) n large small =
    let e : 10 ^ suc (suc k) ≡ 10 ^ suc k * 10 = pow-suc 10 (suc k) in
    let quotient : n / 10 ^ suc (suc k) ≡ n / 10 / 10 ^ suc k = sym (div-div-eq-div-mul n 10 (10 ^ suc k) ∙ ap (λ d. n / d) (mul_comm 10 (10 ^ suc k) ∙ sym e)) in
    let rest : n % 10 ^ suc (suc k) ≡ (n / 10 % 10 ^ suc k) * 10 + n % 10 = ap (λ d. n % d) e ∙ mod-mul n (ten_pow-pos (suc k)) (omega arith) in
    let enough : 10 ^ suc k ≤ n / 10 = le-div (10 ^ suc k) n 10 (omega arith) (rw e at large) in
    let fits : (n / 10 % 10 ^ suc k) * 10 + n % 10 < 10 ^ 64 = omega (arith, small, mod-le (n / 10) (10 ^ suc k)) in
    rw (decimal_step_wide n (omega (arith, enough, ten_pow-pos (suc k))) small, decimal_groups k (n / 10) enough (omega (arith, small)), quotient, rest, padded_more k (n / 10 % 10 ^ suc k) (n % 10) (omega arith) fits, append_assoc)

-- the digits of the quotient by 10^19, which are 19 fewer, and of the remainder
pub decimal_wide : (n : ℕ) → 10 ^ 19 ≤ n → n < 2 ^ 128 → (decimal n ≡ decimal (n / 10 ^ 19) ++ padded_decimal 19 (n % 10 ^ 19)) × (length (decimal n) ≡ length (decimal (n / 10 ^ 19)) + 19) × (length (decimal (n % 10 ^ 19)) ≤ 19)
decimal_wide n large small =
    let groups = decimal_groups 18 n large (omega arith) in
    let short : length (decimal (n % 10 ^ 19)) ≤ 19 = length-decimal-le_wide 19 (n % 10 ^ 19) (omega arith) (omega arith) (omega arith) in
    let before = length-replicate {A = ℕ} (19 - length (decimal (n % 10 ^ 19))) 48 in
    let digits = length-append (zeros (19 - length (decimal (n % 10 ^ 19)))) (decimal (n % 10 ^ 19)) in
    let all = ap length groups ∙ length-append (decimal (n / 10 ^ 19)) (padded_decimal 19 (n % 10 ^ 19)) in
    (groups, omega (arith, before, digits, all, short), short)

pub length_wide : (n : ℕ) → n < 2 ^ 128 → length (decimal n) ≤ 39
length_wide n small = length-decimal-le_wide 39 n (omega arith) (omega arith) (omega arith)

-- what a buffer of zeros holds once the digits of a group stand at their place in it
pub group_placed : (old new digits : List ℕ) (end start : ℕ) → start + length digits ≡ end → length digits ≤ 19 → 19 ≤ end → take end old ≡ zeros end → drop start new ≡ digits ++ drop end old → take start new ≡ take start old → (drop (end - 19) new ≡ (zeros (19 - length digits) ++ digits) ++ drop end old) × (take (end - 19) new ≡ zeros (end - 19))
group_placed old new digits end start at short room clear written before =
    let still : take start new ≡ zeros start = before ∙ sym (take-take start end old (omega arith)) ∙ ap (take start) clear ∙ take-replicate start end 48 (omega arith) in
    let whole : new ≡ zeros start ++ (digits ++ drop end old) = sym (take-append-drop start new) ∙ ap (λ xs. xs ++ drop start new) still ∙ ap (λ ys. zeros start ++ ys) written in
    let fits : end - 19 ≤ length (zeros start) = rw (length-replicate {A = ℕ} start 48) (omega arith) in
    let left : start - (end - 19) ≡ 19 - length digits = omega arith in (
      ap (drop (end - 19)) whole ∙ drop-append-le (end - 19) (zeros start) (digits ++ drop end old) fits ∙ rw (drop-replicate {X = ℕ} (end - 19) start 48, left, append_assoc) refl,
      ap (take (end - 19)) whole ∙ take-append-le (end - 19) (zeros start) (digits ++ drop end old) fits ∙ take-replicate (end - 19) start 48 (omega arith),
    )
