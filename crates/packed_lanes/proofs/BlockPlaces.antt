-- Places in blocks, and places mixed of two: how far the rounds of a transposition have come.
use Rattle.std.proofs.Common.{◌≡◌, ℕ, ◌+◌, ◌*◌, ◌/◌, ◌%◌, ◌<◌, ◌≤◌, ◌-◌, suc, zero, sym, ap, ap₂, ◌∙◌, lit<, arith}
use Rattle.std.proofs.lemmas.Nat.{div-mul-add, mod-mul-add, div-add-mod', mul-le}
use Rattle.std.proofs.Math.Nat.{add-mul, mul_assoc, add-mul-div_right, add-mod_right}
use native.Mathlib.Nat.{mod-lt}

-- the place i with its part below s taken from j
abbrev pub mixed : ℕ → ℕ → ℕ → ℕ
mixed s i j = i / s * s + j % s

-- one more block: the next quotient, and the same remainder
pub next_quotient : (s i : ℕ) → 0 < s → (i + s) / s ≡ i / s + 1
next_quotient s i some = ap (λ (x : ℕ). x / s) (omega arith) ∙ add-mul-div_right i 1 {z = s} some

-- the block before has the quotient before
pub before_quotient : (s j : ℕ) → 0 < s → s ≤ j → (j - s) / s + 1 ≡ j / s
before_quotient s j some more = sym (next_quotient s (j - s) some) ∙ ap (λ (x : ℕ). x / s) (omega arith)

-- a place in the block before has the same remainder
before_remainder : (s j : ℕ) → s ≤ j → (j - s) % s ≡ j % s
before_remainder s j more = sym (add-mod_right (j - s) s) ∙ ap (λ (x : ℕ). x % s) (omega arith)

-- what stands above a pair of blocks, which of the two it is, and the place in the block
double_place : (s i : ℕ) → i / s / 2 * (s + s) + (i / s % 2 * s + i % s) ≡ i
double_place s i =
    let whole : i / s * s + i % s ≡ i = div-add-mod' i s in
    let halves : i / s / 2 * 2 + i / s % 2 ≡ i / s = div-add-mod' (i / s) 2 in
    let spread = add-mul (i / s / 2 * 2) (i / s % 2) s in
    let assoc = mul_assoc (i / s / 2) 2 s in
    let two : 2 * s ≡ s + s = omega arith in
    let twice : i / s / 2 * (2 * s) ≡ i / s / 2 * (s + s) = ap (λ (x : ℕ). i / s / 2 * x) two in
    let cut : (i / s / 2 * 2 + i / s % 2) * s ≡ i / s * s = ap (λ (x : ℕ). x * s) halves in
    omega arith

-- a place of one of two blocks lies within both
bit_of_block : (s p x : ℕ) → p < 2 → x < s → p * s + x < s + s
bit_of_block s zero x binary below = omega arith
bit_of_block s (suc zero) x binary below = omega arith
bit_of_block s (suc (suc p)) x binary below = absurd (omega arith)

-- the quotient by s + s is half the quotient by s
double_quotient : (s i : ℕ) → 0 < s → i / (s + s) ≡ i / s / 2
double_quotient s i some =
    ap (λ (x : ℕ). x / (s + s)) (sym (double_place s i))
    ∙ div-mul-add (i / s / 2) (s + s) (i / s % 2 * s + i % s) (bit_of_block s (i / s % 2) (i % s) (mod-lt (i / s) (lit< tt)) (mod-lt i some))

-- the remainder by s + s is that by s, and s more in an odd block
double_remainder : (s i : ℕ) → 0 < s → i % (s + s) ≡ i / s % 2 * s + i % s
double_remainder s i some =
    ap (λ (x : ℕ). x % (s + s)) (sym (double_place s i))
    ∙ mod-mul-add (i / s / 2) (s + s) (i / s % 2 * s + i % s) (bit_of_block s (i / s % 2) (i % s) (mod-lt (i / s) (lit< tt)) (mod-lt i some))

-- the place mixed below s + s
double_mixed : (s i j : ℕ) → 0 < s → mixed (s + s) i j ≡ i / s / 2 * (s + s) + (j / s % 2 * s + j % s)
double_mixed s i j some = ap₂ (λ (x y : ℕ). x * (s + s) + y) (double_quotient s i some) (double_remainder s j some)

-- the start of a block is that of its pair, and s more for an odd block
quotient_place : (s i : ℕ) → i / s * s ≡ i / s / 2 * (s + s) + i / s % 2 * s
quotient_place s i =
    let place = double_place s i in
    let whole : i / s * s + i % s ≡ i = div-add-mod' i s in
    omega arith

-- places in blocks of the same parity: mixing below s is mixing below s + s
pub same_mixed : (s i j : ℕ) → 0 < s → i / s % 2 ≡ j / s % 2 → mixed s i j ≡ mixed (s + s) i j
same_mixed s i j some same =
    let place = quotient_place s i in
    let double = double_mixed s i j some in
    let turn : i / s % 2 * s ≡ j / s % 2 * s = ap (λ (x : ℕ). x * s) same in
    omega arith

-- i in an even block and j in an odd one: moving both to the other block mixes below s + s
pub even_mixed : (s i j : ℕ) → 0 < s → i / s % 2 ≡ 0 → j / s % 2 ≡ 1 → s ≤ j → mixed s (i + s) (j - s) ≡ mixed (s + s) i j
even_mixed s i j some even odd more =
    let place = quotient_place s i in
    let double = double_mixed s i j some in
    let none : i / s % 2 * s ≡ 0 * s = ap (λ (x : ℕ). x * s) even in
    let once : j / s % 2 * s ≡ 1 * s = ap (λ (x : ℕ). x * s) odd in
    let next : (i + s) / s * s ≡ (i / s + 1) * s = ap (λ (x : ℕ). x * s) (next_quotient s i some) in
    let spread = add-mul (i / s) 1 s in
    let rest = before_remainder s j more in
    omega arith

-- i in an odd block and j in an even one: moving both to the other block mixes below s + s
pub odd_mixed : (s i j : ℕ) → 0 < s → i / s % 2 ≡ 1 → j / s % 2 ≡ 0 → s ≤ i → mixed s (i - s) (j + s) ≡ mixed (s + s) i j
odd_mixed s i j some odd even more =
    let place = quotient_place s i in
    let double = double_mixed s i j some in
    let once : i / s % 2 * s ≡ 1 * s = ap (λ (x : ℕ). x * s) odd in
    let none : j / s % 2 * s ≡ 0 * s = ap (λ (x : ℕ). x * s) even in
    let before : ((i - s) / s + 1) * s ≡ i / s * s = ap (λ (x : ℕ). x * s) (before_quotient s i some more) in
    let spread = add-mul ((i - s) / s) 1 s in
    let rest = add-mod_right j s in
    omega arith

-- an odd block is not the lowest
pub odd_is_above : (s j : ℕ) → 0 < s → j / s % 2 ≡ 1 → s ≤ j
odd_is_above s j some odd =
    let whole : j / s * s + j % s ≡ j = div-add-mod' j s in
    let one_block : 1 ≤ j / s = omega arith in
    let more = mul-le 1 s (j / s) s one_block (omega arith) in
    omega arith
