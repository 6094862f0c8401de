-- How many bytes each shard has of a stripe: parts that hold so many bytes, as few as go.
use Rattle.std.proofs.Common.{◌≡◌, inl, inr, ℕ, zero, suc, ◌+◌, ◌-◌, ◌*◌, ◌/◌, ◌^◌, ◌<◌, ◌≤◌, max, min, sym, ◌∙◌, ap, subst, arith}
use Rattle.std.proofs.Math.Nat.{div-zero, le-max_left, le-max_right, max-le, mul-le-mul_right}
use Rattle.std.proofs.lemmas.Bool.{cases_lt}
use Rattle.std.proofs.lemmas.Nat.{div_below}
use Rattle.shard_files.specs.Stripes.{even_size, fewest_stripes, most_size, part_count}
use Rattle.shard_files.proofs.Positions.{ends_beyond}

le_through : {a b c : ℕ} → a ≤ b → b ≤ c → a ≤ c
le_through first second = omega (arith, first, second)

-- the parts hold all bytes
pub part_enough : (bytes each : ℕ) → 0 < each → bytes ≤ part_count bytes each * each
part_enough bytes each some =
    le_through (ends_beyond bytes each some) (mul-le-mul_right each (le-max_right 1 ((bytes + (each - 1)) / each)))

-- and no fewer parts do
pub part_least : (bytes each m : ℕ) → 1 ≤ m → bytes ≤ m * each → part_count bytes each ≤ m
part_least bytes zero m some room =
    max-le some (subst (λ (n : ℕ). n ≤ m) (sym (div-zero (bytes + (zero - 1)))) (omega arith))
part_least bytes (suc each) m some room =
    max-le some (less ((bytes + (suc each - 1)) / suc each) (div_below (bytes + (suc each - 1)) (suc each) (m + 1) (omega arith) (omega (arith, room, wide))))
  where
    wide : (m + 1) * suc each ≡ m * suc each + suc each
    wide = omega arith

    less : (n : ℕ) → n < m + 1 → n ≤ m
    less n below = omega (arith, below)

-- one part is enough of as many bytes
part_one : (bytes each : ℕ) → bytes ≤ each → part_count bytes each ≡ 1
part_one bytes each room =
    let most = part_least bytes each 1 (omega arith) (omega (arith, room)) in
    let least = le-max_left 1 ((bytes + (each - 1)) / each) in
    omega (arith, most, least)

-- no part has more bytes than a number of 64 bits names
part_saturated : (bytes each : ℕ) → bytes < 2 ^ 64 → part_count bytes (min each (2 ^ 64 - 1)) ≡ part_count bytes each
part_saturated bytes each small =
    elim (cases_lt each (2 ^ 64)) [
      | inl below ↦ let same : min each (2 ^ 64 - 1) ≡ each = omega (arith, below) in ap (part_count bytes) same
      | inr above ↦ part_one bytes (min each (2 ^ 64 - 1)) (omega (arith, above, small)) ∙ sym (part_one bytes each (omega (arith, above, small)))
    ]

-- so many bytes in parts of one byte at least
part_small : (bytes each : ℕ) → 1 ≤ bytes → part_count bytes each ≤ bytes
part_small bytes zero some = max-le some (subst (λ (n : ℕ). n ≤ bytes) (sym (div-zero (bytes + (zero - 1)))) (omega arith))
part_small bytes (suc each) some = part_least bytes (suc each) bytes some (let wide : bytes * suc each ≡ bytes * each + bytes = omega arith in omega (arith, wide))

-- a part is no longer than a stripe may be, where as few stripes as hold the file are alike
pub even_small : (k total bytes : ℕ) → even_size k total bytes ≤ 2 ^ 24
even_small zero total bytes =
    subst (λ (n : ℕ). n ≤ 2 ^ 24) (sym (ap (part_count bytes) (nothing (fewest_stripes zero total bytes)) ∙ none bytes)) (omega arith)
  where
    nothing : (n : ℕ) → n * zero ≡ zero
    nothing n = omega arith

    none : (n : ℕ) → part_count n zero ≡ 1
    none n = ap (max 1) (div-zero (n + (zero - 1)))
even_small (suc k) total bytes =
    part_least bytes (stripes * suc k) (2 ^ 24) (omega arith) (le_through held (le_through (turned stripes most (suc k)) (mul-le-mul_right (stripes * suc k) few)))
  where
    most : ℕ
    most = most_size total

    stripes : ℕ
    stripes = fewest_stripes (suc k) total bytes

    few : most_size total ≤ 2 ^ 24
    few = part_small (2 ^ 24) total (omega arith)

    some : 0 < most_size total * suc k
    some =
        let one : 1 ≤ most_size total = le-max_left 1 ((2 ^ 24 + (total - 1)) / total) in
        let wide : most_size total * suc k ≡ most_size total * k + most_size total = omega arith in
        omega (arith, one, wide)

    held : bytes ≤ fewest_stripes (suc k) total bytes * (most_size total * suc k)
    held = part_enough bytes (most_size total * suc k) some

    turned : (a b c : ℕ) → a * (b * c) ≤ b * (a * c)
    turned a b c = let same : a * (b * c) ≡ b * (a * c) = omega arith in omega (arith, same)

-- nor is it empty
pub even_some : (k total bytes : ℕ) → 1 ≤ even_size k total bytes
even_some k total bytes = le-max_left 1 ((bytes + (fewest_stripes k total bytes * k - 1)) / (fewest_stripes k total bytes * k))

-- what is computed by numbers of 64 bits that stop at the greatest
pub even_size_is : (k total bytes parts most width stripes wide last result : ℕ) → bytes < 2 ^ 64
    → parts ≡ part_count (2 ^ 24) total → most ≡ max 1 (min parts (2 ^ 24))
    → width ≡ min (most * k) (2 ^ 64 - 1) → stripes ≡ part_count bytes width
    → wide ≡ min (stripes * k) (2 ^ 64 - 1) → last ≡ part_count bytes wide → result ≡ max 1 (min last (2 ^ 24))
    → result ≡ even_size k total bytes
even_size_is k total bytes parts most width stripes wide last result small parts_are most_is width_is stripes_are wide_is last_is result_is =
    let one = le-max_left 1 ((2 ^ 24 + (total - 1)) / total) in
    let few = part_small (2 ^ 24) total (omega arith) in
    let all : most ≡ most_size total = omega (arith, parts_are, most_is, one, few) in
    let fewest : stripes ≡ fewest_stripes k total bytes =
    stripes_are ∙ ap (part_count bytes) width_is ∙ part_saturated bytes (most * k) small ∙ ap (λ (n : ℕ). part_count bytes (n * k)) all in
    let even : last ≡ even_size k total bytes =
    last_is ∙ ap (part_count bytes) wide_is ∙ part_saturated bytes (stripes * k) small ∙ ap (λ (n : ℕ). part_count bytes (n * k)) fewest in
    let some = le-max_left 1 ((bytes + (fewest_stripes k total bytes * k - 1)) / (fewest_stripes k total bytes * k)) in
    omega (arith, result_is, even, some, even_small k total bytes)
