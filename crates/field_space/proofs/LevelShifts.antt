-- Coefficients of an element of a level of the tower by shifts of its word.
use Rattle.std.proofs.Common.{◌≡◌, ℕ, ◌+◌, ◌*◌, ◌-◌, ◌%◌, ◌^◌, ◌<◌, ◌≤◌, ◌∙◌, ap, ap₂, refl, arith}
use Rattle.std.proofs.lemmas.Nat.{pow_pos}
use Rattle.std.proofs.Math.Arith.{digits_lt}
use Rattle.std.proofs.Math.Pow.{mod-mod-pow, pow_mono}
use native.Mathlib.Nat.{mod-eq_of_lt}
use Rattle.field_space.specs.lemmas.LevelSpace.{dimension_bits}
use Rattle.field_space.proofs.Spaces.{put_fits}

-- level j inside level k, which has at most 128 bits
shift_few : (j k count i : ℕ) → k ≤ 7 → count ≡ 2 ^ (k - j) → j ≤ k → i < count → i * 2 ^ j < 128
shift_few j k count i few is inside place =
    let bits : 2 ^ k ≡ 2 ^ j * count = dimension_bits k j count is inside in
    let below : i * 2 ^ j + 0 < count * 2 ^ j = digits_lt place (pow_pos j) in
    let most : 2 ^ k ≤ 2 ^ 7 = pow_mono {i = k} {j = 7} few in
    omega (arith, bits, below, most)

-- the shift of coefficient i of a level stays below 64 bits
pub shift_is : (j k count i : ℕ) → k ≤ 7 → count ≡ 2 ^ (k - j) → j ≤ k → i < count → i * 2 ^ j % 18446744073709551616 ≡ 2 ^ j * i
shift_is j k count i few is inside place =
    mod-eq_of_lt (let less = shift_few j k count i few is inside place in omega (arith, less)) ∙ omega arith

-- the low bits of the low bits
pub low_of_low : (bits width n : ℕ) → width ≤ bits → n % 2 ^ bits % 2 ^ width ≡ n % 2 ^ width
low_of_low bits width n room =
    let split : bits ≡ bits - width + width = omega (arith, room) in
    ap (λ (b : ℕ). n % 2 ^ b % 2 ^ width) split ∙ mod-mod-pow n (bits - width) width

-- an element with one coefficient more is one of the level, which its word and 128 bits hold
put_below : (j k count bits i c x : ℕ) → count ≡ 2 ^ (k - j) → j ≤ k → i < count → x < 2 ^ (2 ^ j * i) → c < 2 ^ 2 ^ j
    → 2 ^ k ≤ bits → c * 2 ^ (2 ^ j * i) + x < 2 ^ bits
put_below j k count bits i c x is inside place low fits room =
    let whole = put_fits (2 ^ k) (2 ^ j) count i (c * 2 ^ (2 ^ j * i) + x) c x (dimension_bits k j count is inside) place low fits refl in
    let grows : 2 ^ 2 ^ k ≤ 2 ^ bits = pow_mono {i = 2 ^ k} {j = bits} room in
    omega (arith, whole, grows)

-- the element with one coefficient more as it is computed in 128 bits, which lose none of it, and that words of the level hold it
pub placed : (j k count i level x x' c c' : ℕ) → k ≤ 7 → count ≡ 2 ^ (k - j) → j ≤ k → i < count → x < 2 ^ (2 ^ j * i) → c < 2 ^ 2 ^ j
    → level ≡ j → x' ≡ x → c' ≡ c
    → (x' + c' * 2 ^ (i * 2 ^ level % 18446744073709551616) % 340282366920938463463374607431768211456 ≡ c * 2 ^ (2 ^ j * i) + x)
    × ((bits : ℕ) → 2 ^ k ≤ bits → c * 2 ^ (2 ^ j * i) + x < 2 ^ bits)
placed j k count i level x x' c c' few is inside place low fits same_level same_x same_c =
    let holds : (bits : ℕ) → 2 ^ k ≤ bits → c * 2 ^ (2 ^ j * i) + x < 2 ^ bits =
    λ bits room. put_below j k count bits i c x is inside place low fits room in
    let whole = holds 128 (pow_mono {i = k} {j = 7} few) in
    let shift : i * 2 ^ level % 18446744073709551616 ≡ 2 ^ j * i =
    ap (λ (l : ℕ). i * 2 ^ l % 18446744073709551616) same_level ∙ shift_is j k count i few is inside place in (
      ap₂ (λ (m s : ℕ). x' + m * 2 ^ s % 340282366920938463463374607431768211456) same_c shift
          ∙ ap₂ (λ (m n : ℕ). m + n) same_x (mod-eq_of_lt (omega (arith, whole)))
          ∙ omega arith,
      holds,
    )
