-- The number of stages, the blocks of a stage, and the pairs that are counted.
use Rattle.std.proofs.Common.{◌≡◌, ◌⊎◌, inl, inr, ℕ, suc, ◌+◌, ◌-◌, ◌*◌, ◌/◌, ◌%◌, ◌^◌, ◌<◌, ◌≤◌, refl, ◌∙◌, ap, arith, lit<}
use Rattle.std.proofs.Math.Nat.{div-add-mod, mul-le-mul_right, pow-le-pow_right, two-pow-succ}
use Rattle.std.proofs.Math.Pow.{pow_mono}
use Rattle.std.proofs.lemmas.Bool.{cases_order}
use Rattle.std.proofs.lemmas.Nat.{div-mul-add, mod-mul-add, pow-add, pow_pos}
use Rattle.additive_transforms.specs.Transform.{FitsTransform, HasStages}

-- ---- powers of two

-- powers of two grow with their exponent
not_less : (m n : ℕ) → m < n → 2 ^ m < 2 ^ n
not_less m n below =
    let more : 2 ^ suc m ≤ 2 ^ n = pow-le-pow_right (lit< tt) below in
    let twice = two-pow-succ m in
    let some = pow_pos m in
    omega (arith, more, twice, some)

-- a power of two has one exponent
pub one_exponent : (m n : ℕ) → 2 ^ m ≡ 2 ^ n → m ≡ n
one_exponent m n same = pick (cases_order m n)
  where
    pick : (m ≡ n) ⊎ ((m < n) ⊎ (n < m)) → m ≡ n
    pick (inl is) = is
    pick (inr (inl below)) = let less = not_less m n below in absurd (omega (arith, less, same))
    pick (inr (inr above)) = let less = not_less n m above in absurd (omega (arith, less, same))

-- ---- blocks of a stage

-- 2 ^ m is 2 ^ (m - s - 1) blocks of 2 ^ (s + 1), with nothing left over
blocks_of : (m s : ℕ) → s < m → 2 ^ m ≡ 2 ^ (m - suc s) * 2 ^ (s + 1) + 0
blocks_of m s below =
    let parts : m ≡ m - suc s + (s + 1) = omega arith in
    let all = ap (λ (e : ℕ). 2 ^ e) parts ∙ pow-add 2 (m - suc s) (s + 1) in
    omega (arith, all)

-- so a length of 2 ^ m is whole blocks of stage s
pub whole_blocks : (m s length : ℕ) → s < m → length ≡ 2 ^ m → length % 2 ^ (s + 1) ≡ 0
whole_blocks m s length below is =
    ap (λ (n : ℕ). n % 2 ^ (s + 1)) (is ∙ blocks_of m s below) ∙ mod-mul-add (2 ^ (m - suc s)) (2 ^ (s + 1)) 0 (pow_pos (s + 1))

-- and so many
pub block_count : (m s length : ℕ) → s < m → length ≡ 2 ^ m → length / 2 ^ (s + 1) ≡ 2 ^ (m - suc s)
block_count m s length below is =
    ap (λ (n : ℕ). n / 2 ^ (s + 1)) (is ∙ blocks_of m s below) ∙ div-mul-add (2 ^ (m - suc s)) (2 ^ (s + 1)) 0 (pow_pos (s + 1))

-- 2 ^ m is twice 2 ^ (m - 1)
pub two_halves : (m : ℕ) → 0 < m → 2 ^ m ≡ 2 ^ (m - 1) + 2 ^ (m - 1)
two_halves m above =
    let next : m ≡ suc (m - 1) = omega arith in
    ap (λ (e : ℕ). 2 ^ e) next ∙ two-pow-succ (m - 1)

-- half of 2 ^ m is 2 ^ (m - 1)
pub half_count : (m length : ℕ) → 0 < m → length ≡ 2 ^ m → length / 2 ≡ 2 ^ (m - 1)
half_count m length above is = let twice = is ∙ two_halves m above in omega (arith, twice)

-- the pairs of whole blocks of a stage are half the places
pub stage_pairs : (values stage half : ℕ) → half ≡ 2 ^ stage → values % 2 ^ (stage + 1) ≡ 0 → values / (2 * half) * half ≡ values / 2
stage_pairs values stage half is whole =
    let next : stage + 1 ≡ suc stage = omega arith in
    let size = ap (λ (e : ℕ). 2 ^ e) next ∙ two-pow-succ stage in
    let two : 2 * half ≡ 2 ^ (stage + 1) = omega (arith, is, size) in
    let none = ap (λ (n : ℕ). values % n) two ∙ whole in
    let all = div-add-mod values (2 * half) in
    let pairs : 2 * half * (values / (2 * half)) ≡ 2 * (values / (2 * half) * half) = omega arith in
    omega (arith, none, all, pairs)

-- ---- pairs, h in each stage

-- the four low stages add theirs, so that all m stages are counted
pub low_counted : (old now next m h : ℕ) → 4 ≤ m → now ≡ old + (m - 4) * h → next ≡ now + 4 * h → next ≡ old + m * h
low_counted old now next m h enough is more =
    let parts : m - 4 + 4 ≡ m = omega arith in
    let four : (m - 4 + 4) * h ≡ (m - 4) * h + 4 * h = omega arith in
    let all = ap (λ (n : ℕ). n * h) parts in
    omega (arith, is, more, four, all)

-- and they fit where all m stages do
pub low_room : (old now m h : ℕ) → 4 ≤ m → old + m * h < 2 ^ 64 → now ≡ old + (m - 4) * h → now + 4 * h < 2 ^ 64
low_room old now m h enough room is =
    let last = low_counted old now (now + 4 * h) m h enough is refl in omega (arith, last, room)

-- the pairs of at most 40 stages
pub pairs_fit : (m : ℕ) → m ≤ 40 → m * 2 ^ (m - 1) < 2 ^ 64
pairs_fit m few =
    let half : 2 ^ (m - 1) ≤ 2 ^ 39 = pow_mono {i = m - 1} {j = 39} (omega (arith, few)) in
    let pairs : m * 2 ^ (m - 1) ≤ 40 * 2 ^ (m - 1) = mul-le-mul_right (2 ^ (m - 1)) few in
    omega (arith, half, pairs)

-- where none is counted yet, a transform of at most 40 stages has room
pub transform_room : (values count : ℕ) → count ≡ 0 → (m : ℕ) × HasStages m values → FitsTransform values count
transform_room values count none stages =
    let room = pairs_fit stages.0 stages.1.0 in
    (stages.0, stages.1, omega (arith, none, room))
