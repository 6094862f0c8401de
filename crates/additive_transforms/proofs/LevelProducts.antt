-- Products by scalars of lower levels, in the bits of a level.
use Rattle.std.proofs.Common.{◌≡◌, ℕ, ◌+◌, ◌-◌, ◌%◌, ◌^◌, ◌<◌, ◌≤◌, Bool, false, true, [], ◌∷◌, refl, sym, ◌∙◌, ap, subst, arith, lit<}
use Rattle.std.specs.Prelude.{bit_xor, slice_index}
use Rattle.std.proofs.Math.Pow.{mod-mod-pow, pow_mono}
use Rattle.std.proofs.lemmas.Nat.{pow_pos, xor_mod}
use native.Mathlib.Nat.{mod-eq_of_lt}
use Rattle.additive_transforms.specs.Stages.{IsButterfly, TakesBlock}
use Rattle.additive_transforms.proofs.PairLoops.{pair_on}
use Rattle.field_base.specs.Tower.{tower_mul}
use Rattle.field_base.proofs.Coefficients.{scales_coefficients}
use Rattle.field_base.proofs.RingLemmas.{times-mod}
use Rattle.field_base.proofs.TowerProducts.{level-lt}
use Rattle.field_base.proofs.TowerRing.{tower_ring}
use Rattle.ghash_slices.specs.Stages.{add_multiple}
use Rattle.field_base.proofs.ChunkLists.{chunk-first}

-- an element of a level fits each level above it
fits_above : (j k s : ℕ) → j ≤ k → s < 2 ^ 2 ^ j → s < 2 ^ 2 ^ k
fits_above j k s within fits =
    let levels : k - j + j ≡ k = omega (arith, within) in
    subst (λ (n : ℕ). s < 2 ^ 2 ^ n) levels (level-lt (k - j) j s fits)

-- a product at a level m by an element of a level is, in the bits of a level between, the product at that level
product_in_level : (j k m s x : ℕ) → j ≤ k → k ≤ m → s < 2 ^ 2 ^ j → tower_mul m s x % 2 ^ 2 ^ k ≡ tower_mul k s x
product_in_level j k m s x within few fits =
    sym (chunk-first (2 ^ k) (tower_mul m s x))
    ∙ scales_coefficients m k (2 ^ (m - k)) refl few 0 s x (pow_pos (m - k)) (fits_above j k s within fits)
    ∙ ap (tower_mul k s) (chunk-first (2 ^ k) x)
    ∙ times-mod (2 ^ k) 1 (tower_mul k) (tower_ring k) s x

-- the bits of a level are among those of a word
low_bits : (k bits x : ℕ) → 2 ^ k ≤ bits → x % 2 ^ bits % 2 ^ 2 ^ k ≡ x % 2 ^ 2 ^ k
low_bits k bits x room =
    let parts : bits ≡ bits - 2 ^ k + 2 ^ k = omega (arith, room) in
    ap (λ (n : ℕ). x % 2 ^ n % 2 ^ 2 ^ k) parts ∙ mod-mod-pow x (bits - 2 ^ k) (2 ^ k)

-- a product at the level has no more bits
pub whole_product : (k s t x product : ℕ) → product ≡ tower_mul k t x → t ≡ s → product % 2 ^ 2 ^ k ≡ tower_mul k s x
whole_product k s t x product is same =
    ap (λ (y : ℕ). y % 2 ^ 2 ^ k) is ∙ mod-eq_of_lt ((tower_ring k).below t x) ∙ ap (λ (y : ℕ). tower_mul k y x) same

-- a sum with a product, in the bits of the level
pub multiple_in_level : (k s x y product sum : ℕ) → sum ≡ bit_xor x product → product % 2 ^ 2 ^ k ≡ tower_mul k s y
    → sum % 2 ^ 2 ^ k ≡ add_multiple (tower_mul k) s (x % 2 ^ 2 ^ k) (y % 2 ^ 2 ^ k)
multiple_in_level k s x y product sum is product_is =
    ap (λ (z : ℕ). z % 2 ^ 2 ^ k) is ∙ xor_mod x product (2 ^ k)
    ∙ ap (bit_xor (x % 2 ^ 2 ^ k)) (product_is ∙ sym (times-mod (2 ^ k) 1 (tower_mul k) (tower_ring k) s y))

-- a sum of numbers, in the bits of the level
pub sum_in_level : (k x y sum : ℕ) → sum ≡ bit_xor x y → sum % 2 ^ 2 ^ k ≡ bit_xor (x % 2 ^ 2 ^ k) (y % 2 ^ 2 ^ k)
sum_in_level k x y sum is = ap (λ (z : ℕ). z % 2 ^ 2 ^ k) is ∙ xor_mod x y (2 ^ k)

-- the butterfly of a pair by its numbers
pub same_pair : (inverse : Bool) (times : ℕ → ℕ → ℕ) (s a b c d a' b' c' d' : ℕ) → a ≡ a' → b ≡ b' → c ≡ c' → d ≡ d'
    → TakesBlock inverse times s 1 (slice_index (a ∷ b ∷ [])) (slice_index (c ∷ d ∷ []))
    → TakesBlock inverse times s 1 (slice_index (a' ∷ b' ∷ [])) (slice_index (c' ∷ d' ∷ []))
same_pair inverse times s a b c d a' b' c' d' first second third fourth holds =
    subst (λ (v : ℕ). TakesBlock inverse times s 1 (slice_index (a' ∷ b' ∷ [])) (slice_index (c' ∷ v ∷ []))) fourth
    (subst (λ (v : ℕ). TakesBlock inverse times s 1 (slice_index (a' ∷ b' ∷ [])) (slice_index (v ∷ d ∷ []))) third
    (subst (λ (v : ℕ). TakesBlock inverse times s 1 (slice_index (a' ∷ v ∷ [])) (slice_index (c ∷ d ∷ []))) second
    (subst (λ (v : ℕ). TakesBlock inverse times s 1 (slice_index (v ∷ b ∷ [])) (slice_index (c ∷ d ∷ []))) first holds)))

-- so the butterfly of two numbers at the level m is, in the bits of a level between, that of the level
butterfly_in_level : (j k m s a b c d : ℕ) → j ≤ k → k ≤ m → s < 2 ^ 2 ^ j
    → IsButterfly (tower_mul m) s 1 (slice_index (a ∷ b ∷ [])) (slice_index (c ∷ d ∷ []))
    → IsButterfly (tower_mul k) s 1 (slice_index (a % 2 ^ 2 ^ k ∷ b % 2 ^ 2 ^ k ∷ [])) (slice_index (c % 2 ^ 2 ^ k ∷ d % 2 ^ 2 ^ k ∷ []))
butterfly_in_level j k m s a b c d within few fits is =
    pair_on (tower_mul k) s (a % 2 ^ 2 ^ k) (b % 2 ^ 2 ^ k) (c % 2 ^ 2 ^ k) (d % 2 ^ 2 ^ k) false refl
    (multiple_in_level k s a b (tower_mul m s b) c (is.lower 0 (lit< tt)) (product_in_level j k m s b within few fits))
    (sum_in_level k b c d (is.upper 0 (lit< tt)))

-- whichever way it goes
pub taken_in_level : (inverse : Bool) (j k m s a b c d : ℕ) → j ≤ k → k ≤ m → s < 2 ^ 2 ^ j
    → TakesBlock inverse (tower_mul m) s 1 (slice_index (a ∷ b ∷ [])) (slice_index (c ∷ d ∷ []))
    → TakesBlock inverse (tower_mul k) s 1 (slice_index (a % 2 ^ 2 ^ k ∷ b % 2 ^ 2 ^ k ∷ []))
    (slice_index (c % 2 ^ 2 ^ k ∷ d % 2 ^ 2 ^ k ∷ []))
taken_in_level false j k m s a b c d within few fits on = butterfly_in_level j k m s a b c d within few fits on
taken_in_level true j k m s a b c d within few fits back = butterfly_in_level j k m s c d a b within few fits back

-- and in words of some more bits
pub pair_in_level : (inverse : Bool) (j k bits s a b c d a' b' c' d' : ℕ) → j ≤ k → k ≤ 7 → 2 ^ k ≤ bits → s < 2 ^ 2 ^ j
    → a' ≡ a → b' ≡ b → c' ≡ c % 2 ^ bits → d' ≡ d % 2 ^ bits
    → TakesBlock inverse (tower_mul 7) s 1 (slice_index (a' ∷ b' ∷ [])) (slice_index (c ∷ d ∷ []))
    → TakesBlock inverse (tower_mul k) s 1 (slice_index (a % 2 ^ 2 ^ k ∷ b % 2 ^ 2 ^ k ∷ []))
    (slice_index (c' % 2 ^ 2 ^ k ∷ d' % 2 ^ 2 ^ k ∷ []))
pair_in_level inverse j k bits s a b c d a' b' c' d' within few room fits same_a same_b of_c of_d is =
    same_pair inverse (tower_mul k) s (a' % 2 ^ 2 ^ k) (b' % 2 ^ 2 ^ k) (c % 2 ^ 2 ^ k) (d % 2 ^ 2 ^ k) (a % 2 ^ 2 ^ k) (b % 2 ^ 2 ^ k)
    (c' % 2 ^ 2 ^ k) (d' % 2 ^ 2 ^ k) (ap (λ (y : ℕ). y % 2 ^ 2 ^ k) same_a) (ap (λ (y : ℕ). y % 2 ^ 2 ^ k) same_b)
    (sym (ap (λ (y : ℕ). y % 2 ^ 2 ^ k) of_c ∙ low_bits k bits c room)) (sym (ap (λ (y : ℕ). y % 2 ^ 2 ^ k) of_d ∙ low_bits k bits d room))
    (taken_in_level inverse j k 7 s a' b' c d within few fits is)

-- the butterfly of numbers that are those of words in the bits of a level above
pub place_taken : (inverse : Bool) (j k m s a b c d a' b' c' d' : ℕ) → j ≤ k → k ≤ m → s < 2 ^ 2 ^ j
    → a' ≡ a % 2 ^ 2 ^ m → b' ≡ b % 2 ^ 2 ^ m → c' ≡ c % 2 ^ 2 ^ m → d' ≡ d % 2 ^ 2 ^ m
    → TakesBlock inverse (tower_mul m) s 1 (slice_index (a' ∷ b' ∷ [])) (slice_index (c' ∷ d' ∷ []))
    → TakesBlock inverse (tower_mul k) s 1 (slice_index (a % 2 ^ 2 ^ k ∷ b % 2 ^ 2 ^ k ∷ []))
    (slice_index (c % 2 ^ 2 ^ k ∷ d % 2 ^ 2 ^ k ∷ []))
place_taken inverse j k m s a b c d a' b' c' d' within few fits of_a of_b of_c of_d is =
    same_pair inverse (tower_mul k) s (a' % 2 ^ 2 ^ k) (b' % 2 ^ 2 ^ k) (c' % 2 ^ 2 ^ k) (d' % 2 ^ 2 ^ k) (a % 2 ^ 2 ^ k) (b % 2 ^ 2 ^ k)
    (c % 2 ^ 2 ^ k) (d % 2 ^ 2 ^ k) (low a a' of_a) (low b b' of_b) (low c c' of_c) (low d d' of_d)
    (taken_in_level inverse j k m s a' b' c' d' within few fits is)
  where
    low : (x x' : ℕ) → x' ≡ x % 2 ^ 2 ^ m → x' % 2 ^ 2 ^ k ≡ x % 2 ^ 2 ^ k
    low x x' is = ap (λ (y : ℕ). y % 2 ^ 2 ^ k) is ∙ low_bits k (2 ^ m) x (pow_mono few)
