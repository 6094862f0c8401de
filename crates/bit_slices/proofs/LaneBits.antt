-- What an operator on vectors of words does to their bits.
use Rattle.std.proofs.Common.{◌≡◌, ℕ, zero, suc, ◌*◌, ◌/◌, ◌%◌, ◌^◌, ◌<◌, ◌≢◌, List, [], ◌∷◌, length, map, refl, sym, ◌∙◌, ap, arith}
use Rattle.std.specs.Prelude.{bit_and, bit_xor, slice_index}
use Rattle.std.specs.Simd.Lanes.{zip2}
use Rattle.std.specs.Int.{bit_at}
use Rattle.std.proofs.lemmas.List.{length-map}
use Rattle.std.proofs.lemmas.Nat.{and_shr, and_mod, xor_shr, xor_mod}
use Rattle.std.proofs.lemmas.Simd.{length-zip2}
use Rattle.field_base.specs.Tower.{root, tower_mul}
use Rattle.field_base.specs.lemmas.BitRing.{bit_and-bits, root_zero-times, bit_times_itself, two_cases}
use Rattle.packed_lanes.specs.Parts.{HasEvenBlocks, HasFirstBlocks, HasSecondBlocks, difference}
use Rattle.packed_lanes.proofs.LaneLemmas.{first_blocks, second_blocks}
use Rattle.bit_slices.specs.Lanes.{bit_lane}
use Rattle.bit_slices.specs.lemmas.Lane.{bit_lane-lt}

-- place by place
place_of : (f : ℕ → ℕ → ℕ) → f 0 0 ≡ 0 → (x y : List ℕ) (i : ℕ) → length x ≡ length y
    → slice_index (zip2 f x y) i ≡ f (slice_index x i) (slice_index y i)
place_of f none [] [] i long = sym none
place_of f none [] (b ∷ y) i long = absurd (omega (arith, long))
place_of f none (a ∷ x) [] i long = absurd (omega (arith, long))
place_of f none (a ∷ x) (b ∷ y) zero long = refl
place_of f none (a ∷ x) (b ∷ y) (suc i) long = place_of f none x y i (omega (arith, long))

place_of_one : (f : ℕ → ℕ) → f 0 ≡ 0 → (x : List ℕ) (i : ℕ) → slice_index (map f x) i ≡ f (slice_index x i)
place_of_one f none [] i = sym none
place_of_one f none (a ∷ x) zero = refl
place_of_one f none (a ∷ x) (suc i) = place_of_one f none x i

-- sums
pub bit_lane-xor : (x y : List ℕ) (l : ℕ) → length x ≡ length y → bit_lane (zip2 bit_xor x y) l ≡ bit_xor (bit_lane x l) (bit_lane y l)
bit_lane-xor x y l long =
    ap (λ (w : ℕ). bit_at w (l % 64)) (place_of bit_xor refl x y (l / 64) long)
    ∙ ap (λ (w : ℕ). w % 2) (xor_shr (slice_index x (l / 64)) (slice_index y (l / 64)) (l % 64))
    ∙ xor_mod (slice_index x (l / 64) / 2 ^ (l % 64)) (slice_index y (l / 64) / 2 ^ (l % 64)) 1

-- products
pub bit_lane-and : (x y : List ℕ) (l : ℕ) → length x ≡ length y → bit_lane (zip2 bit_and x y) l ≡ tower_mul 0 (bit_lane x l) (bit_lane y l)
unfolding tower_mul
bit_lane-and x y l long =
    ap (λ (w : ℕ). bit_at w (l % 64)) (place_of bit_and refl x y (l / 64) long)
    ∙ ap (λ (w : ℕ). w % 2) (and_shr (slice_index x (l / 64)) (slice_index y (l / 64)) (l % 64))
    ∙ and_mod (slice_index x (l / 64) / 2 ^ (l % 64)) (slice_index y (l / 64) / 2 ^ (l % 64)) 1
    ∙ bit_and-bits (bit_lane x l) (bit_lane-lt x l) (bit_lane y l) (bit_lane-lt y l)

-- the root of level 0 is the one
pub bit_lane-root : (x : List ℕ) (l : ℕ) → tower_mul 0 (root 0) (bit_lane x l) ≡ bit_lane x l
bit_lane-root x l = root_zero-times (bit_lane x l) (bit_lane-lt x l)

-- a bit is its square
bit_square : (d : ℕ) → d < 2 → d ≡ tower_mul 0 d d
unfolding tower_mul
bit_square = two_cases (λ d. d ≡ d % 2 * (d % 2)) refl refl

pub bit_lane-square : (x : List ℕ) (l : ℕ) → bit_lane x l ≡ tower_mul 0 (bit_lane x l) (bit_lane x l)
bit_lane-square x l = bit_square (bit_lane x l) (bit_lane-lt x l)

-- and its inverse
pub bit_lane-inverse : (x : List ℕ) (l : ℕ) → bit_lane x l ≢ 0 → tower_mul 0 (bit_lane x l) (bit_lane x l) ≡ 1
bit_lane-inverse x l = bit_times_itself (bit_lane x l) (bit_lane-lt x l)

-- ---- blocks of bits of each word, exchanged

-- where the blocks of two vectors differ, the odd ones of the first and the even ones of the second
abbrev pub changes : ℕ → ℕ → List ℕ → List ℕ → List ℕ
changes block even x y = map (λ a. bit_and a even) (zip2 bit_xor (map (λ a. a / 2 ^ block) x) y)

changes_at : (block even : ℕ) (x y : List ℕ) (n : ℕ) → length x ≡ length y
    → slice_index (changes block even x y) n ≡ difference block even (slice_index x n) (slice_index y n)
changes_at block even x y n long =
    place_of_one (λ a. bit_and a even) refl (zip2 bit_xor (map (λ a. a / 2 ^ block) x) y) n
    ∙ ap (λ (a : ℕ). bit_and a even)
    (place_of bit_xor refl (map (λ a. a / 2 ^ block) x) y n (length-map x (λ (a : ℕ). a / 2 ^ block) ∙ long)
    ∙ ap (λ (a : ℕ). bit_xor a (slice_index y n)) (place_of_one (λ a. a / 2 ^ block) (omega arith) x n))

changes_long : (block even : ℕ) (x y : List ℕ) → length x ≡ length y → length (changes block even x y) ≡ length x
changes_long block even x y long =
    length-map (zip2 bit_xor (map (λ a. a / 2 ^ block) x) y) (λ (a : ℕ). bit_and a even)
    ∙ length-zip2 bit_xor (map (λ a. a / 2 ^ block) x) y (length-map x (λ (a : ℕ). a / 2 ^ block) ∙ long)
    ∙ length-map x (λ (a : ℕ). a / 2 ^ block)

pub first_exchanged : (block even : ℕ) (x y : List ℕ) (n : ℕ) → length x ≡ length y → 0 < block → HasEvenBlocks 64 block even
    → HasFirstBlocks 64 block (slice_index x n) (slice_index y n)
    (slice_index (zip2 bit_xor x (map (λ a. a * 2 ^ block % 2 ^ 64) (changes block even x y))) n)
first_exchanged block even x y n long some is =
    rw (
      place_of bit_xor refl x (map (λ a. a * 2 ^ block % 2 ^ 64) (changes block even x y)) n
          (sym (length-map (changes block even x y) (λ (a : ℕ). a * 2 ^ block % 2 ^ 64) ∙ changes_long block even x y long)),
      place_of_one (λ a. a * 2 ^ block % 2 ^ 64) (omega arith) (changes block even x y) n,
      changes_at block even x y n long,
    )
    (first_blocks 64 block even (slice_index x n) (slice_index y n) some is)

pub second_exchanged : (block even : ℕ) (x y : List ℕ) (n : ℕ) → length x ≡ length y → HasEvenBlocks 64 block even
    → HasSecondBlocks 64 block (slice_index x n) (slice_index y n) (slice_index (zip2 bit_xor y (changes block even x y)) n)
second_exchanged block even x y n long is =
    rw (place_of bit_xor refl y (changes block even x y) n (sym (changes_long block even x y long ∙ long)), changes_at block even x y n long)
    (second_blocks 64 block even (slice_index x n) (slice_index y n) is)
