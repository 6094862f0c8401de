-- Blocks of 16 bytes by their numbers and at their places: numbers tell blocks apart, and the blocks of a message its bytes.
use Rattle.std.proofs.Common.{◌≡◌, ℕ, zero, suc, ◌+◌, ◌-◌, ◌*◌, ◌/◌, ◌%◌, ◌^◌, ◌<◌, ◌≤◌, inl, inr, List, [], ◌∷◌, ◌++◌, length, drop, replicate, get_or, refl, sym, ap, ◌∙◌, arith, subst, lit<, length-append, length-drop}
use Rattle.std.specs.Prelude.{reverse}
use Rattle.std.specs.List.{All}
use Rattle.std.specs.Int.{byte_worth, from_be_bytes, from_le_bytes, sum_through, to_be_bytes, to_le_bytes, w128}
use Rattle.std.proofs.lemmas.Bool.{cases_lt}
use Rattle.std.proofs.lemmas.Grind.{same_number_lists}
use Rattle.std.proofs.lemmas.List.{get_or-reverse, get_or-take, get_or-drop, get_or_append_left, length-reverse, length-replicate, length-take-le, reverse-reverse}
use Rattle.std.proofs.lemmas.List.Elements.{All-append, All-drop, All-replicate, All-take}
use Rattle.std.proofs.Math.Nat.{mul-le-mul, suc-mul}
use Rattle.std.proofs.Math.Seq.{get_or-append_seam}
use Rattle.tags.specs.Blocks.{AreBytes, IsBlock, block, blocks_of, first_blocks}
use Rattle.tags.proofs.BlockBytes.{from_be-to_be, from_le-lt, from_reversed, sum-lt}

-- ---- numbers of bytes

-- a lower part below M, and a higher one times M, are determined by their sum
module _ (M : ℕ) where
  higher_is_larger : (p q x y : ℕ) → p < M → p + x * M ≡ q + y * M → x < y → ⊥
  higher_is_larger p q x y fits same less =
      let above : suc x ≤ y = omega (arith, less) in
      let equal : M ≤ M = omega arith in
      let more : suc x * M ≤ y * M = mul-le-mul above equal in
      let next : suc x * M ≡ x * M + M = suc-mul x M in
      omega (arith, fits, same, more, next)

  same_higher : (p q x y : ℕ) → p < M → q < M → p + x * M ≡ q + y * M → x ≡ y
  same_higher p q x y p_fits q_fits same =
      elim (cases_lt x y) [
        | inl less ↦ absurd (higher_is_larger p q x y p_fits same less)
        | inr least ↦ elim (cases_lt y x) [
          | inl more ↦ absurd (higher_is_larger q p y x q_fits (sym same) more)
          | inr most ↦ omega (arith, least, most)
        ]
      ]

-- the bytes of a number are determined by it
same_bytes : (f g : ℕ → ℕ) (k : ℕ) → ((i : ℕ) → i < suc k → f i < 256) → ((i : ℕ) → i < suc k → g i < 256)
    → sum_through (λ i. byte_worth i (f i)) k ≡ sum_through (λ i. byte_worth i (g i)) k → (i : ℕ) → i < suc k → f i ≡ g i
same_bytes f g zero f_below g_below same zero within = same
same_bytes f g zero f_below g_below same (suc i) within = absurd (omega (arith, within))
same_bytes f g (suc k) f_below g_below same i within =
    let M : ℕ = 256 ^ suc k in
    let p : ℕ = sum_through (λ i. byte_worth i (f i)) k in
    let q : ℕ = sum_through (λ i. byte_worth i (g i)) k in
    let f_less : (i : ℕ) → i < suc k → f i < 256 = λ i below. f_below i (omega (arith, below)) in
    let g_less : (i : ℕ) → i < suc k → g i < 256 = λ i below. g_below i (omega (arith, below)) in
    let joined : p + f (suc k) * M ≡ q + g (suc k) * M = same in
    let top : f (suc k) ≡ g (suc k) =
    same_higher M p q (f (suc k)) (g (suc k)) (sum-lt f k f_less) (sum-lt g k g_less) joined in
    let scaled : f (suc k) * M ≡ g (suc k) * M = ap (λ (z : ℕ). z * M) top in
    let rest : p ≡ q = omega (arith, joined, scaled) in
    elim (cases_lt i (suc k)) [
      | inl less ↦ same_bytes f g k f_less g_less rest i less
      | inr past ↦ let at : suc k ≡ i = omega (arith, past, within) in subst (λ (j : ℕ). f j ≡ g j) at top
    ]

bytes_below : (b : List ℕ) → IsBlock b → (i : ℕ) → i < 16 → get_or b i 0 < 256
bytes_below b is i within = is.1 i 0 (subst (λ (n : ℕ). i < n) (sym is.0) within)

-- blocks of one number are one, the bytes lowest first
pub from_le-injective : (b c : List ℕ) → IsBlock b → IsBlock c → from_le_bytes w128 b ≡ from_le_bytes w128 c → b ≡ c
from_le-injective b c of_b of_c same =
    same_number_lists b c (of_b.0 ∙ sym of_c.0)
    (λ k within.
    same_bytes (λ i. get_or b i 0) (λ i. get_or c i 0) 15 (bytes_below b of_b) (bytes_below c of_c) same k (omega (arith, of_b.0, within)))

-- a block with its bytes reversed
reversed_block : (b : List ℕ) → IsBlock b → IsBlock (reverse b)
reversed_block b is = (length-reverse b ∙ is.0, all)
  where
    all : AreBytes (reverse b)
    all k d within =
        subst (λ (z : ℕ). z < 256) (sym (get_or-reverse b k d (omega (arith, within, length-reverse b))))
        (is.1 (length b - 1 - k) d (omega (arith, within, length-reverse b)))

turned_number : (b : List ℕ) → length b ≡ 16 → from_le_bytes w128 (reverse b) ≡ from_be_bytes w128 b
turned_number b whole = sym (from_reversed (reverse b) (length-reverse b ∙ whole)) ∙ ap (from_be_bytes w128) (reverse-reverse b)

-- a number of 128 bits from its bytes, the lowest first
pub from_le-to_le : (n : ℕ) → n < 2 ^ 128 → from_le_bytes w128 (to_le_bytes w128 n) ≡ n
from_le-to_le n fits = turned_number (to_be_bytes w128 n) refl ∙ from_be-to_be n fits

-- and highest first
pub from_be-injective : (b c : List ℕ) → IsBlock b → IsBlock c → from_be_bytes w128 b ≡ from_be_bytes w128 c → b ≡ c
from_be-injective b c of_b of_c same =
    sym (reverse-reverse b)
    ∙ ap reverse
    (from_le-injective (reverse b) (reverse c) (reversed_block b of_b) (reversed_block c of_c)
    (turned_number b of_b.0 ∙ same ∙ sym (turned_number c of_c.0)))
    ∙ reverse-reverse c

pub from_be-lt : (b : List ℕ) → IsBlock b → from_be_bytes w128 b < 2 ^ 128
from_be-lt b is = subst (λ (z : ℕ). z < 2 ^ 128) (turned_number b is.0) (from_le-lt (reverse b) (reversed_block b is))

-- ---- the blocks of a message

pub length-first_blocks : (n : ℕ) (m : List ℕ) → length (first_blocks n m) ≡ n
unfolding first_blocks
length-first_blocks zero m = refl
length-first_blocks (suc n) m =
    let rest : length (first_blocks n m) ≡ n = length-first_blocks n m in
    omega (arith, length-append (first_blocks n m) (block m n ∷ []), rest)

block_at : (m : List ℕ) (n i : ℕ) → i < n → get_or (first_blocks n m) i [] ≡ block m i
unfolding first_blocks
block_at m zero i within = absurd (omega (arith, within))
block_at m (suc n) i within =
    let count : length (first_blocks n m) ≡ n = length-first_blocks n m in
    elim (cases_lt i n) [
      | inl less ↦ get_or_append_left (first_blocks n m) (block m n ∷ []) [] i (omega (arith, less, count)) ∙ block_at m n i less
      | inr past ↦ ap (λ (k : ℕ). get_or (first_blocks n m ++ block m n ∷ []) k []) (omega (arith, past, within, count))
          ∙ get_or-append_seam (first_blocks n m) (block m n) [] []
          ∙ ap (block m) (omega (arith, past, within))
    ]

byte_at_place : (m : List ℕ) (i r : ℕ) → r < 16 → i * 16 + r < length m → get_or (block m i) r 0 ≡ get_or m (i * 16 + r) 0
byte_at_place m i r within inside =
    get_or-take 16 (drop (i * 16) m ++ replicate 16 0) r 0 within
    ∙ get_or_append_left (drop (i * 16) m) (replicate 16 0) 0 r (omega (arith, length-drop (i * 16) m, inside))
    ∙ get_or-drop (i * 16) m r 0

place : (m : List ℕ) (k : ℕ) → k < length m → get_or (get_or (blocks_of m) (k / 16) []) (k % 16) 0 ≡ get_or m k 0
place m k within =
    let apart : k / 16 * 16 + k % 16 ≡ k = omega arith in
    ap (λ (b : List ℕ). get_or b (k % 16) 0) (block_at m ((length m + 15) / 16) (k / 16) (omega (arith, within)))
    ∙ byte_at_place m (k / 16) (k % 16) (omega arith) (omega (arith, within, apart))
    ∙ ap (λ (z : ℕ). get_or m z 0) apart

-- messages of one length with the same blocks are one
pub blocks_of-injective : (m p : List ℕ) → length m ≡ length p → blocks_of m ≡ blocks_of p → m ≡ p
blocks_of-injective m p same_length same =
    same_number_lists m p same_length
    (λ k within.
    sym (place m k within)
    ∙ ap (λ (bs : List (List ℕ)). get_or (get_or bs (k / 16) []) (k % 16) 0) same
    ∙ place p k (omega (arith, within, same_length)))

block_is : (m : List ℕ) → AreBytes m → (i : ℕ) → IsBlock (block m i)
block_is m bytes i =
    let xs : List ℕ = drop (i * 16) m in
    let enough : 16 ≤ length (xs ++ replicate 16 0) = omega (arith, length-append xs (replicate 16 0), length-replicate {A = ℕ} 16 0) in (
      length-take-le 16 (xs ++ replicate 16 0) enough,
      All-take (λ byte. byte < 256) 16 (xs ++ replicate 16 0)
          (All-append (λ byte. byte < 256) xs (replicate 16 0) (All-drop (λ byte. byte < 256) (i * 16) m bytes)
          (All-replicate (λ byte. byte < 256) 16 0 (lit< tt))),
    )

pub single : (b : List ℕ) → IsBlock b → All IsBlock (b ∷ [])
single b is zero d within = is
single b is (suc k) d within = absurd (omega (arith, within))

pub first_blocks_are : (n : ℕ) (m : List ℕ) → AreBytes m → All IsBlock (first_blocks n m)
unfolding first_blocks
first_blocks_are zero m bytes k d within = absurd (omega (arith, within))
first_blocks_are (suc n) m bytes k d within =
    All-append IsBlock (first_blocks n m) (block m n ∷ []) (first_blocks_are n m bytes) (single (block m n) (block_is m bytes n)) k d within
