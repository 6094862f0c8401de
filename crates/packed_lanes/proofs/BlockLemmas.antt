-- Interleaved words make interleaved blocks of words, whether a block of lanes lies in a word or takes several.
use Rattle.std.proofs.Common.{◌≡◌, ◌≢◌, ℕ, ◌+◌, ◌*◌, ◌/◌, ◌%◌, ◌^◌, ◌<◌, ◌≤◌, ◌-◌, suc, true, List, get_or, refl, sym, ap, ◌∙◌, lit<, arith, subst, inl, inr, ◌⊎◌}
use Rattle.std.specs.Int.{bit_at}
use Rattle.std.proofs.lemmas.Bool.{cases_eq, cases_lt}
use Rattle.std.proofs.lemmas.Nat.{div-add-mod', div-mul-add, div_below, mod-pow-add, mul-le, ones-le, ones_cat, pow-add, pow_pos}
use Rattle.std.proofs.Math.Nat.{add-mul, mul-add, mul_assoc, mul_comm, add-mul-div_right, add-mul-mod_self_right, div-div-eq-div-mul}
use Rattle.std.proofs.Math.Pow.{pow_mono}
use Rattle.std.specs.Prelude.{count_ones}
use lib.Count.{ones}
use native.Mathlib.Nat.{mod-lt}
use Rattle.packed_lanes.specs.lemmas.Joined.{joined-part, whole-below}
use Rattle.field_base.specs.Chunks.{chunk, joined}
use Rattle.packed_lanes.specs.Parts.{HasEvenBlocks, HasFirstBlocks, HasSecondBlocks, IsBlockSize, IsWithPart, is_whole}
use Rattle.packed_lanes.proofs.BlockPlaces.{odd_is_above}
use Rattle.packed_lanes.proofs.LaneLemmas.{lane-part, power_some}
use Rattle.field_base.proofs.BasisSums.{bit_at-mod}

-- a number below b + 1 other than b is below b
below_it : (a b : ℕ) → a < b + 1 → a ≢ b → a < b
below_it a b h other = grind arith

-- what holds of each word below i, and of word i, holds of each below i + 1
pub more_parts : (P : ℕ → ℕ → Type 0) (w count n i v r : ℕ) → i < count → IsWithPart w count n i v r → P i v
    → ((k : ℕ) → k < i → P k (chunk w k n)) → (k : ℕ) → k < i + 1 → P k (chunk w k r)
more_parts P w count n i v r inside written here below k less = cases (cases_eq k i)
  where
    cases : (k ≡ i) ⊎ (k ≢ i) → P k (chunk w k r)
    cases (inl is) = subst (λ (x : ℕ). P x (chunk w x r)) (sym is) (subst (P i) (sym written.0) here)
    cases (inr other) = subst (P k) (sym (written.1 k (omega arith) other)) (below k (below_it k i less other))

-- a place is its word times the width, plus its place there
pub place-split : (w j : ℕ) → w * (j / w) + j % w ≡ j
place-split w j = let whole = div-add-mod' j w in let turned = mul_comm w (j / w) in omega arith

-- 2 ^ (k + 1) = 2 * 2 ^ k
pow-suc-left : (k : ℕ) → 2 ^ suc k ≡ 2 * 2 ^ k
pow-suc-left k = let next : suc k ≡ 1 + k = omega arith in ap (λ (x : ℕ). 2 ^ x) next ∙ pow-add 2 1 k

-- for k < a, 2 ^ (k + 1) divides 2 ^ a
pub double_divides : (k a : ℕ) → k < a → 2 ^ a ≡ 2 ^ (a - suc k) * (2 * 2 ^ k)
double_divides k a less =
    let places : a - suc k + suc k ≡ a = omega arith in
    ap (λ (x : ℕ). 2 ^ x) (sym places) ∙ pow-add 2 (a - suc k) (suc k) ∙ ap (λ (x : ℕ). 2 ^ (a - suc k) * x) (pow-suc-left k)

-- of an even block the next one fits too
pub even_has_room : (w q block r : ℕ) → 0 < block → w ≡ q * (2 * block) → r < w → r / block % 2 ≡ 0 → r + block < w
even_has_room w q block r some is less even =
    let whole = div-add-mod' r block in
    let inside : r % block < block = mod-lt r some in
    let halves = div-add-mod' (r / block) 2 in
    let number : r / block ≡ r / block / 2 * 2 = omega arith in
    let product : r / block * block ≡ r / block / 2 * (2 * block) = ap (λ (x : ℕ). x * block) number ∙ mul_assoc (r / block / 2) 2 block in
    let pair : r / block / 2 < q = pairs_below (r / block / 2) q (2 * block) r (omega arith) (omega arith) in
    let next = mul-le (r / block / 2 + 1) (2 * block) q (2 * block) (omega arith) (omega arith) in
    let spread = add-mul (r / block / 2) 1 (2 * block) in
    omega arith
  where
    pairs_below : (m n d x : ℕ) → m * d ≤ x → x < n * d → m < n
    pairs_below m n d x low high = cases (cases_lt m n)
      where
        cases : (m < n) ⊎ (n ≤ m) → m < n
        cases (inl h) = h
        cases (inr h) = let more = mul-le n d m d h (omega arith) in absurd (omega arith)

-- the parity of a block is that in its word
parity_inside : (w q block k r : ℕ) → 0 < block → w ≡ q * (2 * block) → (w * k + r) / block % 2 ≡ r / block % 2
parity_inside w q block k r some is =
    ap (λ (x : ℕ). x / block % 2) (ap (λ (x : ℕ). x * k + r) is ∙ place)
    ∙ ap (λ (x : ℕ). x % 2) (add-mul-div_right r (q * k * 2) {z = block} some)
    ∙ add-mul-mod_self_right (r / block) (q * k) 2
  where
    place : q * (2 * block) * k + r ≡ r + q * k * 2 * block
    place = grind arith

-- bit j of a number is bit r of its word k, where j = w k + r
pub lanes_of : (w x k r j : ℕ) → r < w → w * k + r ≡ j → bit_at x j ≡ bit_at (chunk w k x) r
lanes_of w x k r j less is = ap (bit_at x) (sym is) ∙ sym (lane-part w x k r less)

-- ---- what a block size says

-- a block is not empty
pub block_some : (width block : ℕ) → IsBlockSize width block → 0 < block
block_some width block size = power_some size.0 block size.1

-- a smaller power of two has a smaller exponent
lower_power : (k a : ℕ) → 2 ^ k < 2 ^ a → k < a
lower_power k a less = cases (cases_lt k a)
  where
    cases : (k < a) ⊎ (a ≤ k) → k < a
    cases (inl h) = h
    cases (inr h) = let more : 2 ^ a ≤ 2 ^ k = pow_mono {i = a} {j = k} h in absurd (omega arith)

-- a pair of blocks divides a width that is a power of two
pub block_divides : (width log block : ℕ) → width ≡ 2 ^ log → IsBlockSize width block → (q : ℕ) × (width ≡ q * (2 * block))
block_divides width log block power size =
    let below : 2 ^ size.0 < 2 ^ log = subst (λ (x : ℕ). 2 ^ size.0 < x) power (subst (λ (x : ℕ). x < width) size.1 size.2) in (
      2 ^ (log - suc size.0),
      power ∙ double_divides size.0 log (lower_power size.0 log below) ∙ ap (λ (x : ℕ). 2 ^ (log - suc size.0) * (2 * x)) (sym size.1),
    )

-- a difference and what was taken
same_place : (k m : ℕ) → m ≤ k → k - m + m ≡ k
same_place k m more = omega arith

-- what holds of each place of each word holds of each place
by_word : (w count width : ℕ) (P : ℕ → Type 0) → 0 < w → width ≡ w * count → ((k r : ℕ) → k < count → r < w → P (w * k + r))
    → (j : ℕ) → j < width → P j
by_word w count width P wide is each j less =
    let part : j / w < count = div_below j w count wide (subst (λ (n : ℕ). j < n) (is ∙ mul_comm w count) less) in
    subst P (place-split w j) (each (j / w) (j % w) part (mod-lt j wide))

-- bits of two numbers are alike if they are so in the words where they stand
carried : (w x y k l r s i j : ℕ) → r < w → s < w → w * k + r ≡ i → w * l + s ≡ j → bit_at (chunk w k x) r ≡ bit_at (chunk w l y) s
    → bit_at x i ≡ bit_at y j
carried w x y k l r s i j inside there from to same = lanes_of w x k r i inside from ∙ same ∙ sym (lanes_of w y l s j there to)

-- blocks that lie in words
module _ (w log block count left right x : ℕ) (power : w ≡ 2 ^ log) (size : IsBlockSize w block) where
  -- the block is not empty
  some_block : 0 < block
  some_block = block_some w block size

  -- a pair of blocks divides a word
  divides : (q : ℕ) × (w ≡ q * (2 * block))
  divides = block_divides w log block power size

  -- the parity of a block is that of the block in its word
  parity : (k r : ℕ) → (w * k + r) / block % 2 ≡ r / block % 2
  parity k r = parity_inside w divides.0 block k r some_block divides.1

  -- if each word is the first result of interleaving both words in its place, the row is the first result for the rows
  pub first_in_words : ((k : ℕ) → k < count → HasFirstBlocks w block (chunk w k left) (chunk w k right) (chunk w k x))
      → HasFirstBlocks (w * count) block left right x
  first_in_words each = by_word w count (w * count) _ (power_some log w power) refl (λ k r part inside. (
    λ even. carried w x left k k r r _ _ inside inside refl refl ((each k part r inside).0 (sym (parity k r) ∙ even)),
    λ odd.
        let above = odd_is_above block r some_block (sym (parity k r) ∙ odd) in
        carried w x right k k r (r - block) _ _ inside (omega arith) refl (omega arith) ((each k part r inside).1 (sym (parity k r) ∙ odd)),
  ))

  -- if each word is the second result of interleaving both words in its place, the row is the second result for the rows
  pub second_in_words : ((k : ℕ) → k < count → HasSecondBlocks w block (chunk w k left) (chunk w k right) (chunk w k x))
      → HasSecondBlocks (w * count) block left right x
  second_in_words each = by_word w count (w * count) _ (power_some log w power) refl (λ k r part inside. (
    λ even.
        let room = even_has_room w divides.0 block r some_block divides.1 inside (sym (parity k r) ∙ even) in
        carried w x left k k r (r + block) _ _ inside room refl (omega arith) ((each k part r inside).0 (sym (parity k r) ∙ even)),
    λ odd. carried w x right k k r r _ _ inside inside refl refl ((each k part r inside).1 (sym (parity k r) ∙ odd)),
  ))

-- blocks of words
module _ (w m count width left right x : ℕ) (wide : 0 < w) (some : 0 < m) (is : width ≡ w * count) where
  -- a bit lies in an even block of m words where its word does
  block_of : (k r : ℕ) → r < w → (w * k + r) / (w * m) % 2 ≡ k / m % 2
  block_of k r inside =
      ap (λ (n : ℕ). n % 2) (sym (div-div-eq-div-mul (w * k + r) w m))
      ∙ ap (λ (n : ℕ). n / m % 2) (ap (λ (n : ℕ). (n + r) / w) (mul_comm w k) ∙ div-mul-add k w r inside)

  -- words moved as the first result moves blocks of m words make the first result by blocks of w m bits
  pub first_of_words : ((k : ℕ) → k < count → (k / m % 2 ≡ 0 → chunk w k x ≡ chunk w k left) × (k / m % 2 ≡ 1 → chunk w k x ≡ chunk w (k - m) right))
      → HasFirstBlocks width (w * m) left right x
  first_of_words each = by_word w count width _ wide is (λ k r part inside. (
    λ even. carried w x left k k r r _ _ inside inside refl refl (ap (λ (n : ℕ). bit_at n r) ((each k part).0 (sym (block_of k r inside) ∙ even))),
    λ odd.
        let is_odd = sym (block_of k r inside) ∙ odd in
        let above = odd_is_above m k some is_odd in
        let before = mul-add w (k - m) m in
        let whole : w * (k - m + m) ≡ w * k = ap (λ (n : ℕ). w * n) (same_place k m above) in
        carried w x right k (k - m) r r _ _ inside inside refl (omega arith) (ap (λ (n : ℕ). bit_at n r) ((each k part).1 is_odd)),
  ))

  -- words moved as the second result moves blocks of m words make the second result by blocks of w m bits
  pub second_of_words : ((k : ℕ) → k < count → (k / m % 2 ≡ 0 → chunk w k x ≡ chunk w (k + m) left) × (k / m % 2 ≡ 1 → chunk w k x ≡ chunk w k right))
      → HasSecondBlocks width (w * m) left right x
  second_of_words each = by_word w count width _ wide is (λ k r part inside. (
    λ even.
        let after = mul-add w k m in
        carried w x left k (k + m) r r _ _ inside inside refl (omega arith) (ap (λ (n : ℕ). bit_at n r) ((each k part).0 (sym (block_of k r inside) ∙ even))),
    λ odd. carried w x right k k r r _ _ inside inside refl refl (ap (λ (n : ℕ). bit_at n r) ((each k part).1 (sym (block_of k r inside) ∙ odd))),
  ))

-- ---- words of blocks, and their room

-- the low w bits of a mask of even blocks are such a mask
pub even_in_word : (w block n m : ℕ) → w ≤ 64 → HasEvenBlocks 64 block n → m ≡ n % 2 ^ w → HasEvenBlocks w block m
even_in_word w block n m narrow even is j less = ap (λ (x : ℕ). bit_at x j) is ∙ bit_at-mod n w j less ∙ even j (omega arith)

-- after a word of an even block there is one a block further
pub room_for_words : (count log block i : ℕ) → count ≡ 2 ^ log → IsBlockSize count block → i < count → i / block % 2 ≡ 0 → i + block < count
room_for_words count log block i power size less even =
    let divides = block_divides count log block power size in
    even_has_room count divides.0 block i (block_some count block size) divides.1 less even

-- ---- the set bits of a number by its parts

-- no bit of no word is set
pub ones_none : (w n : ℕ) → 0 ≡ count_ones (n % 2 ^ (w * 0))
unfolding ones
ones_none w n =
    let none : w * 0 ≡ 0 = omega arith in
    let left : n % 1 < 1 = mod-lt n (lit< tt) in
    let nothing : n % 1 ≡ 0 = omega arith in
    ap count_ones (sym nothing) ∙ ap (λ (x : ℕ). count_ones (n % 2 ^ x)) (sym none)

-- the set bits of i + 1 words are those of word i and those of the first i words
pub ones_more : (w n i : ℕ) → count_ones (n % 2 ^ (w * (i + 1))) ≡ count_ones (chunk w i n) + count_ones (n % 2 ^ (w * i))
ones_more w n i =
    let places : w * (i + 1) ≡ w + w * i = omega arith in
    ap (λ (x : ℕ). count_ones (n % 2 ^ x)) places ∙ ap count_ones (mod-pow-add n w (w * i))
    ∙ ones_cat (w * i) (chunk w i n) (n % 2 ^ (w * i)) (mod-lt n (pow_pos (w * i)))

-- there are at most as many set bits as bits
pub ones_fit : (w n i : ℕ) → count_ones (n % 2 ^ (w * (i + 1))) ≤ w * (i + 1)
ones_fit w n i = ones-le (w * (i + 1)) (n % 2 ^ (w * (i + 1))) (mod-lt n (pow_pos (w * (i + 1))))

-- the words up to word i lie among the words of the row
pub places_up : (w i count : ℕ) → i < count → w * (i + 1) ≤ w * count
places_up w i count less = mul-le w (i + 1) w count (omega arith) (omega arith)

-- ---- the words of blocks are the parts of their numbers

-- what relates the words of three whole lists relates the digits of their numbers
pub of_joined : (H : ℕ → ℕ → ℕ → Type 0) (count : ℕ) (left right x : List ℕ)
    → is_whole 64 count left ≡ true → is_whole 64 count right ≡ true → is_whole 64 count x ≡ true
    → ((k : ℕ) → k < count → H (get_or left k 0) (get_or right k 0) (get_or x k 0))
    → (k : ℕ) → k < count → H (chunk 64 k (joined 64 left)) (chunk 64 k (joined 64 right)) (chunk 64 k (joined 64 x))
of_joined H count left right x l r w each k less =
    subst (λ (z : ℕ). H (chunk 64 k (joined 64 left)) (chunk 64 k (joined 64 right)) z) (part x w)
    (subst (λ (z : ℕ). H (chunk 64 k (joined 64 left)) z (get_or x k 0)) (part right r)
    (subst (λ (z : ℕ). H z (get_or right k 0) (get_or x k 0)) (part left l) (each k less)))
  where
    part : (words : List ℕ) → is_whole 64 count words ≡ true → get_or words k 0 ≡ chunk 64 k (joined 64 words)
    part words whole = sym (joined-part 64 words (whole-below 64 count words whole) k)
