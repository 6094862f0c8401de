-- Horner's rule over interleaved sums, and over some blocks and then others.
use Rattle.std.proofs.Common.{◌≡◌, ℕ, zero, suc, ◌+◌, ◌*◌, ◌%◌, ◌^◌, ◌<◌, ◌≤◌, List, [], ◌∷◌, ◌++◌, length, take, drop, replicate, refl, sym, ◌∙◌, ap, ap₂, arith, length-drop}
use Rattle.std.specs.Prelude.{bit_xor, fold, map, get_or, slice_index_or, slice_set}
use Rattle.std.proofs.lemmas.List.{drop-drop, map-append, take-append-le, take_more}
use Rattle.std.proofs.lemmas.List.Sums.{fold-append}
use Rattle.tags.specs.Blocks.{block, first_blocks}
use Rattle.tags.specs.Powers.{ArePowers, added_block}
use Rattle.tags.specs.declared.blocks.Powers.{Powers}
use Rattle.tags.proofs.Absorbing.{first_blocks_next}
use Rattle.tags.proofs.AbsorbingBlocks.{blocks_alone}
use Rattle.tags.proofs.Folding.{hash_from, hash_from_none, hash_from_next}
use Rattle.tags.proofs.FourProducts.{four_steps}
use Rattle.std.specs.Simd.Lanes.{zip2}
use lib.Bits.{xor_assoc, xor_comm, xor_zero_r}
use native.Mathlib.Nat.{mod-eq_of_lt, suc-add, zero-add}
use Rattle.field_base.specs.Powers.{repeated_square}
use Rattle.field_base.proofs.RemainderRing.{ghash_ring}
use Rattle.field_base.proofs.RingLemmas.{sum_times, times-zero, xor_exchange}
use Rattle.ghash_slices.specs.LowStages.{ghash_product}
use Rattle.ghash_slices.specs.Stages.{add_multiple}
use Rattle.tags.specs.Reversed.{ghash_times}

module _ (key : ℕ) where
  -- a step of Horner's rule
  abbrev pub horner_step : ℕ → ℕ → ℕ
  horner_step y x = ghash_times (bit_xor y x) key

  -- a number times the key, n times
  abbrev pub times_key : ℕ → ℕ → ℕ
  times_key zero s = s
  times_key (suc n) s = times_key n (ghash_times s key)

  more : (y x : ℕ) → ghash_times (bit_xor y x) key ≡ bit_xor (ghash_times y key) (ghash_times x key)
  more y x = sum_times 128 1 ghash_times ghash_ring y x key

  -- the rule over a sum of lists, of which one is multiplied by a scalar
  pub combined : (c s t : ℕ) (xs ys : List ℕ) → length xs ≡ length ys
      → fold horner_step (bit_xor s (ghash_times c t)) (zip2 (add_multiple ghash_product c) xs ys)
      ≡ bit_xor (fold horner_step s xs) (ghash_times c (fold horner_step t ys))
  combined c s t [] [] same = refl
  combined c s t (x ∷ xs) (y ∷ ys) same =
      ap (λ (z : ℕ). fold horner_step z (zip2 (add_multiple ghash_product c) xs ys)) step
      ∙ combined c (horner_step s x) (horner_step t y) xs ys (omega (arith, same))
    where
      step : horner_step (bit_xor s (ghash_times c t)) (bit_xor x (ghash_times c y))
          ≡ bit_xor (horner_step s x) (ghash_times c (horner_step t y))
      step =
          ap (λ (z : ℕ). ghash_times z key) (xor_exchange s (ghash_times c t) x (ghash_times c y))
          ∙ ap (λ (z : ℕ). ghash_times (bit_xor (bit_xor s x) z) key) (sym (ghash_ring.over_sum c t y))
          ∙ more (bit_xor s x) (ghash_times c (bit_xor t y))
          ∙ ap (bit_xor (horner_step s x)) (ghash_ring.assoc c (bit_xor t y) key)
  combined c s t [] (y ∷ ys) same = omega (arith, same)
  combined c s t (x ∷ xs) [] same = omega (arith, same)

  -- what is added to the start is multiplied by the key as often as there are elements
  pub started : (s t : ℕ) (xs : List ℕ) → fold horner_step (bit_xor s t) xs ≡ bit_xor (fold horner_step s xs) (times_key (length xs) t)
  started s t [] = refl
  started s t (x ∷ xs) =
      ap (λ (z : ℕ). fold horner_step z xs)
      (ap (λ (z : ℕ). ghash_times z key)
      (xor_assoc s t x ∙ ap (bit_xor s) (xor_comm t x) ∙ sym (xor_assoc s x t))
      ∙ more (bit_xor s x) t)
      ∙ started (horner_step s x) (ghash_times t key) xs

  times_key-add : (m n s : ℕ) → times_key (m + n) s ≡ times_key n (times_key m s)
  times_key-add zero n s = ap (λ (k : ℕ). times_key k s) (zero-add n)
  times_key-add (suc m) n s =
      ap (λ (k : ℕ). times_key k s) (suc-add m n)
      ∙ times_key-add m n (ghash_times s key)

  -- 2 ^ n times the key is once its power
  pub times_key-power : (n s : ℕ) → times_key (2 ^ n) s ≡ ghash_times s (repeated_square 1 ghash_times n key)
  unfolding repeated_square
  times_key-power zero s =
      sym (reads_low s key)
      ∙ ap (ghash_times s) (sym (ghash_ring.one key))
    where
      reads_low : (a b : ℕ) → ghash_times a (b % 2 ^ 128) ≡ ghash_times a b
      reads_low a b = ap (ghash_times a) (sym (ghash_ring.one b)) ∙ sym (ghash_ring.assoc a 1 b) ∙ ap (λ (z : ℕ). ghash_times z b) (ghash_ring.comm a 1) ∙ ghash_ring.assoc 1 a b ∙ ghash_ring.one (ghash_times a b) ∙ mod-eq_of_lt (ghash_ring.below a b)
  times_key-power (suc n) s =
      let half : ℕ = repeated_square 1 ghash_times n key in
      ap (λ (k : ℕ). times_key k s) doubled
      ∙ times_key-add (2 ^ n) (2 ^ n) s
      ∙ times_key-power n (times_key (2 ^ n) s)
      ∙ ap (λ (z : ℕ). ghash_times z half) (times_key-power n s)
      ∙ ghash_ring.assoc s half half
    where
      doubled : 2 ^ suc n ≡ 2 ^ n + 2 ^ n
      doubled = omega arith

  -- A turn: where the rule over the sums gives h, it gives what h becomes by 32 elements more, over the sums that take one more each.
  pub turned : (h : ℕ) (sums elements : List ℕ) → length sums ≡ 32 → length elements ≡ 32 → fold horner_step 0 sums ≡ h
      → fold horner_step 0 (zip2 (add_multiple ghash_product (repeated_square 1 ghash_times 5 key)) elements sums)
      ≡ fold horner_step h elements
  turned h sums elements count as_many is =
      let power : ℕ = repeated_square 1 ghash_times 5 key in
      let zero-product : ghash_times power 0 ≡ 0 = times-zero 128 1 ghash_times ghash_ring power in
      ap (λ (z : ℕ). fold horner_step z (zip2 (add_multiple ghash_product power) elements sums)) (sym zero-product)
      ∙ combined power 0 0 elements sums (as_many ∙ sym count)
      ∙ ap (λ (z : ℕ). bit_xor (fold horner_step 0 elements) (ghash_times power z)) is
      ∙ ap (bit_xor (fold horner_step 0 elements))
      (ghash_ring.comm power h ∙ sym (times_key-power 5 h) ∙ ap (λ (n : ℕ). times_key n h) (sym as_many))
      ∙ sym (started 0 h elements)

  -- a start of 0 whose first element takes the start
  pub begun : (s : ℕ) (xs : List ℕ) → 0 < length xs
      → fold horner_step 0 (slice_set xs 0 (bit_xor s (slice_index_or xs 0 0))) ≡ fold horner_step s xs
  begun s (x ∷ xs) some = ap (λ (z : ℕ). fold horner_step (ghash_times z key) xs) (xor_comm 0 (bit_xor s x) ∙ xor_zero_r (bit_xor s x))
  begun s [] some = omega (arith, some)

  -- four elements more, by the powers of the key
  pub four_more : (h r n : ℕ) (xs : List ℕ) (p : Powers) → ArePowers key p → 4 * n + 4 ≤ length xs → h ≡ fold horner_step 0 (take (4 * n) xs)
      → r ≡ bit_xor (bit_xor (ghash_times (bit_xor h (get_or xs (4 * n) 0)) p.fourth) (ghash_times (get_or xs (4 * n + 1) 0) p.cube))
      (bit_xor (ghash_times (get_or xs (4 * n + 2) 0) p.square) (ghash_times (get_or xs (4 * n + 3) 0) p.key))
      → r ≡ fold horner_step 0 (take (4 * (n + 1)) xs)
  four_more h r n xs p are room of_h of_r =
      of_r
      ∙ ap (λ (k : ℕ). bit_xor (bit_xor (ghash_times (bit_xor h x0) p.fourth) (ghash_times x1 p.cube)) (bit_xor (ghash_times x2 p.square) (ghash_times x3 k))) are.0
      ∙ four_steps (bit_xor h x0) x1 x2 x3 key p.square p.cube p.fourth are.1 are.2 are.3
      ∙ ap (λ (y : ℕ). horner_step (horner_step (horner_step (horner_step y x0) x1) x2) x3) of_h
      ∙ sym (next (4 * n + 3) (4 * (n + 1)) (omega arith) (omega (arith, room))
      ∙ ap (λ (y : ℕ). horner_step y x3) (next (4 * n + 2) (4 * n + 3) (omega arith) (omega (arith, room))
      ∙ ap (λ (y : ℕ). horner_step y x2) (next (4 * n + 1) (4 * n + 2) (omega arith) (omega (arith, room))
      ∙ ap (λ (y : ℕ). horner_step y x1) (next (4 * n) (4 * n + 1) (omega arith) (omega (arith, room))))))
    where
      x0 : ℕ
      x0 = get_or xs (4 * n) 0

      x1 : ℕ
      x1 = get_or xs (4 * n + 1) 0

      x2 : ℕ
      x2 = get_or xs (4 * n + 2) 0

      x3 : ℕ
      x3 = get_or xs (4 * n + 3) 0

      next : (i j : ℕ) → j ≡ i + 1 → i < length xs
          → fold horner_step 0 (take j xs) ≡ horner_step (fold horner_step 0 (take i xs)) (get_or xs i 0)
      next i j is inside =
          ap (λ (k : ℕ). fold horner_step 0 (take k xs)) is
          ∙ ap (fold horner_step 0) (take_more xs i 0 inside)
          ∙ fold-append horner_step 0 (take i xs) (get_or xs i 0 ∷ [])

module _ (element : List ℕ → ℕ) (key : ℕ) where
  -- m blocks, and then the n after them
  pub hash_from_more : (s : ℕ) (d : List ℕ) (m n : ℕ) → (m + n) * 16 ≤ length d
      → hash_from element key (hash_from element key s d m) (drop (m * 16) d) n ≡ hash_from element key s d (m + n)
  hash_from_more s d m zero room =
      hash_from_none element key (hash_from element key s d m) (drop (m * 16) d)
      ∙ ap (λ (k : ℕ). hash_from element key s d k) again
    where
      again : m ≡ m + zero
      again = omega arith
  hash_from_more s d m (suc n) room =
      ap (λ (k : ℕ). hash_from element key h rest k) one
      ∙ hash_from_next element key h rest n (omega (arith, room, length-drop (m * 16) d))
      ∙ ap₂ (λ (y : ℕ) (b : List ℕ). added_block element key y (take 16 b)) (hash_from_more s d m n (omega (arith, room)))
      (drop-drop (n * 16) (m * 16) d ∙ ap (λ (k : ℕ). drop k d) place)
      ∙ sym (hash_from_next element key s d (m + n) (omega (arith, room)))
      ∙ ap (λ (k : ℕ). hash_from element key s d k) other
    where
      h : ℕ
      h = hash_from element key s d m

      rest : List ℕ
      rest = drop (m * 16) d

      one : suc n ≡ n + 1
      one = omega arith

      place : m * 16 + n * 16 ≡ (m + n) * 16
      place = omega arith

      other : m + n + 1 ≡ m + suc n
      other = omega arith

  -- `hash_from_more`, by the bytes of these n blocks alone
  pub turn_more : (s : ℕ) (d x : List ℕ) (m n : ℕ) → (m + n) * 16 ≤ length d → x ≡ take (n * 16) (drop (m * 16) d)
      → fold (horner_step key) (hash_from element key s d m) (map element (first_blocks n x)) ≡ hash_from element key s d (m + n)
  turn_more s d x m n room is =
      ap (λ (y : List ℕ). fold (horner_step key) (hash_from element key s d m) (map element (first_blocks n y))) is
      ∙ blocks_alone element key (hash_from element key s d m) d (m * 16) n (omega (arith, room))
      ∙ hash_from_more s d m n room

-- the elements of one block more
pub elements_next : (element : List ℕ → ℕ) (m : List ℕ) (n : ℕ) → n * 16 + 16 ≤ length m
    → map element (first_blocks (n + 1) m) ≡ map element (first_blocks n m) ++ element (take 16 (drop (n * 16) m)) ∷ []
elements_next element m n room =
    ap (map element) (first_blocks_next m n)
    ∙ map-append element (first_blocks n m) (block m n ∷ [])
    ∙ ap (λ (b : List ℕ). map element (first_blocks n m) ++ element b ∷ [])
    (take-append-le 16 (drop (n * 16) m) (replicate 16 0) (omega (arith, length-drop (n * 16) m, room)))
