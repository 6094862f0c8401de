-- Masked products in lanes, each lane by the theorem on one product, and the loops that write them over a slice by blocks.
use Rattle.std.proofs.Common.{◌≡◌, ℕ, zero, suc, ◌+◌, ◌*◌, ◌%◌, ◌^◌, ◌<◌, ◌≤◌, List, [], ◌∷◌, length, map, get_or, replicate, refl, sym, ◌∙◌, ap, ap₂, subst, arith}
use Rattle.std.specs.Prelude.{bit_and, slice_index_or}
use Rattle.std.specs.List.{All}
use Rattle.std.specs.Simd.Lanes.{chunk}
use Rattle.std.proofs.lemmas.Simd.{length-chunk, get_or-chunk}
use Rattle.word_tables.proofs.BlockLemmas.{done_before}
use Rattle.field_base.specs.Carryless.{carryless}
use Rattle.word_carryless.specs.Masked.{CarryIsolationInLanes, IsInClass}
use Rattle.word_carryless.proofs.CarryIsolation.{carry_isolation, masked_carryless}
use Rattle.word_carryless.proofs.LaneProducts.{products_in_lanes}

-- ---- lanes

all_rest : (P : ℕ → Type 0) (x : ℕ) (xs : List ℕ) → All P (x ∷ xs) → All P xs
all_rest P x xs all k d below = all (suc k) d (omega (arith, below))

-- carry isolation in lanes, each by that of a word
pub isolated_in_lanes : CarryIsolationInLanes
isolated_in_lanes i j [] ys i_small j_small x_class y_class = refl
isolated_in_lanes i j (x ∷ xs) [] i_small j_small x_class y_class = refl
isolated_in_lanes i j (x ∷ xs) (y ∷ ys) i_small j_small x_class y_class =
    ap₂ (λ (z : ℕ) (zs : List ℕ). z ∷ zs)
    (carry_isolation i j x y i_small j_small (x_class 0 0 (omega arith)) (y_class 0 0 (omega arith)))
    (isolated_in_lanes i j xs ys i_small j_small (all_rest (IsInClass i) x xs x_class) (all_rest (IsInClass j) y ys y_class))

-- lanes by one word, as the code computes them
pub masked_lanes : (n i j y : ℕ) (xs : List ℕ) → length xs ≡ n → i < 4 → j < 4 → All (IsInClass i) xs → IsInClass j y
    → map (λ a. bit_and a (0x1111_1111_1111_1111 * 2 ^ ((i + j) % 4) % 2 ^ 64)) (products_in_lanes xs (replicate n y))
    ≡ map (λ x. carryless x y % 2 ^ 64) xs
masked_lanes zero i j y [] long i_small j_small x_class y_class = refl
masked_lanes zero i j y (x ∷ xs) long i_small j_small x_class y_class = absurd (omega arith)
masked_lanes (suc n) i j y [] long i_small j_small x_class y_class = absurd (omega arith)
masked_lanes (suc n) i j y (x ∷ xs) long i_small j_small x_class y_class =
    ap₂ (λ (z : ℕ) (zs : List ℕ). z ∷ zs)
    (masked_carryless i j x y i_small j_small (x_class 0 0 (omega arith)) y_class)
    (masked_lanes n i j y xs (omega arith) i_small j_small (all_rest (IsInClass i) x xs x_class) y_class)

-- ---- blocks of a slice

-- a place that is not written yet
not_mapped : (f : ℕ → ℕ) (old : List ℕ) (i k d : ℕ) → i ≤ k → get_or (done_before f i old) k d ≡ get_or old k d
not_mapped f old zero k d above = refl
not_mapped f [] (suc i) k d above = refl
not_mapped f (x ∷ old) (suc i) zero d above = absurd (omega arith)
not_mapped f (x ∷ old) (suc i) (suc k) d above = not_mapped f old i k d (omega arith)

-- the next block is as it was
pub block_keeps : (P : ℕ → Type 0) (f : ℕ → ℕ) (n i : ℕ) (old now : List ℕ) → All P old → i + n ≤ length old → i + n ≤ length now
    → now ≡ done_before f i old → All P (chunk i n now)
block_keeps P f n i old now all room also so_far k d below =
    let inside : k < n = omega (arith, below, length-chunk i n now also) in
    let within : i + k < length old = omega (arith, room, inside) in
    subst P
    (sym (get_or-chunk i n now k d inside ∙ ap (λ (xs : List ℕ). get_or xs (i + k) d) so_far ∙ not_mapped f old i (i + k) d (omega arith)))
    (all (i + k) d within)

-- and the next place
pub place_keeps : (P : ℕ → Type 0) (f : ℕ → ℕ) (i : ℕ) (old now : List ℕ) → All P old → i < length old → now ≡ done_before f i old
    → P (slice_index_or now i 0)
place_keeps P f i old now all within so_far =
    subst P (sym (ap (λ (xs : List ℕ). get_or xs i 0) so_far ∙ not_mapped f old i i 0 (omega arith))) (all i 0 within)
