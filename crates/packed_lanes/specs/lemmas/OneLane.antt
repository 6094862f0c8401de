-- What holds of packings of one lane, which a field that is its own packing is. It stands here since the field's implementation
-- of the traits cites it.
use Rattle.std.specs.Prelude.{slice_set}
use Rattle.std.proofs.Common.{◌≡◌, ℕ, zero, suc, ◌+◌, ◌*◌, ◌^◌, ◌<◌, ◌≤◌, List, [], ◌∷◌, length, slice_index_or, refl, sym, ◌∙◌, ap, arith}
use Rattle.std.proofs.lemmas.Nat.{pow_pos}
use native.Mathlib.Nat.{one-mul, zero-add, zero-mul}
use Rattle.field_base.specs.Chunks.{joined}
use Rattle.packed_lanes.specs.Lanes.{AreInterleaved, IsPowerOfTwo, interleaved_first, interleaved_second, lane_product}

-- the only lane, written over
pub put_only_lane : {A : Type 0} → (x y : A) (lane : ℕ) → lane < 1 → y ∷ [] ≡ slice_set (x ∷ []) lane y
put_only_lane x y zero within = refl
put_only_lane x y (suc lane) within = absurd (omega (arith, within))

-- a list of one place, written at place 0, is what was written
pub write_only_lane : {A : Type 0} → (x : A) (xs : List A) → length xs ≡ 1 → slice_set xs 0 x ≡ x ∷ []
write_only_lane x [] long = absurd (omega (arith, long))
write_only_lane x (y ∷ []) long = refl
write_only_lane x (y ∷ z ∷ zs) long = absurd (omega (arith, long))

-- lists of one element are equal only where the elements are
pub same_only_lane : {A : Type 0} → (x y : A) → x ∷ [] ≡ y ∷ [] → x ≡ y
same_only_lane x y same = ap (λ xs. slice_index_or xs 0 x) same

-- the number of one lane is the lane
pub one_lane_joined : (width a : ℕ) → a ≡ joined width (a ∷ [])
unfolding joined
one_lane_joined width a = sym (zero-add a) ∙ ap (λ (n : ℕ). n + a) (sym (zero-mul (2 ^ width)))

-- one lane has the width of the packing
pub one_lane_width : (width : ℕ) → width ≡ 1 * width
one_lane_width width = sym (one-mul width)

-- the product of packings of one lane is the product of the lanes
pub one_lane_product : (width : ℕ) (times : ℕ → ℕ → ℕ) → (a b : ℕ) → times a b ≡ lane_product width times 1 a b
unfolding lane_product
one_lane_product width times a b =
    sym (zero-add (times a b)) ∙ ap (λ (n : ℕ). n + times a b) (sym (zero-mul (2 ^ width)))

-- lane i of the first result by blocks of one lane is the left packing
one_lane_first : {A : Type 0} → (x y : A) (i : ℕ) (d : A) → i < 1
    → slice_index_or (x ∷ []) i d ≡ interleaved_first 1 (x ∷ []) (y ∷ []) d i
one_lane_first x y zero d within = refl
one_lane_first x y (suc i) d within = absurd (omega (arith, within))

-- lane i of the second result by blocks of one lane is the right packing
one_lane_second : {A : Type 0} → (x y : A) (i : ℕ) (d : A) → i < 1
    → slice_index_or (y ∷ []) i d ≡ interleaved_second 1 (x ∷ []) (y ∷ []) d i
one_lane_second x y zero d within = refl
one_lane_second x y (suc i) d within = absurd (omega (arith, within))

-- packings of one lane, interleaved, stay as they are
pub one_lane_interleaved : {A : Type 0} → (x y : A) (b : ℕ) → IsPowerOfTwo b → b ≤ 1
    → AreInterleaved b (x ∷ []) (y ∷ []) (x ∷ []) (y ∷ [])
one_lane_interleaved x y zero (k, is) few = let above = pow_pos k in absurd (omega (arith, is, above))
one_lane_interleaved x y (suc zero) is few =
    record { first_lanes = one_lane_first x y; second_lanes = one_lane_second x y }
one_lane_interleaved x y (suc (suc b)) is few = absurd (omega (arith, few))
