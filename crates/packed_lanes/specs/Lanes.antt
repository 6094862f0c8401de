-- Packings: a packing is the list of its lanes, and its number is that of the lanes side by side, lane 0 in the lowest bits.
use Rattle.std.specs.Prelude.{◌≡◌, ℕ, zero, suc, ◌+◌, ◌-◌, ◌*◌, ◌/◌, ◌%◌, ◌^◌, ◌<◌, ◌==◌, List, [], ◌∷◌, length, slice_index_or, if◌then◌else◌}

-- the product of two packings of n lanes, lane by lane, by the product `times` of the lanes, which reads the low `width` bits of
-- its operands
unfoldable pub lane_product : ℕ → (ℕ → ℕ → ℕ) → ℕ → ℕ → ℕ → ℕ
lane_product width times zero a b = 0
lane_product width times (suc n) a b =
    lane_product width times n (a / 2 ^ width) (b / 2 ^ width) * 2 ^ width + times a b

-- the list of what `f` gives of the elements of two lists, place by place
abbrev pub lane_by_lane : {A B C : Type 0} → (A → B → C) → List A → List B → List C
lane_by_lane f [] ys = []
lane_by_lane f (x ∷ xs) [] = []
lane_by_lane f (x ∷ xs) (y ∷ ys) = f x y ∷ lane_by_lane f xs ys

-- P holds of the elements of three lists at each place below n, whatever d stands for those past an end
abbrev pub AtEachPlace : {A : Type 0} → (A → A → A → Type 0) → ℕ → List A → List A → List A → Type 0
AtEachPlace {A} P n xs ys zs =
    (k : ℕ) (d : A) → k < n → P (slice_index_or xs k d) (slice_index_or ys k d) (slice_index_or zs k d)

-- 1, 2, 4, 8, ..
abbrev pub IsPowerOfTwo : ℕ → Type 0
IsPowerOfTwo n = (k : ℕ) × (n ≡ 2 ^ k)

-- lane i of the first result of interleaving by blocks of b lanes, in which the even blocks of both lists stand, a block of the
-- left before the same block of the right; d is what a list gives past its end
abbrev pub interleaved_first : {A : Type 0} → ℕ → List A → List A → A → ℕ → A
interleaved_first b left right d i =
    if i / b % 2 == 0 then slice_index_or left i d else slice_index_or right (i - b) d

-- lane i of the second result; d is what a list gives past its end
abbrev pub interleaved_second : {A : Type 0} → ℕ → List A → List A → A → ℕ → A
interleaved_second b left right d i =
    if b == length left then slice_index_or right i d
    else (if i / b % 2 == 0 then slice_index_or left (i + b) d else slice_index_or right i d)

-- `first` and `second` are `left` and `right` interleaved by blocks of b lanes: in the first stand the even blocks of both,
-- a block of the left before the same block of the right, and in the second the odd blocks. By blocks as long as the lists
-- both stay as they are.
pub record AreInterleaved {A : Type 0} (b : ℕ) (left right first second : List A) : Type 0 where
  pub first_lanes : (i : ℕ) (d : A) → i < length left → slice_index_or first i d ≡ interleaved_first b left right d i
  pub second_lanes : (i : ℕ) (d : A) → i < length left → slice_index_or second i d ≡ interleaved_second b left right d i
