-- Packings of N lanes, their numbers, and what an operator gives of them.
use Rattle.std.specs.Prelude.{◌≡◌, ◌<◌, ℕ, List, map, replicate, slice_index_or}
use Rattle.field_base.specs.Chunks.{joined}
use Rattle.field_base.specs.Field.{IsInverseOrZero}
use Rattle.field_base.specs.Powers.{product_of, sum_of}
use Rattle.packed_lanes.specs.Lanes.{lane_by_lane, lane_product}
use Rattle.packed_lanes.specs.declared.packed.Packed.{Packed}

-- the lanes, lane 0 first
abbrev pub lanes_of : {F : Type 0} {N : ℕ} → Packed F N → List F
lanes_of packed = packed.lanes

-- the number of a packing: the numbers of its lanes, of `width` bits each, side by side
abbrev pub packed_number : {F : Type 0} {N : ℕ} → ℕ → (F → ℕ) → Packed F N → ℕ
packed_number width repr packed = joined width (map repr packed.lanes)

-- each lane of r is `op` of the lane of x at its place and the number a
abbrev pub EachLaneIs : {F : Type 0} {N : ℕ} → (F → ℕ) → Packed F N → (ℕ → ℕ → ℕ) → Packed F N → ℕ → Type 0
EachLaneIs {N = N} repr r op x a = map repr r.lanes ≡ lane_by_lane op (map repr x.lanes) (replicate N a)

-- each lane of y is the inverse of the lane of x at its place, and 0 where that is 0
abbrev pub InvertsLanes : {F : Type 0} {N : ℕ} → (F → ℕ) → (ℕ → ℕ → ℕ) → Packed F N → Packed F N → Type 0
InvertsLanes {F} {N} repr times x y =
    (k : ℕ) (d : F) → k < N → IsInverseOrZero times (repr (slice_index_or x.lanes k d)) (repr (slice_index_or y.lanes k d))

-- r is the sum of the packings xs
abbrev pub IsSumOfPackings : {F : Type 0} {N : ℕ} → ℕ → (F → ℕ) → List (Packed F N) → Packed F N → Type 0
IsSumOfPackings width repr xs r = packed_number width repr r ≡ sum_of (packed_number width repr) xs

-- r is the product, lane by lane, of the packings xs; the product of no packings has `unit` in every lane
abbrev pub IsProductOfPackings : {F : Type 0} {N : ℕ} → ℕ → (F → ℕ) → ℕ → (ℕ → ℕ → ℕ) → List (Packed F N) → Packed F N → Type 0
IsProductOfPackings {N = N} width repr unit times xs r =
    packed_number width repr r
    ≡ product_of (joined width (replicate N unit)) (lane_product width times N) (packed_number width repr) xs
