-- Packings of N lanes as one number each: what an operator gives of the lanes, it gives of the numbers. These lemmas stand here since
-- the packing's implementation of the traits cites them.
use Rattle.std.proofs.Common.{◌≡◌, ℕ, ◌*◌, ◌^◌, ◌<◌, ◌↔◌, Bool, true, length, map, replicate, sym, ◌∙◌, ap}
use Rattle.std.specs.Prelude.{bit_xor}
use Rattle.std.proofs.lemmas.List.{length-replicate}
use lib.Pointwise.{pointwise}
use Rattle.field_base.specs.Chunks.{joined}
use Rattle.field_base.specs.Ring.{IsRing}
use Rattle.field_base.specs.Tower.{tower_mul}
use Rattle.packed_lanes.specs.lemmas.BitImage.{bit_fits, bit_product}
use Rattle.packed_lanes.specs.lemmas.LaneList.{equal_lanes, every_below, every_bit, lanes_same, number_of_every, product_number, product_with_every, sum_number, sum_with_every}
use Rattle.packed_lanes.specs.lemmas.LaneRing.{lanes_ring}
use Rattle.packed_lanes.specs.Lanes.{lane_by_lane, lane_product}
use Rattle.packed_lanes.specs.Packed.{EachLaneIs, packed_number}
use Rattle.packed_lanes.specs.declared.packed.Packed.{Packed}
use mathlib.Core.HLevel.{is_prop→PathP}
use Rattle.std.proofs.Math.Nat.{ℕ_set}

-- the product of two bits in every lane is the product, lane by lane, of each bit in every lane
pub packed_bit_product : (width unit : ℕ) (times : ℕ → ℕ → ℕ) → IsRing width unit times → unit < 2 ^ width → (n a b : ℕ) → a < 2 → b < 2
    → tower_mul 0 a b * joined width (replicate n unit)
    ≡ lane_product width times n (a * joined width (replicate n unit)) (b * joined width (replicate n unit))
packed_bit_product width unit times ring fits n a b a_fits b_fits =
    bit_product (n * width) (joined width (replicate n unit)) (lane_product width times n) (lanes_ring width unit times ring fits n)
    (every_below width n unit fits) a a_fits b b_fits

-- packings of the same lanes are one
pub same_packed : {F : Type 0} {N : ℕ} → (x y : Packed F N) → x.lanes ≡ y.lanes → x ≡ y
same_packed {N = N} x y same =
    λ i. record {
      lanes = same i;
      long = is_prop→PathP (λ j. length (same j) ≡ N) (λ j. ℕ_set _ _) x.long y.long i;
    }

-- two packings have as many lanes
both_long : {F : Type 0} {N : ℕ} → (x y : Packed F N) → length x.lanes ≡ length y.lanes
both_long x y = x.long ∙ sym y.long

module _ {F : Type 0} {N : ℕ} (width : ℕ) (repr : F → ℕ) (fits : (x : F) → repr x < 2 ^ width) where
  -- packings of one number are one
  pub packed_same : ((x y : F) → repr x ≡ repr y → x ≡ y) → (x y : Packed F N) → packed_number width repr x ≡ packed_number width repr y
      → x ≡ y
  packed_same same x y is = same_packed x y (lanes_same width F repr fits same x.lanes y.lanes (both_long x y) is)

  -- packings whose lanes compare equal have one number, and the other way round
  pub packed_equal : (equal : F → F → Bool) → ((x y : F) → (equal x y ≡ true) ↔ (repr x ≡ repr y))
      → ((x y : F) → repr x ≡ repr y → x ≡ y) → (x y : Packed F N)
      → (pointwise equal x.lanes y.lanes ≡ true) ↔ (packed_number width repr x ≡ packed_number width repr y)
  packed_equal equal decides same x y = equal_lanes width F repr fits equal decides same x.lanes y.lanes (both_long x y)

  -- the number of a sum, lane by lane, is the sum of the numbers
  pub packed_sum : (x y r : Packed F N) → map repr r.lanes ≡ lane_by_lane bit_xor (map repr x.lanes) (map repr y.lanes)
      → packed_number width repr r ≡ bit_xor (packed_number width repr x) (packed_number width repr y)
  packed_sum x y r is = sum_number width F repr fits x.lanes y.lanes r.lanes (both_long x y) is

  -- the number of the sum with one element in every lane
  pub packed_sum_one : (x : Packed F N) (y : F) (r : Packed F N)
      → map repr r.lanes ≡ lane_by_lane bit_xor (map repr x.lanes) (map repr (replicate N y))
      → packed_number width repr r ≡ bit_xor (packed_number width repr x) (joined width (replicate N (repr y)))
  packed_sum_one x y r is =
      sum_number width F repr fits x.lanes (replicate N y) r.lanes (x.long ∙ sym (length-replicate N y)) is
      ∙ ap (bit_xor (packed_number width repr x)) (number_of_every width F repr fits N y)

  -- the number of the sum with one number in every lane
  pub packed_sum_every : (x : Packed F N) (a : ℕ) → a < 2 ^ width → (r : Packed F N) → EachLaneIs repr r bit_xor x a
      → packed_number width repr r ≡ bit_xor (packed_number width repr x) (joined width (replicate N a))
  packed_sum_every x a a_fits r is = sum_with_every width F repr fits N a a_fits x.lanes r.lanes x.long is

  -- the number of the sum with one bit in every lane
  pub packed_sum_bit : (unit : ℕ) → unit < 2 ^ width → (x : Packed F N) (b : ℕ) → b < 2 → (r : Packed F N)
      → EachLaneIs repr r bit_xor x (b * unit)
      → packed_number width repr r ≡ bit_xor (packed_number width repr x) (b * joined width (replicate N unit))
  packed_sum_bit unit unit_fits x b b_fits r is =
      packed_sum_every x (b * unit) (bit_fits width unit unit_fits b b_fits) r is
      ∙ ap (bit_xor (packed_number width repr x)) (every_bit width unit N b b_fits)

  module _ (unit : ℕ) (times : ℕ → ℕ → ℕ) (ring : IsRing width unit times) where
    -- the number of a product, lane by lane, is the product of the numbers, lane by lane
    pub packed_product : (x y r : Packed F N) → map repr r.lanes ≡ lane_by_lane times (map repr x.lanes) (map repr y.lanes)
        → packed_number width repr r ≡ lane_product width times N (packed_number width repr x) (packed_number width repr y)
    packed_product x y r is = product_number width F repr fits unit times ring N x.lanes y.lanes r.lanes x.long y.long is

    -- the number of the product with one element in every lane
    pub packed_product_one : (x : Packed F N) (y : F) (r : Packed F N)
        → map repr r.lanes ≡ lane_by_lane times (map repr x.lanes) (map repr (replicate N y))
        → packed_number width repr r ≡ lane_product width times N (packed_number width repr x) (joined width (replicate N (repr y)))
    packed_product_one x y r is =
        product_number width F repr fits unit times ring N x.lanes (replicate N y) r.lanes x.long (length-replicate N y) is
        ∙ ap (lane_product width times N (packed_number width repr x)) (number_of_every width F repr fits N y)

    -- the number of the product with one number in every lane
    pub packed_product_every : (x : Packed F N) (a : ℕ) → a < 2 ^ width → (r : Packed F N) → EachLaneIs repr r times x a
        → packed_number width repr r ≡ lane_product width times N (packed_number width repr x) (joined width (replicate N a))
    packed_product_every x a a_fits r is =
        product_with_every width F repr fits unit times ring N a a_fits x.lanes r.lanes x.long is

    -- the number of the product with one bit in every lane
    pub packed_product_bit : unit < 2 ^ width → (x : Packed F N) (b : ℕ) → b < 2 → (r : Packed F N) → EachLaneIs repr r times x (b * unit)
        → packed_number width repr r ≡ lane_product width times N (packed_number width repr x) (b * joined width (replicate N unit))
    packed_product_bit unit_fits x b b_fits r is =
        packed_product_every x (b * unit) (bit_fits width unit unit_fits b b_fits) r is
        ∙ ap (lane_product width times N (packed_number width repr x)) (every_bit width unit N b b_fits)
