-- Stages of a transform over elements in the lanes of two planes. After each stage the two are woven, so that the elements of one block
-- stand as many lanes apart as there are blocks, and the pairs of the next stage are again the two elements of each lane.
use Rattle.std.specs.Prelude.{◌≡◌, ℕ, suc, ◌*◌, ◌<◌, Bool, List, bit_xor, cond, slice_index}
use Rattle.std.specs.Int.{bit_at}
use Rattle.field_base.specs.Basis.{sum_below}
use Rattle.ghash_slices.specs.Cantor.{point, polynomial_value, subspace_value}
use Rattle.ghash_slices.specs.Stages.{add_multiple}
use Rattle.word_tables.specs.Cantor.{cantor_vector}
use Rattle.additive_transforms.specs.Units.{AreUnwoven}

-- Cantor vector b + 1 for each set bit b of the lane's number, of so many
unfoldable pub lane_twiddle : ℕ → ℕ → ℕ
lane_twiddle bits l = sum_below (λ b. bit_at l b * cantor_vector (suc b)) bits

-- the lower result of the butterfly in each lane, where the scalar of lane l is t l
abbrev pub lower_lane : (ℕ → ℕ → ℕ) → (ℕ → ℕ) → (ℕ → ℕ) → (ℕ → ℕ) → ℕ → ℕ
lower_lane times t low high l = add_multiple times (t l) (low l) (high l)

-- and the upper one
abbrev pub upper_lane : (ℕ → ℕ → ℕ) → (ℕ → ℕ) → (ℕ → ℕ) → (ℕ → ℕ) → ℕ → ℕ
upper_lane times t low high l = bit_xor (high l) (lower_lane times t low high l)

-- the butterflies of n lanes, woven: lane by lane the scalar is the sum of the shift and the vectors of the lane
abbrev pub IsLaneStage : (ℕ → ℕ → ℕ) → ℕ → ℕ → ℕ → (ℕ → ℕ) → (ℕ → ℕ) → (ℕ → ℕ) → (ℕ → ℕ) → Type 0
IsLaneStage times shift bits n low high first second =
    AreUnwoven n first second (lower_lane times (λ l. bit_xor shift (lane_twiddle bits l)) low high)
    (upper_lane times (λ l. bit_xor shift (lane_twiddle bits l)) low high)

-- the shifts of six stages are s_j(z)
abbrev pub AreLaneShifts : (ℕ → ℕ → ℕ) → ℕ → List ℕ → Type 0
AreLaneShifts times z shifts = (j : ℕ) → j < 6 → slice_index shifts j ≡ subspace_value times j z

-- place p of 64 values is the value at point p of the polynomial with 64 coefficients
abbrev pub HoldInRows : ℕ → (ℕ → ℕ → ℕ) → ℕ → (ℕ → ℕ) → (ℕ → ℕ) → Type 0
HoldInRows width times z coefficients values =
    (p : ℕ) → p < 64 → values p ≡ polynomial_value times 6 coefficients (point width cantor_vector z p)

-- the transform takes the values `old` to `new`, or, where `inverse` is true, the inverse one does, which the transform takes back
abbrev pub TakesRows : Bool → ℕ → (ℕ → ℕ → ℕ) → ℕ → (ℕ → ℕ) → (ℕ → ℕ) → Type 0
TakesRows inverse width times z old new = HoldInRows width times z (cond inverse new old) (cond inverse old new)
