-- What the twiddles of the low stages hold.
use Rattle.std.specs.Prelude.{ℕ, List}
use Rattle.ghash_slices.specs.declared.low_stages.LowStageTwiddles.{LowStageTwiddles}

-- the shifts of stages 0 to 3
abbrev pub shifts_of : {A : Type 0} → LowStageTwiddles A → List ℕ
shifts_of twiddles = twiddles.shifts

-- the basis, lowest element first
abbrev pub basis_of : {A : Type 0} → LowStageTwiddles A → List ℕ
basis_of twiddles = twiddles.basis.items
