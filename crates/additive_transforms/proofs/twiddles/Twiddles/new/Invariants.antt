use Rattle.std.proofs.Common.{◌≡◌, ℕ, suc, ◌<◌, length, get_or}
use Rattle.ghash_slices.specs.LowStages.{ghash_cantor_vector, ghash_product}
use Rattle.ghash_slices.specs.Cantor.{subspace_value}
use Rattle.additive_transforms.proofs.twiddles.Twiddles.new.Given as goal

-- the shifts before j are there; before j = 1 the first of them
abbrev pub invariant-loop-j : goal.invariant-loop-j
invariant-loop-j l =
    (length l.shifts ≡ 4) × ((i : ℕ) → i < l.j → get_or l.shifts i 0 ≡ subspace_value ghash_product i l.fn.z)

-- all the shifts are there, and the elements of the basis before t
abbrev pub invariant-loop-t : goal.invariant-loop-t
invariant-loop-t l =
    (length l.shifts ≡ 4)
    × ((i : ℕ) → i < 4 → get_or l.shifts i 0 ≡ subspace_value ghash_product i l.fn.z)
    × (length l.basis ≡ 39)
    × ((i : ℕ) → i < l.t → get_or l.basis i 0 ≡ ghash_cantor_vector (suc i))
