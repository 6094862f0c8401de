-- What is true of the definitions of Room.antt.
use Rattle.std.proofs.Common.{ℕ, ◌*◌, ◌^◌, ◌<◌, ◌≤◌, arith}
use Rattle.std.proofs.Math.Nat.{mul-le-mul_right}

-- where m words of so many bytes can be one, so can fewer
pub few_fit : (m bytes : ℕ) → m * bytes < 2 ^ 63 → (n : ℕ) → n ≤ m → n * bytes < 2 ^ 63
few_fit m bytes fit n few = let fewer : n * bytes ≤ m * bytes = mul-le-mul_right bytes few in omega (arith, fit, fewer)
