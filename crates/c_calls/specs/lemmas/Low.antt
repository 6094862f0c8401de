-- The numbers of low bits of words.
use Rattle.std.proofs.Common.{ℕ, ◌^◌, ◌<◌}
use Rattle.std.proofs.lemmas.Nat.{pow_pos}
use native.Mathlib.Nat.{mod-lt}
use Rattle.c_calls.specs.Low.{low_number}

-- they have at most so many bits
pub low_number-lt : {W : Type 0} (number : W → ℕ) (width : ℕ) (word : W) → low_number number width word < 2 ^ width
low_number-lt number width word = mod-lt (number word) (pow_pos width)
