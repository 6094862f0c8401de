use Rattle.std.proofs.Common.{◌≡◌, ℕ, ◌<◌, length}
use Rattle.std.specs.Prelude.{slice_index}
use Rattle.bits_packed.specs.BitMatrices.{sum_of_digits}
use Rattle.bits_packed.proofs.tables.sum_of_entries.Given as goal

-- the entries of the tables before this one are summed
abbrev pub invariant-loop-group : goal.invariant-loop-group
invariant-loop-group l =
    (length l.sum ≡ 8) × ((w : ℕ) → w < 8 → slice_index l.sum w ≡ sum_of_digits l.tables l.word l.group w)
