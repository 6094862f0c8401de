use Rattle.std.proofs.Common.{◌≡◌, ◌<◌, ℕ, length, slice_index}
use Rattle.std.specs.Prelude.{cond}
use Rattle.error_codes.specs.Filling.{is_marked}
use Rattle.c_calls.proofs.secrets.write_marks.Given as goal

-- the flags before this one are written
abbrev pub invariant-loop-i : goal.invariant-loop-i
invariant-loop-i l =
    (length l.flags ≡ length l.initial.flags) × ((j : ℕ) → j < l.i → slice_index l.flags j ≡ cond (is_marked l.marks j) 1 0)
