use Rattle.std.proofs.Common.{◌≡◌, ◌<◌, ℕ, length, drop}
use Rattle.std.specs.Prelude.{◌||◌}
use Rattle.error_codes.specs.Correcting.{is_listed}
use Rattle.error_codes.specs.Filling.{is_marked}
use Rattle.error_codes.proofs.correcting.mark_listed.Given as goal

-- the marks and the rest of the list are the whole list
abbrev pub invariant-loop-place : goal.invariant-loop-place
invariant-loop-place l =
    (length l.marks ≡ length l.fn.marks)
    × ((i : ℕ) → i < length l.fn.marks
    → (is_marked l.marks i || is_listed (drop l.place-index l.places) i) ≡ is_listed l.places i)
