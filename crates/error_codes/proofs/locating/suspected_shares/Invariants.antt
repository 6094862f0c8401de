use Rattle.std.proofs.Common.{◌≡◌, ◌<◌, ◌≤◌, ℕ, List, false, length}
use Rattle.std.specs.Prelude.{nat_eq, not}
use Rattle.field_slices.specs.Marks.{marked_below}
use Rattle.error_codes.specs.Filling.{is_marked}
use Rattle.error_codes.specs.Wrong.{AreNearPolynomials, is_wrong_byte}
use Rattle.error_codes.proofs.locating.suspected_shares.Given as goal

-- the shares are marked that are wrong in a byte so far, and none behind them
abbrev pub invariant-loop-j : goal.invariant-loop-j
invariant-loop-j l =
    ((polynomials : ℕ → List ℕ) → AreNearPolynomials l.field l.needed l.indexes l.size l.shares polynomials
    → (i : ℕ) → i < length l.indexes
    → is_marked l.wrong i ≡ not (nat_eq (marked_below (is_wrong_byte l.field l.indexes l.size l.shares polynomials i) l.j) 0))
    × ((i : ℕ) → length l.indexes ≤ i → is_marked l.wrong i ≡ false)
