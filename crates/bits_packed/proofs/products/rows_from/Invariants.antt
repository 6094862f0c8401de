use Rattle.std.proofs.Common.{◌+◌}
use Rattle.std.specs.Prelude.{if◌then◌else◌, nat_lt}
use Rattle.bits_packed.proofs.WordRanges.{IsFilledTo}
use Rattle.bits_packed.proofs.products.rows_from.Given as goal

-- the places before this one are written
abbrev pub invariant-loop-offset : goal.invariant-loop-offset
invariant-loop-offset l = IsFilledTo 64 (λ k. if nat_lt (l.row + k) l.inner then l.row + k else l.inner) l.offset l.places
