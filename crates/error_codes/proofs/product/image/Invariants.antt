use Rattle.std.proofs.Common.{◌≡◌, ◌*◌, slice_index}
use Rattle.std.specs.Int.{bit_at}
use Rattle.field_base.specs.Basis.{sum_below}
use Rattle.error_codes.proofs.product.image.Given as goal

-- the columns so far
abbrev pub invariant-loop-i : goal.invariant-loop-i
invariant-loop-i l = l.sum ≡ sum_below (λ j. bit_at l.byte j * slice_index l.columns j) l.i
