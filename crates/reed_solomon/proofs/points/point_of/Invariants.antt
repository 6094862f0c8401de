use Rattle.std.proofs.Common.{◌≡◌, ◌*◌, ◌/◌, ◌^◌}
use Rattle.std.specs.Int.{bit_at}
use Rattle.std.specs.Prelude.{bit_xor}
use Rattle.field_base.specs.Basis.{sum_below}
use Rattle.word_tables.specs.Cantor.{cantor_vector}
use Rattle.reed_solomon.proofs.points.point_of.Given as goal

-- the bits from this one on are left, and the vectors of those before it were added
abbrev pub invariant-loop-bit : goal.invariant-loop-bit
invariant-loop-bit g l =
    (l.rest ≡ l.fn.p / 2 ^ l.bit)
    × (g.R.Stored.number l.sum ≡ bit_xor 0 (sum_below (λ b. bit_at l.fn.p b * cantor_vector b) l.bit))
