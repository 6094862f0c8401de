use Rattle.std.proofs.Common.{◌≡◌, ◌≤◌, ◌^◌, ◌-◌, ℕ, map}
use Rattle.bits_packed.specs.Rounds.{AreMixed}
use Rattle.bits_packed.proofs.packed.PackedGf2.transpose.Given as goal

abbrev pub invariant-loop-block : goal.invariant-loop-block
invariant-loop-block g l =
    (k : ℕ) × (l.block ≡ 2 ^ k) × (l.block ≤ g.U.Underlier.BITS)
    × AreMixed g.U.Underlier.BITS l.block (map (λ x. g.U.Underlier.number x.bits) l.fn.rows) (map (λ x. g.U.Underlier.number x.bits) l.rows)

abbrev pub decreases-loop-block : goal.decreases-loop-block
decreases-loop-block g l = g.U.Underlier.BITS - l.block

abbrev pub invariant-loop-block-2 : goal.invariant-loop-block-2
invariant-loop-block-2 g l =
    (k : ℕ) × (l.block ≡ 2 ^ k) × (l.block ≤ g.U.Underlier.BITS)
    × AreMixed g.U.Underlier.BITS l.block (map (λ x. g.U.Underlier.number x.bits) l.fn.rows) (map (λ x. g.U.Underlier.number x.bits) l.rows)

abbrev pub decreases-loop-block-2 : goal.decreases-loop-block-2
decreases-loop-block-2 g l = g.U.Underlier.BITS - l.block
