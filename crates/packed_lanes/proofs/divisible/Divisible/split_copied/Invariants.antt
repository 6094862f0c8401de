use Rattle.std.proofs.Common.{◌≡◌, ◌++◌, map, take}
use Rattle.std.specs.List.{flat_map}
use Rattle.field_base.specs.Chunks.{chunks}
use Rattle.packed_lanes.proofs.divisible.Divisible.split_copied.Given as goal

-- the parts of the rows so far
abbrev pub invariant-loop-place : goal.invariant-loop-place
invariant-loop-place g l =
    map g.V.Underlier.number l.parts.items
    ≡ flat_map (λ x. chunks g.V.Underlier.BITS g.Self.Divisible.RATIO (g.Self.Underlier.number x)) (take l.place l.rows)

-- and those of this one
abbrev pub invariant-loop-i : goal.invariant-loop-i
invariant-loop-i g l =
    map g.V.Underlier.number l.parts.items
    ≡ flat_map (λ x. chunks g.V.Underlier.BITS g.Self.Divisible.RATIO (g.Self.Underlier.number x)) (take l.place l.rows)
    ++ chunks g.V.Underlier.BITS l.i (g.Self.Underlier.number l.row)
