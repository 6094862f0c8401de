use Rattle.std.proofs.Common.{◌≡◌, ◌≤◌, ◌+◌, ◌-◌, ◌++◌, map, take, vec_capacity, vec_len}
use Rattle.std.specs.List.{flat_map}
use Rattle.field_base.specs.Chunks.{chunks}
use Rattle.bits_packed.proofs.packed.PackedGf2.narrow_copied.Given as goal

-- the parts of the packed bits so far
abbrev pub invariant-loop-place : goal.invariant-loop-place
invariant-loop-place g l =
    map (λ x. g.V.Underlier.number x.bits) l.parts.items
    ≡ flat_map (λ x. chunks g.V.Underlier.BITS g.U.Divisible.RATIO (g.U.Underlier.number x.bits)) (take l.place l.packed)

-- and those of this one, with room for its others
abbrev pub invariant-loop-i : goal.invariant-loop-i
invariant-loop-i g l = record {
  room : vec_len l.parts + (g.U.Divisible.RATIO - l.i) ≤ vec_capacity l.parts;
  so_far : map (λ x. g.V.Underlier.number x.bits) l.parts.items
      ≡ flat_map (λ x. chunks g.V.Underlier.BITS g.U.Divisible.RATIO (g.U.Underlier.number x.bits)) (take l.place l.packed)
      ++ chunks g.V.Underlier.BITS l.i (g.U.Underlier.number l.row.bits);
}
