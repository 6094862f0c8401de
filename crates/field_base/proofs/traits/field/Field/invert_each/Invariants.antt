use Rattle.std.proofs.Common.{◌<◌, ℕ, map}
use Rattle.std.specs.Prelude.{slice_index}
use Rattle.field_base.specs.Field.{IsInverseOrZero}
use Rattle.field_base.proofs.traits.field.Field.invert_each.Given as goal

-- the places before this one hold inverses
abbrev pub invariant-loop-place : goal.invariant-loop-place
invariant-loop-place g l =
    let ring = g.Self.Represented in
    (i : ℕ) → i < l.place → IsInverseOrZero ring.product (slice_index (map ring.repr l.values) i) (slice_index (map ring.repr l.inverses) i)
