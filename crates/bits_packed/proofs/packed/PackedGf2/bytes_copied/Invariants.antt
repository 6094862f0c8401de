use Rattle.std.proofs.Common.{◌≡◌, ◌/◌, take}
use Rattle.std.specs.List.{flat_map}
use Rattle.field_base.specs.Chunks.{chunks}
use Rattle.bits_packed.proofs.packed.PackedGf2.bytes_copied.Given as goal

-- the bytes of the packed bits so far
abbrev pub invariant-loop-place : goal.invariant-loop-place
invariant-loop-place g l =
    l.bytes.items
    ≡ flat_map (λ x. chunks 8 (g.U.Underlier.BITS / 8) (g.U.Underlier.number x.bits)) (take l.place l.packed)
