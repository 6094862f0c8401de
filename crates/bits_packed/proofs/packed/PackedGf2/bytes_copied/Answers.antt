use Rattle.std.proofs.Common.{◌++◌, ◌/◌, ◌∙◌, ap}
use Rattle.std.specs.List.{flat_map}
use Rattle.std.proofs.lemmas.List.{take_all}
use Rattle.field_base.specs.Chunks.{chunks}
use Rattle.packed_lanes.proofs.PartLists.{row_pushed}
use Rattle.bits_packed.proofs.packed.PackedGf2.bytes_copied.Goals as goal

pub loop-place-preserved : goal.loop-place-preserved
loop-place-preserved g c =
    row_pushed (λ x. chunks 8 (g.U.Underlier.BITS / 8) (g.U.Underlier.number x.bits)) c.args.packed.now c.loop-place.place
    c.index-packed-place.result _ c.loop-place-test.true c.index-packed-place.is
    (c.in_ok-push_bytes.ensures
    ∙ ap (λ xs. xs ++ chunks 8 (g.U.Underlier.BITS / 8) (g.U.Underlier.number c.index-packed-place.result.bits)) c.loop-place.invariant)

pub returns : goal.returns
returns g c =
    c.loop-place.invariant
    ∙ ap (flat_map (λ x. chunks 8 (g.U.Underlier.BITS / 8) (g.U.Underlier.number x.bits)))
    (take_all c.loop-place.place c.args.packed.now c.loop-place-test.false)
