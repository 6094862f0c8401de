use Rattle.std.proofs.Common.{◌++◌, List, ◌∙◌, ap}
use Rattle.std.specs.List.{flat_map}
use Rattle.packed_lanes.specs.Packed.{lanes_of}
use Rattle.field_slices.proofs.LaneLists.{packed_more, packed-count}
use Rattle.field_slices.proofs.packings.slices.pack_slice.Goals as goal

pub packings-preserved : goal.packings-preserved
packings-preserved g c =
    ap (λ (ps : List _). flat_map lanes_of ps ++ c.split_at.result.1.now) c.in_ok-push.ensures.items
    ∙ packed_more c.packings.packings.items c.args.values.now c.packings.rest.now c.packings.invariant c.from_slice.result
    c.split_at.result.1.now (c.from_slice.ensures ∙ c.split_at.ensures.front) c.split_at.ensures.back

pub returns-clause-count : goal.returns-clause-count
returns-clause-count g c =
    packed-count c.packings.packings.items c.args.values.now c.packings.rest.now c.packings.invariant c.packings-test.false
