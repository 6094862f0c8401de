use Rattle.std.proofs.Common.{◌≡◌, ℕ, ◌+◌, ◌*◌, ◌≤◌, length, refl, rules, sym, ◌∙◌, ap, arith}
use Rattle.std.specs.List.{flat_map}
use Rattle.std.proofs.lemmas.List.{take_all}
use borrow.Author.Rules.{scaled_fits≤}
use Rattle.packed_lanes.specs.Packed.{lanes_of}
use Rattle.field_slices.proofs.LaneLists.{lane_places, lanes-after, lanes_written}
use Rattle.field_slices.proofs.packings.slices.unpack_slice.Goals as goal

pub overflow_add-start : goal.overflow_add-start
overflow_add-start g c =
    let places = lane_places c.loop-packing.packing-index (length c.args.packings.now) g.row.N (omega arith) in
    let long = c.loop-packing.auto.values in
    omega (arith, places, long, c.requires, c.loop-packing.invariant.0)

pub offset_bounds-values-start : goal.offset_bounds-values-start
offset_bounds-values-start g c =
    let places = lane_places c.loop-packing.packing-index (length c.args.packings.now) g.row.N (omega arith) in
    let within : c.loop-packing.start ≤ length c.args.values.now =
    omega (arith, places, c.requires, c.loop-packing.invariant.0) in
    scaled_fits≤ c.loop-packing.start (length c.args.values.now) _ within (search rules)

pub loop-packing-preserved : goal.loop-packing-preserved
loop-packing-preserved g c =
    let index = c.loop-packing.packing-index in
    let packings = c.args.packings.now in
    let start = c.loop-packing.start in
    let values = c.loop-packing.values in
    let places = lane_places index (length packings) g.row.N c.loop-packing-test.true in
    let long = c.loop-packing.auto.values in
    let within : start ≤ length values = omega (arith, places, long, c.requires, c.loop-packing.invariant.0) in
    let more = lanes-after index g.row.N in (
      omega (arith, more, c.loop-packing.invariant.0),
      lanes_written packings index start _ (start + g.row.N) values c.copy_to_slice.new.slice c.loop-packing-test.true
          c.loop-packing.invariant.1 c.packing-item.result c.packing-item.is c.copy_to_slice.ensures refl within,
    )

pub returns : goal.returns
returns g c =
    let index = c.loop-packing.packing-index in
    let packings = c.args.packings.now in
    let start = c.loop-packing.start in
    let values = c.loop-packing.values in
    let same : index ≡ length packings = omega arith in
    let long = c.loop-packing.auto.values in
    let places : start ≡ length packings * g.row.N = c.loop-packing.invariant.0 ∙ ap (λ (n : ℕ). n * g.row.N) same in
    let all : length values ≤ start = omega (arith, long, c.requires, places) in
    sym (take_all start values all)
    ∙ c.loop-packing.invariant.1
    ∙ ap (flat_map lanes_of) (take_all index packings (omega (arith, same)))
