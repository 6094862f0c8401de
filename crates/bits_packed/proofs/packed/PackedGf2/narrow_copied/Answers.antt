use Rattle.std.proofs.Common.{◌≡◌, ◌<◌, ◌≤◌, ◌++◌, ℕ, length, map, take, ◌∙◌, ap, arith, rules}
use Rattle.std.specs.List.{flat_map}
use Rattle.std.proofs.lemmas.List.{take_all}
use Rattle.field_base.specs.Chunks.{chunks}
use Rattle.field_base.proofs.ChunkLists.{chunk_pushed, none_pushed}
use Rattle.packed_lanes.proofs.PartLists.{row_pushed}
use Rattle.bits_packed.proofs.packed.PackedGf2.narrow_copied.Goals as goal

pub loop-i-init : goal.loop-i-init
loop-i-init g c = record {
  room = omega (arith, c.in_ok-reserve.ensures.ok);
  so_far =
      ap (map (λ x. g.V.Underlier.number x.bits)) c.reserve.ensures.items ∙ c.loop-place.invariant ∙ none_pushed g.V.Underlier.BITS _ _;
}

pub loop-i-preserved : goal.loop-i-preserved
loop-i-preserved g c = record {
  room = omega (arith, c.push_reserved.ensures.len, c.push_reserved.ensures.capacity, c.loop-i.invariant.room);
  so_far =
      chunk_pushed (λ x. g.V.Underlier.number x.bits) g.V.Underlier.BITS c.loop-i.i _ _ _ c.narrow.result _
      c.push_reserved.ensures.items c.loop-i.invariant.so_far c.narrow.ensures;
}

pub loop-place-preserved : goal.loop-place-preserved
loop-place-preserved g c =
    let inside : c.loop-place.place < length c.args.packed.now = search rules in
    let all : c.loop-i.i ≡ g.U.Divisible.RATIO = omega arith in
    row_pushed (λ x. chunks g.V.Underlier.BITS g.U.Divisible.RATIO (g.U.Underlier.number x.bits)) c.args.packed.now c.loop-place.place
    c.index-packed-place.result _ inside c.index-packed-place.is
    (c.loop-i.invariant.so_far
    ∙ ap (λ (n : ℕ). flat_map (λ x. chunks g.V.Underlier.BITS g.U.Divisible.RATIO (g.U.Underlier.number x.bits)) (take c.loop-place.place c.args.packed.now) ++ chunks g.V.Underlier.BITS n (g.U.Underlier.number c.index-packed-place.result.bits)) all)

pub returns : goal.returns
returns g c =
    let all : length c.args.packed.now ≤ c.loop-place.place = omega arith in
    c.loop-place.invariant
    ∙ ap (flat_map (λ x. chunks g.V.Underlier.BITS g.U.Divisible.RATIO (g.U.Underlier.number x.bits))) (take_all c.loop-place.place c.args.packed.now all)
