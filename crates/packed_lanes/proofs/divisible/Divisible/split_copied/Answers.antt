use Rattle.std.proofs.Common.{◌≡◌, ◌<◌, ◌≤◌, ◌++◌, ℕ, length, take, ◌∙◌, ap, arith, rules}
use Rattle.std.specs.List.{flat_map}
use Rattle.std.proofs.lemmas.List.{take_all}
use Rattle.field_base.specs.Chunks.{chunks}
use Rattle.field_base.proofs.ChunkLists.{chunk_pushed, none_pushed}
use Rattle.packed_lanes.proofs.PartLists.{row_pushed}
use Rattle.packed_lanes.proofs.divisible.Divisible.split_copied.Goals as goal

pub loop-i-init : goal.loop-i-init
loop-i-init g c = c.loop-place.invariant ∙ none_pushed g.V.Underlier.BITS _ _

pub loop-i-preserved : goal.loop-i-preserved
loop-i-preserved g c =
    chunk_pushed g.V.Underlier.number g.V.Underlier.BITS c.loop-i.i _ _ _ c.part.result _ c.in_ok-push.ensures.items c.loop-i.invariant
    c.part.ensures.value

pub loop-place-preserved : goal.loop-place-preserved
loop-place-preserved g c =
    let inside : c.loop-place.place < length c.args.rows.now = search rules in
    let all : c.loop-i.i ≡ g.Self.Divisible.RATIO = omega arith in
    row_pushed (λ x. chunks g.V.Underlier.BITS g.Self.Divisible.RATIO (g.Self.Underlier.number x)) c.args.rows.now c.loop-place.place
    c.index-rows-place.result _ inside c.index-rows-place.is
    (c.loop-i.invariant
    ∙ ap (λ (n : ℕ). flat_map (λ x. chunks g.V.Underlier.BITS g.Self.Divisible.RATIO (g.Self.Underlier.number x)) (take c.loop-place.place c.args.rows.now) ++ chunks g.V.Underlier.BITS n (g.Self.Underlier.number c.index-rows-place.result)) all)

pub returns : goal.returns
returns g c =
    let all : length c.args.rows.now ≤ c.loop-place.place = omega arith in
    c.loop-place.invariant
    ∙ ap (flat_map (λ x. chunks g.V.Underlier.BITS g.Self.Divisible.RATIO (g.Self.Underlier.number x))) (take_all c.loop-place.place c.args.rows.now all)
