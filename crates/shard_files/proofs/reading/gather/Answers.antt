use Rattle.std.proofs.Common.{ℕ, length, sym, ◌∙◌, ap, subst, arith}
use Rattle.std.proofs.lemmas.List.{take_at}
use Rattle.shard_files.specs.Groups.{GivesPiece, IsGathered, numbered, Takes}
use Rattle.shard_files.specs.declared.head.Origin.{Origin}
use Rattle.shard_files.proofs.Groups.{gathered_more, gathered_none}
use Rattle.shard_files.proofs.reading.gather.Goals as goal

pub loop-place-init : goal.loop-place-init
loop-place-init g c =
    let group = c.in_ok-group.group in (
      c.in_ok-group.ensures.of,
      omega (arith, c.in-Ok.ensures),
      λ files held. (held, gathered_none c.args.layout.origin files c.args.stripe group.shards.items group.present.items c.in_ok-group.ensures.empty),
    )

pub loop-place-preserved : goal.loop-place-preserved
loop-place-preserved g c =
    let place = c.loop-place.place in
    let stripe = c.args.stripe in
    let old = c.loop-place.group in
    let new = c.take_next.new.group in
    let kept = c.loop-place.invariant in (
      c.take_next.ensures.of ∙ kept.0,
      ap length (take_at c.take_next.new.piece _ c.loop-place.piece.len (c.take_next.auto.piece ∙ ap length c.as_mut_slice.ensures.value ∙ sym c.loop-place.piece.ok.0))
          ∙ c.take_next.auto.piece ∙ ap length c.as_mut_slice.ensures.value ∙ kept.1,
      λ files held.
          let before = kept.2 files held in (
            c.take_next.ensures.kept files before.0,
            gathered_more c.args.layout.origin files stripe place old.shards.items new.shards.items old.present.items new.present.items before.1
                (subst (λ (origin : Origin). Takes origin (λ index shard. GivesPiece files place (numbered origin index) stripe shard)
                old.shards.items old.present.items new.shards.items new.present.items) kept.0
                (c.take_next.ensures.taken files before.0)),
          ),
    )

pub returns-clause-of : goal.returns-clause-of
returns-clause-of g c = c.loop-place.invariant.0

pub returns-clause-kept : goal.returns-clause-kept
returns-clause-kept g c = λ files held. (c.loop-place.invariant.2 files held).0

pub returns-clause-gathered : goal.returns-clause-gathered
returns-clause-gathered g c =
    λ files held.
    let group = c.loop-place.group in
    let count = c.count-place-end.ensures files held in
    subst (λ (n : ℕ). IsGathered c.args.layout.origin files c.args.stripe n group.shards.items group.present.items)
    (omega (arith, count, c.loop-place-test.false, c.loop-place.auto.place-end)) (c.loop-place.invariant.2 files held).1
