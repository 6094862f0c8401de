use Rattle.std.proofs.Common.{◌≡◌, ◌<◌, true, sym, subst, rules}
use Rattle.packed_lanes.proofs.WordLists.{more_filled, nothing_filled}
use Rattle.packed_lanes.proofs.underlier.Underlier.random.Goals as goal

pub loop-i-init : goal.loop-i-init
loop-i-init g c = (
  nothing_filled g.Self.Word.Word.BITS g.Self.Word.Word.number _ _ _,
  subst (λ x. g.Self.Underlier.is_whole x ≡ true) (sym c.ZERO-row.ensures) g.Self.Underlier.zero_whole,
)

pub loop-i-preserved : goal.loop-i-preserved
loop-i-preserved g c =
    let inside : c.loop-i.i < g.Self.Underlier.WORD_COUNT = search rules in (
      more_filled g.Self.Word.Word.BITS g.Self.Word.Word.number _ _ g.Self.Underlier.WORD_COUNT c.loop-i.i _ _ _ _ c.sample_standard-word.result
          c.loop-i.invariant.0 inside c.sample_standard-word.ensures.drawn c.set_word.ensures.replaced,
      c.set_word.ensures.whole,
    )
