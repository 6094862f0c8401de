use Rattle.std.proofs.Common.{◌≡◌, ◌<◌, ℕ, true, ◌∙◌, ap, sym, subst, arith, rules}
use Rattle.field_base.specs.Chunks.{chunks}
use Rattle.field_base.proofs.Calls.{may_go_on}
use Rattle.packed_lanes.proofs.WordLists.{more_filled, nothing_filled}
use Rattle.packed_lanes.proofs.underlier.Underlier.from_words_fn.Goals as goal

pub loop-i-init : goal.loop-i-init
loop-i-init g c = (
  c.requires,
  nothing_filled g.Self.Word.Word.BITS g.Self.Word.Word.number _ _ _,
  subst (λ x. g.Self.Underlier.is_whole x ≡ true) (sym c.ZERO-row.ensures) g.Self.Underlier.zero_whole,
)

pub loop-i-preserved : goal.loop-i-preserved
loop-i-preserved g c =
    let inside : c.loop-i.i < g.Self.Underlier.WORD_COUNT = search rules in (
      may_go_on _ c.loop-i.i inside c.loop-i.invariant.0 _ (c.f.result, c.f.ensures),
      more_filled g.Self.Word.Word.BITS g.Self.Word.Word.number _ _ g.Self.Underlier.WORD_COUNT c.loop-i.i _ _ _ _ c.f.result
          c.loop-i.invariant.1 inside c.f.ensures c.set_word.ensures.replaced,
      c.set_word.ensures.whole,
    )

pub returns-clause-filled : goal.returns-clause-filled
returns-clause-filled g c =
    let done = c.loop-i.invariant.1 in
    let all : c.loop-i.i ≡ g.Self.Underlier.WORD_COUNT = omega arith in (
      c.loop-i.f,
      (
        done.taken,
        done.fills,
        done.are ∙ ap (λ (n : ℕ). chunks g.Self.Word.Word.BITS n (g.Self.Underlier.number c.loop-i.row)) all,
      ),
    )

pub returns-clause-whole : goal.returns-clause-whole
returns-clause-whole g c = c.loop-i.invariant.2
