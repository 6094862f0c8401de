use Rattle.std.proofs.Common.{◌≡◌, ◌<◌, true, sym, subst, arith, rules}
use Rattle.packed_lanes.proofs.WordLists.{more_zipped}
use Rattle.packed_lanes.proofs.underlier.Underlier.zip.Goals as goal

pub loop-i-init : goal.loop-i-init
loop-i-init g c = (
  λ k less. absurd (omega arith),
  subst (λ x. g.Self.Underlier.is_whole x ≡ true) (sym c.ZERO-row.ensures) g.Self.Underlier.zero_whole,
)

pub loop-i-preserved : goal.loop-i-preserved
loop-i-preserved g c =
    let inside : c.loop-i.i < g.Self.Underlier.WORD_COUNT = search rules in (
      more_zipped g.Self.Word.Word.BITS g.Self.Underlier.WORD_COUNT c.loop-i.i _ _ _ _ g.Self.Word.Word.number _ _ _ _ inside
          c.word.ensures c.word-in-loop-i.ensures c.f.ensures c.set_word.ensures.replaced c.loop-i.invariant.0,
      c.set_word.ensures.whole,
    )

pub returns-clause-each : goal.returns-clause-each
returns-clause-each g c =
    let all : c.loop-i.i ≡ g.Self.Underlier.WORD_COUNT = omega arith in
    λ k less. c.loop-i.invariant.0 k (omega arith)

pub returns-clause-whole : goal.returns-clause-whole
returns-clause-whole g c = c.loop-i.invariant.1
