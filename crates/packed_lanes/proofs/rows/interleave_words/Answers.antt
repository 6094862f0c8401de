use Rattle.std.proofs.Common.{◌≡◌, ◌<◌, ◌+◌, ◌-◌, ◌/◌, ◌%◌, ℕ, true, sym, subst, arith, rules}
use Rattle.field_base.specs.Chunks.{chunk}
use Rattle.packed_lanes.proofs.BlockLemmas.{block_some, first_of_words, more_parts, second_of_words}
use Rattle.packed_lanes.proofs.LaneLemmas.{power_some}
use Rattle.packed_lanes.proofs.rows.interleave_words.Goals as goal

pub loop-i-init : goal.loop-i-init
loop-i-init g c =
    record {
      first = λ k less. absurd (omega arith);
      second = λ k less. absurd (omega arith);
      first_whole = subst (λ x. g.U.Underlier.is_whole x ≡ true) (sym c.ZERO-first.ensures) g.U.Underlier.zero_whole;
      second_whole = subst (λ x. g.U.Underlier.is_whole x ≡ true) (sym c.ZERO-second.ensures) g.U.Underlier.zero_whole;
    }

pub loop-i-preserved : goal.loop-i-preserved
loop-i-preserved g c =
    let row = g.U.Underlier in
    let word = g.U.Word.Word in
    let inside : c.loop-i.i < row.WORD_COUNT = search rules in
    record {
      first =
          more_parts (λ (k x : ℕ). (k / c.args.block % 2 ≡ 0 → x ≡ chunk word.BITS k (row.number c.args.left.now)) × (k / c.args.block % 2 ≡ 1 → x ≡ chunk word.BITS (k - c.args.block) (row.number c.args.right.now)))
          word.BITS row.WORD_COUNT (row.number c.loop-i.first) c.loop-i.i (word.number c.first_word.result) (row.number c.set_word.new.self)
          inside c.set_word.ensures.replaced
          (c.first_word.ensures.even, c.first_word.ensures.odd)
          c.loop-i.invariant.first;
      second =
          more_parts (λ (k x : ℕ). (k / c.args.block % 2 ≡ 0 → x ≡ chunk word.BITS (k + c.args.block) (row.number c.args.left.now)) × (k / c.args.block % 2 ≡ 1 → x ≡ chunk word.BITS k (row.number c.args.right.now)))
          word.BITS row.WORD_COUNT (row.number c.loop-i.second) c.loop-i.i (word.number c.second_word.result) (row.number c.set_word-in-loop-i.new.self)
          inside c.set_word-in-loop-i.ensures.replaced
          (c.second_word.ensures.even, c.second_word.ensures.odd)
          c.loop-i.invariant.second;
      first_whole = c.set_word.ensures.whole;
      second_whole = c.set_word-in-loop-i.ensures.whole;
    }

pub returns-clause-first : goal.returns-clause-first
returns-clause-first g c =
    first_of_words g.U.Word.Word.BITS c.args.block g.U.Underlier.WORD_COUNT g.U.Underlier.BITS _ _ _ (power_some _ _ g.met.U.Word.Word.bits_law)
    (block_some _ _ c.requires) g.met.U.Underlier.bits_law (λ k less. let here : k < c.loop-i.i = omega arith in c.loop-i.invariant.first k here)

pub returns-clause-second : goal.returns-clause-second
returns-clause-second g c =
    second_of_words g.U.Word.Word.BITS c.args.block g.U.Underlier.WORD_COUNT g.U.Underlier.BITS _ _ _ (power_some _ _ g.met.U.Word.Word.bits_law)
    (block_some _ _ c.requires) g.met.U.Underlier.bits_law (λ k less. let here : k < c.loop-i.i = omega arith in c.loop-i.invariant.second k here)
