use Rattle.std.proofs.Common.{ℕ, sym, ◌∙◌, ap, arith}
use Rattle.std.specs.Prelude.{bit_xor}
use Rattle.field_base.specs.Powers.{dot_of}
use Rattle.many_words.proofs.WordDots.{dot_of-parts}
use Rattle.many_words.proofs.dots.dot_of_blocks.Goals as goal

pub parts-init : goal.parts-init
parts-init g c = (
  c.requires,
  ap (λ (s : ℕ). bit_xor s (dot_of g.K.FieldKernel.product g.P.Reads.number c.args.left.now c.args.right.now))
      (ap g.R.Stored.number c.ZERO-sum.ensures ∙ g.R.Stored.zero_number),
)

pub parts-preserved : goal.parts-preserved
parts-preserved g c =
    let number = g.P.Reads.number in
    let first = c.split_at in
    let second = c.split_at-in-parts in (
      omega (arith, c.parts.invariant.0, first.ensures.back_len, second.ensures.back_len),
      dot_of-parts g.K.FieldKernel.product number c.parts.rest_left.now c.parts.rest_right.now first.result.0.now second.result.0.now
          first.result.1.now second.result.1.now (g.R.Stored.number c.parts.sum) (g.R.Stored.number c.with_block-sum.result) _
          (first.ensures.front_len ∙ sym second.ensures.front_len) first.ensures.by_index.0 second.ensures.by_index.0
          c.parts.invariant.1 c.with_block-sum.ensures,
    )
