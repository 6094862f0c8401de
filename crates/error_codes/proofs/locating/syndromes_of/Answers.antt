use Rattle.std.proofs.Common.{◌≡◌, ℕ, length, set, slice_index, refl, ◌∙◌, below_more, arith}
use Rattle.std.proofs.lemmas.List.{get_or-set_other, get_or-set_same, length-set}
use Rattle.field_base.specs.Powers.{power}
use Rattle.error_codes.specs.Checks.{syndrome}
use Rattle.error_codes.proofs.Moments.{sum-same}
use Rattle.reed_solomon.specs.ByteFields.{byte_times}
use Rattle.error_codes.specs.Sharing.{share_at}
use Rattle.error_codes.proofs.Loops.{first-term, next-term}
use Rattle.error_codes.proofs.locating.syndromes_of.Goals as goal

pub loop-m-init : goal.loop-m-init
loop-m-init c = (
  refl,
  λ m below. absurd (omega (arith, below)),
  λ i below.
      c.scaled_column-terms.ensures i below
      ∙ first-term c.args.field (slice_index c.args.scales.now i) (share_at c.args.size c.args.shares.now c.args.j i) (slice_index c.args.indexes.now i),
)

pub loop-m-preserved : goal.loop-m-preserved
loop-m-preserved c =
    let times = byte_times c.args.field in
    let n : ℕ = length c.args.indexes.now in
    let term = λ (i : ℕ). byte_times c.args.field (slice_index c.args.scales.now i) (share_at c.args.size c.args.shares.now c.args.j i) in (
      length-set c.loop-m.sums _ _ ∙ c.loop-m.invariant.0,
      below_more
          (λ m. slice_index (set c.loop-m.sums c.loop-m.m c.next_sum.result) m
          ≡ syndrome times n (slice_index c.args.indexes.now) (slice_index c.args.scales.now) (share_at c.args.size c.args.shares.now c.args.j) m)
          c.loop-m.m
          (λ m below. get_or-set_other c.loop-m.sums c.loop-m.m m _ 0 (λ e. absurd (omega (arith, e, below))) ∙ c.loop-m.invariant.1 m below)
          (get_or-set_same c.loop-m.sums c.loop-m.m _ 0 (let long = c.loop-m.invariant.0 in omega (arith, long, c.loop-m-test.true, c.requires.short))
          ∙ c.next_sum.ensures.sum
          ∙ sum-same (slice_index c.loop-m.terms)
          (λ i. times (times (slice_index c.args.scales.now i) (share_at c.args.size c.args.shares.now c.args.j i))
          (power 1 times (slice_index c.args.indexes.now i) c.loop-m.m)) n c.loop-m.invariant.2),
      λ i below.
          c.next_sum.ensures.next i below
          ∙ next-term c.args.field (term i) (slice_index c.args.indexes.now i) c.loop-m.m (slice_index c.loop-m.terms i) (c.loop-m.invariant.2 i below),
    )
