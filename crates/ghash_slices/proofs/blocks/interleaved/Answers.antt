use Rattle.std.proofs.Common.{◌<◌, ◌+◌, ◌*◌, ℕ, List, get_or, ◌∙◌, ap, ap₂, arith, ◌++◌}
use Rattle.std.specs.Simd.Lanes.{pick_l, put_chunk}
use Rattle.ghash_slices.proofs.BlockLemmas.{first_half, rows_woven, second_half}
use Rattle.ghash_slices.proofs.blocks.interleaved.Goals as goal

pub loop-row-preserved : goal.loop-row-preserved
loop-row-preserved c =
    let row = c.loop-row.row in
    let bytes = c.args.bytes.now in
    let few : row < 8 = omega arith in
    let lanes = ap₂ (λ (a b : List ℕ). a ++ b) c.lanes_at.ensures.lanes c.lanes_at-in-loop-row.ensures.lanes in
    let written =
    c.put_lanes-in-loop-row.ensures
    ∙ ap₂ (λ (l : List ℕ) (ab : List ℕ). put_chunk (32 * row + 16) l (pick_l 0 ab second_half))
    (c.put_lanes.ensures ∙ ap (λ (ab : List ℕ). put_chunk (32 * row) c.loop-row.mixed (pick_l 0 ab first_half)) lanes) lanes in (
      c.put_lanes-in-loop-row.auto.bytes ∙ c.put_lanes.auto.bytes ∙ c.loop-row.invariant.0,
      λ p below.
          ap (λ (l : List ℕ). get_or l p 0) written
          ∙ rows_woven bytes c.loop-row.mixed row few c.told-bytes c.loop-row.invariant.0 c.loop-row.invariant.1 p below,
    )
