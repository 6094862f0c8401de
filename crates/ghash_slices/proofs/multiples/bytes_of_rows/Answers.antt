use Rattle.std.proofs.Common.{◌<◌, ◌+◌, ◌*◌, ◌∙◌, ℕ, List, length, get_or, ap, sym, arith}
use Rattle.std.specs.Simd.Lanes.{put_chunk}
use native.Mathlib.Nat.{zero-add}
use Rattle.ghash_slices.proofs.HornerProducts.{row_of, rows_same}
use Rattle.ghash_slices.proofs.TwoBlocks.{lanes_hold, lanes_same, lanes_written}
use Rattle.ghash_slices.proofs.multiples.bytes_of_rows.Goals as goal

pub loop-row-preserved : goal.loop-row-preserved
loop-row-preserved c =
    let row = c.loop-row.row in
    let few : row < 16 = omega arith in
    let rows = c.args.rows.now in
    let is = c.row_at.ensures.bytes ∙ ap (λ (l : List (List ℕ)). row_of l row) (lanes_same rows) in (
      c.put_lanes.auto.bytes ∙ c.loop-row.invariant.0,
      λ p below.
          ap (λ (l : List ℕ). get_or l p 0) (c.put_lanes.ensures ∙ ap (put_chunk (16 * row) c.loop-row.bytes) is)
          ∙ lanes_written rows 0 row c.loop-row.bytes (row_of rows row) c.loop-row.invariant.0 few (ap length (sym is) ∙ c.row_at.ensures.count)
          (λ e small. ap (λ (n : ℕ). get_or (row_of rows row) n 0) (sym (zero-add e))) c.loop-row.invariant.1 p below,
    )

pub returns : goal.returns
returns c values held =
    rows_same c.loop-row.bytes (λ e. values (0 + e)) values (λ e small. ap values (zero-add e))
    (lanes_hold 16 c.args.rows.now 0 c.loop-row.bytes values (omega arith) held (λ p below. c.loop-row.invariant.1 p (omega arith)))
