use Rattle.std.proofs.Common.{◌≡◌, ◌<◌, ◌+◌, ◌*◌, ◌∙◌, ℕ, List, length, get_or, ap, sym, arith}
use native.Mathlib.Nat.{zero-add}
use Rattle.std.specs.Simd.Lanes.{chunk, put_chunk}
use Rattle.std.proofs.lemmas.Simd.{get_or-chunk, length-chunk}
use Rattle.ghash_slices.proofs.HornerProducts.{row_of, rows_same}
use Rattle.ghash_slices.proofs.TwoBlocks.{lanes_hold, lanes_same, lanes_written, two_halves_of}
use Rattle.ghash_slices.proofs.multiples.bytes_of_both.Goals as goal

pub loop-row-preserved : goal.loop-row-preserved
loop-row-preserved c =
    let row = c.loop-row.row in
    let few : row < 16 = omega arith in
    let rows = c.args.rows.now in
    let lanes : List ℕ = row_of rows row in
    let is = c.row_at.ensures.bytes ∙ ap (λ (l : List (List ℕ)). row_of l row) (lanes_same rows) in
    let long = ap length (sym is) ∙ c.row_at.ensures.count in
    let one_long : length (chunk 0 16 lanes) ≡ 16 = length-chunk 0 16 lanes (omega (arith, long)) in
    let other_long : length (chunk 16 16 lanes) ≡ 16 = length-chunk 16 16 lanes (omega (arith, long)) in
    let split = c.halves.ensures (chunk 0 16 lanes) (chunk 16 16 lanes) one_long other_long (is ∙ two_halves_of lanes long) in
    let before = c.loop-row.invariant in (
      (
        c.put_lanes.auto.bytes ∙ before.0.0,
        λ p below.
            ap (λ (l : List ℕ). get_or l p 0) (c.put_lanes.ensures ∙ ap (put_chunk (16 * row) c.loop-row.first) split.0)
            ∙ lanes_written rows 0 row c.loop-row.first (chunk 0 16 lanes) before.0.0 few one_long
            (λ e small. get_or-chunk 0 16 lanes e 0 small) before.0.1 p below,
      ),
      (
        c.put_lanes-in-loop-row.auto.bytes ∙ before.1.0,
        λ p below.
            ap (λ (l : List ℕ). get_or l p 0) (c.put_lanes-in-loop-row.ensures ∙ ap (put_chunk (16 * row) c.loop-row.second) split.1)
            ∙ lanes_written rows 16 row c.loop-row.second (chunk 16 16 lanes) before.1.0 few other_long
            (λ e small. get_or-chunk 16 16 lanes e 0 small) before.1.1 p below,
      ),
    )

pub returns : goal.returns
returns c values held = (
  rows_same c.loop-row.first (λ e. values (0 + e)) values (λ e small. ap values (zero-add e))
      (lanes_hold 32 c.args.rows.now 0 c.loop-row.first values (omega arith) held (λ p below. c.loop-row.invariant.0.1 p (omega arith))),
  lanes_hold 32 c.args.rows.now 16 c.loop-row.second values (omega arith) held (λ p below. c.loop-row.invariant.1.1 p (omega arith)),
)
