use Rattle.std.proofs.Common.{◌≡◌, ◌+◌, ◌-◌, ◌<◌, ◌≤◌, ◌∙◌, ℕ, List, length, map, ap, ap₂, sym, subst, arith, lit<}
use Rattle.std.specs.Prelude.{bit_xor}
use Rattle.std.specs.Simd.Lanes.{zip2}
use Rattle.std.proofs.Math.ListN.{set}
use Rattle.std.proofs.lemmas.List.{length-map, map-set}
use Rattle.ghash_slices.specs.Multiples.{byte_of_multiple}
use Rattle.ghash_slices.proofs.HornerProducts.{RowsFrom, first_row, looked_up, row_of, row_step, rows_end, rows_start, second_row, upper_row}
use Rattle.ghash_slices.proofs.ShiftedBytes.{byte_of_tail, high_tails_high, high_tails_low, low_tails_high, low_tails_low, tail_high, tail_low}
use Rattle.ghash_slices.proofs.multiples.Multiples.step.Goals as goal

pub loop-turn-init : goal.loop-turn-init
loop-turn-init g c =
    let bytes = g.V.ByteVector.bytes in
    rows_start g.V.ByteVector.lanes c.args.self.now.scalar (bytes c.args.bytes) (map bytes c.args.sums.now)
    (length-map c.args.sums.now bytes ∙ c.told-sums)

pub loop-turn-preserved : goal.loop-turn-preserved
loop-turn-preserved g c =
    let V = g.V.ByteVector.bytes in
    let lanes = g.V.ByteVector.lanes in
    let turn = c.loop-turn.turn in
    let row : ℕ = 15 - turn in
    let few : row < 16 = omega arith in
    let upper : 2 ≤ row = omega arith in
    let above : 16 - turn ≡ row + 1 = omega arith in
    let here : row ≡ 16 - (turn + 1) = omega arith in
    let now = map V c.loop-turn.sums in
    let scalar = c.args.self.now.scalar in
    let bytes = V c.args.bytes in
    let old = map V c.args.sums.now in
    let written : map V (set c.loop-turn.sums row c.sum.result) ≡ set now row (zip2 bit_xor (row_of now (row - 1)) (map (byte_of_multiple scalar row) bytes)) =
    map-set V c.loop-turn.sums row c.sum.result
    ∙ ap (set now row) (c.sum.ensures ∙ ap₂ (zip2 bit_xor) c.row_at-below.ensures.bytes c.entries.ensures.bytes) in
    let from : RowsFrom lanes scalar bytes old (row + 1) now = subst (λ (n : ℕ). RowsFrom lanes scalar bytes old n now) above c.loop-turn.invariant in
    let long = ap length (sym c.row_at-below.ensures.bytes) ∙ c.row_at-below.ensures.count in
    subst (λ (n : ℕ). RowsFrom lanes scalar bytes old n (map V (set c.loop-turn.sums row c.sum.result))) here
    (subst (RowsFrom lanes scalar bytes old row) (sym written)
    (row_step lanes scalar bytes old row now (row_of now (row - 1)) few c.entries.ensures.count
    (upper_row lanes scalar bytes old row now upper few long from) from))

pub returns : goal.returns
returns g c values held =
    let V = g.V.ByteVector.bytes in
    let lanes = g.V.ByteVector.lanes in
    let now = map V c.loop-turn.sums in
    let scalar = c.args.self.now.scalar in
    let bytes = V c.args.bytes in
    let old = map V c.args.sums.now in
    let last : 16 - c.loop-turn.turn ≡ 2 = omega arith in
    let two : RowsFrom lanes scalar bytes old 2 now = subst (λ (n : ℕ). RowsFrom lanes scalar bytes old n now) last c.loop-turn.invariant in
    let tails = λ (row : ℕ). ap (map (byte_of_tail row)) c.row_at-top.ensures.bytes in
    let top_long = ap length (sym c.row_at-top.ensures.bytes) ∙ c.row_at-top.ensures.count in
    let low_long = ap length (sym c.row_at-lowest.ensures.bytes) ∙ c.row_at-lowest.ensures.count in
    let second : List ℕ = zip2 bit_xor (zip2 bit_xor (row_of now 0) (map (byte_of_tail 1) (row_of old 15))) (map (byte_of_multiple scalar 1) bytes) in
    let first : List ℕ = zip2 bit_xor (map (byte_of_tail 0) (row_of old 15)) (map (byte_of_multiple scalar 0) bytes) in
    let second_is : V c.sum-3.result ≡ second =
    c.sum-3.ensures
    ∙ ap₂ (zip2 bit_xor) (c.sum-2.ensures ∙ ap₂ (zip2 bit_xor) c.row_at-lowest.ensures.bytes (c.entry_sums-second_tails.ensures
    ∙ looked_up (byte_of_tail 1) low_tails_high high_tails_high tail_high (V c.row_at-top.result) c.holds_bytes.ensures.fit ∙ tails 1)) c.entries-2.ensures.bytes in
    let first_is : V c.sum-4.result ≡ first =
    c.sum-4.ensures ∙ ap₂ (zip2 bit_xor) (c.entry_sums-first_tails.ensures
    ∙ looked_up (byte_of_tail 0) low_tails_low high_tails_low tail_low (V c.row_at-top.result) c.holds_bytes.ensures.fit ∙ tails 0) c.entries-3.ensures.bytes in
    let one : RowsFrom lanes scalar bytes old 1 (set now 1 second) =
    row_step lanes scalar bytes old 1 now (zip2 bit_xor (row_of now 0) (map (byte_of_tail 1) (row_of old 15))) (lit< tt) c.entries-2.ensures.count
    (second_row lanes scalar bytes old now top_long low_long two) two in
    let written : map V (set (set c.loop-turn.sums 1 c.sum-3.result) 0 c.sum-4.result) ≡ set (set now 1 second) 0 first =
    map-set V (set c.loop-turn.sums 1 c.sum-3.result) 0 c.sum-4.result
    ∙ ap₂ (λ (m : List (List ℕ)) (l : List ℕ). set m 0 l) (map-set V c.loop-turn.sums 1 c.sum-3.result ∙ ap (set now 1) second_is) first_is in
    rows_end lanes scalar bytes old (map V (set (set c.loop-turn.sums 1 c.sum-3.result) 0 c.sum-4.result)) values held
    (subst (RowsFrom lanes scalar bytes old 0) (sym written)
    (row_step lanes scalar bytes old 0 (set now 1 second) (map (byte_of_tail 0) (row_of old 15)) (lit< tt) c.entries-2.ensures.count
    (first_row lanes scalar bytes old top_long) one))
