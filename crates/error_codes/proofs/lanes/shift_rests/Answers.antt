use Rattle.std.proofs.Common.{◌≡◌, ◌+◌, ◌*◌, ◌<◌, ◌≤◌, ℕ, List, length, slice_index, sym, ◌∙◌, ap, subst, arith, w8, Fits}
use Rattle.std.specs.Prelude.{bit_xor}
use Rattle.std.specs.Simd.Lanes.{chunk}
use Rattle.std.proofs.lemmas.Nat.{xor_lt}
use Rattle.std.proofs.lemmas.Simd.{Each1-get_or, get_or-chunk, get_or-zip2, length-chunk}
use Rattle.word_tables.specs.Nibbles.{entry_sum}
use Rattle.reed_solomon.specs.ByteFields.{byte_times}
use Rattle.reed_solomon.proofs.ByteFields.{bytes_are_fields}
use Rattle.error_codes.proofs.LaneRegisters.{RowsWritten, product-looked_up, rows-more, rows-none}
use Rattle.error_codes.proofs.lanes.shift_rests.Goals as goal

pub loop-j-init : goal.loop-j-init
loop-j-init c = rows-none _ c.args.rests.now

pub loop-j-preserved : goal.loop-j-preserved
loop-j-preserved c =
    let old = c.args.rests.now in
    let tables = c.args.tables.now in
    let factors = c.sum-factors.result in
    let looked_up = λ (k lane : ℕ).
    entry_sum (chunk (32 * (k + 1)) 16 tables) (chunk (32 * (k + 1) + 16) 16 tables) (slice_index factors lane) in
    let value = λ (k lane : ℕ). bit_xor (slice_index old (32 * (k + 1) + lane)) (looked_up k lane) in
    let j = c.loop-j.j in
    subst (λ (l : List ℕ). RowsWritten value (j + 1) old l) (sym c.put_row.ensures)
    (rows-more value j old c.loop-j.rests c.next_row-row.result (omega (arith, c.requires.rests, c.loop-j-test.true))
    c.next_row-row.ensures.long
    (λ lane below.
    c.next_row-row.ensures.sums lane below
    ∙ ap (λ (v : ℕ). bit_xor v (looked_up j lane)) (c.loop-j.invariant.rest (32 * (j + 1) + lane) (omega arith)))
    c.loop-j.invariant)

pub returns-clause-shifted : goal.returns-clause-shifted
returns-clause-shifted c = λ field scalars have j lane below few.
    let times = byte_times field in
    let old = c.args.rests.now in
    let symbols = c.args.symbols in
    let room : 32 ≤ length old = omega (arith, c.requires.rests) in
    let lanes = c.fits-symbols.0 in
    let whole = length-chunk 0 32 old room in
    let nowhere : 0 + lane ≡ lane = omega arith in
    let factor : slice_index c.sum-factors.result lane ≡ bit_xor (slice_index symbols lane) (slice_index old lane) =
    ap (λ (l : List ℕ). slice_index l lane) c.sum-factors.ensures
    ∙ get_or-zip2 bit_xor symbols (chunk 0 32 old) lane 0 0 0 (omega (arith, lanes, few)) (omega (arith, whole, few))
    ∙ ap (bit_xor (slice_index symbols lane)) (get_or-chunk 0 32 old lane 0 few ∙ ap (slice_index old) nowhere) in
    let symbol : slice_index symbols lane < 256 =
    (Each1-get_or (Fits w8) symbols lane 0 (omega (arith, lanes, few)) c.fits-symbols.1).fits in
    let top : slice_index old lane < 256 = c.bytes_fit.ensures lane in
    c.loop-j.invariant.done j lane (omega (arith, below, c.loop-j-test.false)) few
    ∙ ap (bit_xor (slice_index old (32 * (j + 1) + lane)))
    (product-looked_up times (bytes_are_fields field).ring scalars c.args.tables.now (c.args.count + 1) (j + 1)
    (slice_index c.sum-factors.result lane) have (omega (arith, below))
    (subst (λ (v : ℕ). v < 256) (sym factor) (xor_lt 8 (slice_index symbols lane) (slice_index old lane) symbol top))
    ∙ ap (λ (v : ℕ). times v (slice_index scalars (j + 1))) factor)

pub returns-clause-others : goal.returns-clause-others
returns-clause-others c = λ p above.
    c.loop-j.invariant.rest p (omega (arith, above, c.loop-j.auto.j-end))
