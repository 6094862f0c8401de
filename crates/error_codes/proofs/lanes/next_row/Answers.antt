use Rattle.std.proofs.Common.{◌≡◌, ◌+◌, ℕ, List, length, slice_index, sym, ◌∙◌, ap, ap₂, arith}
use Rattle.std.specs.Prelude.{bit_xor}
use Rattle.std.specs.Simd.Lanes.{chunk}
use Rattle.std.proofs.lemmas.List.{get_or-map, length-map}
use Rattle.std.proofs.lemmas.Simd.{get_or-chunk, get_or-zip2, length-chunk, length-zip2}
use Rattle.word_tables.specs.Nibbles.{entry_sum}
use Rattle.error_codes.proofs.lanes.next_row.Goals as goal

pub returns-clause-long : goal.returns-clause-long
returns-clause-long c =
    let rests = chunk c.args.start 32 c.args.rests.now in
    let row : length rests ≡ 32 = length-chunk c.args.start 32 c.args.rests.now c.requires.rests in
    let products : length c.entry_sums.result ≡ 32 =
    ap (λ (l : List ℕ). length l) c.entry_sums.ensures ∙ length-map c.args.factors _ ∙ c.fits-factors.0 in
    ap (λ (l : List ℕ). length l) c.sum.ensures ∙ length-zip2 bit_xor rests c.entry_sums.result (row ∙ sym products) ∙ row

pub returns-clause-sums : goal.returns-clause-sums
returns-clause-sums c = λ lane below.
    let rests = chunk c.args.start 32 c.args.rests.now in
    let tables = c.args.tables.now in
    let row : length rests ≡ 32 = length-chunk c.args.start 32 c.args.rests.now c.requires.rests in
    let lanes = c.fits-factors.0 in
    let products : length c.entry_sums.result ≡ 32 =
    ap (λ (l : List ℕ). length l) c.entry_sums.ensures ∙ length-map c.args.factors _ ∙ lanes in
    ap (λ (l : List ℕ). slice_index l lane) c.sum.ensures
    ∙ get_or-zip2 bit_xor rests c.entry_sums.result lane 0 0 0 (omega (arith, row, below)) (omega (arith, products, below))
    ∙ ap₂ bit_xor (get_or-chunk c.args.start 32 c.args.rests.now lane 0 below)
    (ap (λ (l : List ℕ). slice_index l lane) c.entry_sums.ensures
    ∙ get_or-map (entry_sum (chunk c.args.start 16 tables) (chunk (c.args.start + 16) 16 tables)) c.args.factors lane 0 0
    (omega (arith, lanes, below)))
