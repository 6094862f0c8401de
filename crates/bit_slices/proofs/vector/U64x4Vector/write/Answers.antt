use Rattle.std.proofs.Common.{◌≡◌, ℕ, ◌+◌, ◌*◌, ◌<◌, ◌^◌, w64, get_or, sym, ◌∙◌, ap, arith}
use Rattle.std.proofs.lemmas.Simd.{Each1-get_or, below_from_Fits}
use Rattle.bit_slices.specs.Lanes.{bit_lane}
use Rattle.bit_slices.proofs.Layouts.{kept_behind, still_laid_out}
use Rattle.bit_slices.proofs.VectorLayouts.{laid_out_digits, laid_out_twice, lanes_of_first, lanes_of_two}
use Rattle.bit_slices.proofs.vector.U64x4Vector.write.Goals as goal

pub returns-clause-written : goal.returns-clause-written
returns-clause-written g c d =
    let count = g.R.TowerWord.COUNT in
    let w = 2 ^ g.R.TowerWord.LEVEL in
    let x = c.args.self in
    let start = c.args.start in
    let number = g.W.Reads.number in
    let word = λ (n : ℕ). number (get_or c.split-2.new.words n d) in
    let middle : ℕ = start + c.COUNT.result in
    let next : middle ≡ start + count = ap (λ (n : ℕ). start + n) c.COUNT.ensures in
    let one_count : middle ≡ start + 1 * count = omega (arith, next) in
    let whole : w * count ≡ 128 = ap (λ (n : ℕ). n * count) (sym g.met.R.TowerWord.bits_law) ∙ g.met.R.TowerWord.whole_law in
    let below = below_from_Fits w64 x c.fits-self.1 in
    let low : get_or x 0 0 < 2 ^ 64 = Each1-get_or (λ (n : ℕ). n < 2 ^ 64) x 0 0 (omega (arith, c.fits-self.0)) below in
    let high : get_or x 2 0 < 2 ^ 64 = Each1-get_or (λ (n : ℕ). n < 2 ^ 64) x 2 0 (omega (arith, c.fits-self.0)) below in
    laid_out_twice w count start middle (bit_lane x) word whole next
    (still_laid_out w count 1 start count number c.split.new.words c.split-2.new.words d (bit_lane x) one_count c.split-2.ensures.kept
    (laid_out_digits w count c.join_128.result (bit_lane x) (λ n. number (get_or c.split.new.words (start + n) d)) whole
    (lanes_of_first x c.join_128.result c.join_128.ensures low) (λ q less. c.split.ensures.digits q less d)))
    (laid_out_digits w count c.join_128-2.result (λ l. bit_lane x (128 + l)) (λ n. word (middle + n)) whole
    (lanes_of_two x 2 c.join_128-2.result c.join_128-2.ensures high) (λ q less. c.split-2.ensures.digits q less d))

pub returns-clause-kept : goal.returns-clause-kept
returns-clause-kept g c =
    let count = g.R.TowerWord.COUNT in
    kept_behind c.args.start count count (c.args.start + c.COUNT.result) (2 * count) c.args.words.now c.split.new.words c.split-2.new.words
    (ap (λ (n : ℕ). c.args.start + n) c.COUNT.ensures) (omega arith) c.split.ensures.kept c.split-2.ensures.kept
