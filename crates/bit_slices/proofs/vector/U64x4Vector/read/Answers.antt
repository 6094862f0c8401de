use Rattle.std.proofs.Common.{◌≡◌, ℕ, ◌+◌, ◌*◌, ◌<◌, ◌^◌, [], ◌∷◌, get_or, sym, ◌∙◌, ap, arith}
use Rattle.bit_slices.specs.Lanes.{bit_lane}
use Rattle.bit_slices.proofs.VectorLayouts.{laid_out_digits, laid_out_twice, lanes_of_first, lanes_of_two}
use Rattle.bit_slices.proofs.vector.U64x4Vector.read.Goals as goal

pub returns-clause-read : goal.returns-clause-read
returns-clause-read g c d =
    let count = g.R.TowerWord.COUNT in
    let w = 2 ^ g.R.TowerWord.LEVEL in
    let x = c.split_128-a.result.0 ∷ c.split_128-a.result.1 ∷ c.split_128-c.result.0 ∷ c.split_128-c.result.1 ∷ [] in
    let word = λ (n : ℕ). g.W.Reads.number (get_or c.args.words.now n d) in
    let middle : ℕ = c.args.start + c.COUNT.result in
    let whole : w * count ≡ 128 = ap (λ (n : ℕ). n * count) (sym g.met.R.TowerWord.bits_law) ∙ g.met.R.TowerWord.whole_law in
    let low : c.split_128-a.result.0 < 2 ^ 64 = omega arith in
    let high : c.split_128-c.result.0 < 2 ^ 64 = omega arith in
    laid_out_twice w count c.args.start middle (bit_lane x) word whole (ap (λ (n : ℕ). c.args.start + n) c.COUNT.ensures)
    (laid_out_digits w count c.join.result (bit_lane x) (λ n. word (c.args.start + n)) whole (lanes_of_first x c.join.result c.split_128-a.ensures low)
    (λ q less. c.join.ensures q less d))
    (laid_out_digits w count c.join-2.result (λ l. bit_lane x (128 + l)) (λ n. word (middle + n)) whole
    (lanes_of_two x 2 c.join-2.result c.split_128-c.ensures high) (λ q less. c.join-2.ensures q less d))
