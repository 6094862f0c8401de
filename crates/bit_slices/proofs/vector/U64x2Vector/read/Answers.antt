use Rattle.std.proofs.Common.{◌≡◌, ℕ, ◌+◌, ◌*◌, ◌^◌, [], ◌∷◌, get_or, sym, ◌∙◌, ap, subst, arith}
use Rattle.bit_slices.specs.Lanes.{bit_lane}
use Rattle.bit_slices.specs.Layout.{IsLaidOut}
use Rattle.bit_slices.proofs.VectorLayouts.{laid_out_digits, lanes_of_first}
use Rattle.bit_slices.proofs.vector.U64x2Vector.read.Goals as goal

pub returns-clause-read : goal.returns-clause-read
returns-clause-read g c d =
    let count = g.R.TowerWord.COUNT in
    let w = 2 ^ g.R.TowerWord.LEVEL in
    let x = c.split_128-low.result.0 ∷ c.split_128-low.result.1 ∷ [] in
    let word = λ (n : ℕ). g.W.Reads.number (get_or c.args.words.now (c.args.start + n) d) in
    let one : count ≡ 1 * count = omega arith in
    let whole : w * count ≡ 128 = ap (λ (n : ℕ). n * count) (sym g.met.R.TowerWord.bits_law) ∙ g.met.R.TowerWord.whole_law in
    subst (λ (each : ℕ). IsLaidOut w each 1 (bit_lane x) word) one
    (laid_out_digits w count c.join.result (bit_lane x) word whole (lanes_of_first x c.join.result c.split_128-low.ensures (omega arith))
    (λ q less. c.join.ensures q less d))
