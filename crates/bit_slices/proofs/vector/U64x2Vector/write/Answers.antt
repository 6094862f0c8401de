use Rattle.std.proofs.Common.{◌≡◌, ℕ, ◌+◌, ◌*◌, ◌<◌, ◌^◌, w64, get_or, sym, ◌∙◌, ap, subst, arith}
use Rattle.std.proofs.lemmas.Simd.{Each1-get_or, below_from_Fits}
use Rattle.bit_slices.specs.Lanes.{bit_lane}
use Rattle.bit_slices.specs.Layout.{IsLaidOut}
use Rattle.bit_slices.proofs.VectorLayouts.{laid_out_digits, lanes_of_first}
use Rattle.bit_slices.proofs.vector.U64x2Vector.write.Goals as goal

pub returns-clause-written : goal.returns-clause-written
returns-clause-written g c d =
    let count = g.R.TowerWord.COUNT in
    let w = 2 ^ g.R.TowerWord.LEVEL in
    let x = c.args.self in
    let word = λ (n : ℕ). g.W.Reads.number (get_or c.split.new.words (c.args.start + n) d) in
    let one : count ≡ 1 * count = omega arith in
    let whole : w * count ≡ 128 = ap (λ (n : ℕ). n * count) (sym g.met.R.TowerWord.bits_law) ∙ g.met.R.TowerWord.whole_law in
    let low : get_or x 0 0 < 2 ^ 64 = Each1-get_or (λ (n : ℕ). n < 2 ^ 64) x 0 0 (omega (arith, c.fits-self.0)) (below_from_Fits w64 x c.fits-self.1) in
    subst (λ (each : ℕ). IsLaidOut w each 1 (bit_lane x) word) one
    (laid_out_digits w count c.join_128.result (bit_lane x) word whole (lanes_of_first x c.join_128.result c.join_128.ensures low)
    (λ q less. c.split.ensures.digits q less d))
