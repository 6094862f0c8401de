use Rattle.std.proofs.Common.{◌≡◌, ◌%◌, ◌/◌, ℕ, sym, ◌∙◌, ap, ap₂, arith}
use Rattle.bit_slices.specs.Called.{lanes_8}
use Rattle.bit_slices.specs.Lanes.{bit_lane}
use Rattle.bit_slices.specs.lemmas.Lane.{bit_lane-lt}
use Rattle.bit_slices.specs.Tails.{tail_product}
use Rattle.bit_slices.proofs.TailSteps.{step_carried, step_lowest, terms_added}
use Rattle.bit_slices.proofs.tails.step.Goals as goal

pub returns-clause-lowest : goal.returns-clause-lowest
unfolding lanes_8
returns-clause-lowest g c l =
    let words = g.V.WordVector.words in
    let bit = bit_lane (words c.args.bit.now.words) l in
    c.add.ensures l
    ∙ step_lowest g.M.Tail.NUMBER bit (bit_lane (words c.shift_down-lowest.result.words) l) _ g.M.Tail.odd_law
    (bit_lane-lt (words c.args.bit.now.words) l) (bit_lane-lt (words c.shift_down-lowest.result.words) l)
    ∙ ap (λ (z : ℕ). tail_product g.M.Tail.NUMBER bit z % 2) (sym (c.shift_down-lowest.ensures l))

pub returns-clause-carried : goal.returns-clause-carried
unfolding lanes_8
returns-clause-carried g c l =
    let words = g.V.WordVector.words in
    let tail = c.NUMBER-tail.result in
    let bit = bit_lane (words c.args.bit.now.words) l in
    let fits = bit_lane-lt (words c.args.bit.now.words) l in
    let odd : tail % 2 ≡ 1 = ap (λ (n : ℕ). n % 2) c.NUMBER-tail.ensures ∙ g.M.Tail.odd_law in
    let before = c.shift_down-lowest.new.carry.inner in
    let added =
    terms_added _ _ _ _ _ _ _ (bit_lane (words before.high.high.high.words) l) bit tail (omega arith)
    (bit_lane-lt (words before.low.low.low.words) l) (bit_lane-lt (words before.low.low.high.words) l)
    (bit_lane-lt (words before.low.high.low.words) l) (bit_lane-lt (words before.low.high.high.words) l)
    (bit_lane-lt (words before.high.low.low.words) l) (bit_lane-lt (words before.high.low.high.words) l)
    (bit_lane-lt (words before.high.high.low.words) l) fits in
    cc (
      added,
      c.add_term.ensures l,
      c.add_term-2.ensures l,
      c.add_term-3.ensures l,
      c.add_term-4.ensures l,
      c.add_term-5.ensures l,
      c.add_term-6.ensures l,
      c.add_term-7.ensures l,
    )
    ∙ step_carried tail bit (bit_lane (words c.shift_down-lowest.result.words) l) _ odd fits
    (bit_lane-lt (words c.shift_down-lowest.result.words) l)
    ∙ ap₂ (λ (n z : ℕ). tail_product n bit z / 2) c.NUMBER-tail.ensures (sym (c.shift_down-lowest.ensures l))
