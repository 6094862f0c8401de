use Rattle.std.proofs.Common.{◌∙◌}
use Rattle.bit_slices.proofs.PolynomialPairs.{carried_by_pairs, tail_of_pairs}
use Rattle.bit_slices.proofs.pair.PairSlicedPolynomials.add_by_tail.Goals as goal

pub returns-clause-added : goal.returns-clause-added
returns-clause-added g c l =
    let lane = g.T.Sliced.lane in
    let fits = g.T.Sliced.fits_law in
    let sum = c.args.self.now in
    let x = c.args.x.now in
    let all =
    tail_of_pairs g.T.Sliced.LEVEL g.M.Tail.NUMBER _ _ (lane x.high l) (lane sum.high l) (fits x.low l) (fits sum.low l)
    (c.add_by_tail.ensures.carried l) in
    cc (all, c.add_by_tail.ensures.added l, c.add_by_tail-2.ensures.added l)

pub returns-clause-carried : goal.returns-clause-carried
returns-clause-carried g c l =
    let x = c.args.x.now in
    c.add_by_tail-2.ensures.carried l
    ∙ carried_by_pairs g.T.Sliced.LEVEL g.M.Tail.NUMBER _ _ (g.T.Sliced.lane x.high l) (g.T.Sliced.fits_law x.low l)
    (c.add_by_tail.ensures.carried l)
