use Rattle.std.proofs.Common.{◌/◌, map}
use Rattle.additive_transforms.specs.Halves.{lane_of_halves}
use Rattle.additive_transforms.proofs.UnitFacts.{half_units, joint, joint-first, joint-second, evens_of, odds_of, pairs_put, two_put}
use Rattle.additive_transforms.proofs.word_planes.PairWordPlanesHalfMultiples.scatter.Goals as goal

pub scatter-requires-clause-count : goal.scatter-requires-clause-count
scatter-requires-clause-count g c =
    (half_units g.P.Planes.depth g.W.WordBytes.size c.args.count g.P.Planes.lanes g.met.W.WordBytes.size_law g.met.P.WordPlanes.whole_law c.requires.count).0

pub scatter-requires-2-clause-count : goal.scatter-requires-2-clause-count
scatter-requires-2-clause-count g c =
    (half_units g.P.Planes.depth g.W.WordBytes.size c.args.count g.P.Planes.lanes g.met.W.WordBytes.size_law g.met.P.WordPlanes.whole_law c.requires.count).0

pub returns-clause-words : goal.returns-clause-words
unfolding lane_of_halves
returns-clause-words g c =
    let d = g.P.Planes.depth in
    let size = g.W.WordBytes.size in
    let n = g.P.Planes.lanes in
    let whole = g.met.P.WordPlanes.whole_law in
    let half = half_units d size c.args.count n g.met.W.WordBytes.size_law whole c.requires.count in
    let numbers = map g.W.Reads.number in
    let x = g.P.Planes.lane c.woven-first.result.0 in
    let y = g.P.Planes.lane c.woven-first.result.1 in
    let low = g.P.Planes.lane c.args.self.low in
    let high = g.P.Planes.lane c.args.self.high in
    pairs_put d size c.args.start n low high (joint n x y) (evens_of n x y low high whole c.woven-first.ensures)
    (odds_of n x y low high whole c.woven-first.ensures) (numbers c.args.words.now) (numbers c.scatter-2.new.words)
    (two_put d size c.args.start (c.args.count / 2) n half.0 x y (joint n x y) (joint-first n x y) (λ p past below. joint-second n x y p past)
    (numbers c.args.words.now) (numbers c.scatter.new.words) (numbers c.scatter-2.new.words) c.scatter.ensures.words c.scatter-2.ensures.words)
