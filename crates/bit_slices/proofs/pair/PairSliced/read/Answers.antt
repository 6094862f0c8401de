use Rattle.std.proofs.Common.{◌*◌, ◌^◌, get_or, arith}
use Rattle.bit_slices.proofs.Layouts.{laid_out_pairs, twice}
use Rattle.bit_slices.proofs.pair.PairSliced.read.Goals as goal

pub read-requires : goal.read-requires
read-requires g c =
    let double = twice g.T.Sliced.LEVEL (g.T.Sliced.units * g.R.TowerWord.COUNT) in
    omega (arith, double, c.requires, c.read-middle.ensures.end)

pub returns-clause-read : goal.returns-clause-read
returns-clause-read g c d =
    laid_out_pairs g.T.Sliced.LEVEL (2 ^ g.R.TowerWord.LEVEL) (g.T.Sliced.units * g.R.TowerWord.COUNT) c.args.start c.read-middle.result
    (g.T.Sliced.lane c.read-middle.new.self) (g.T.Sliced.lane c.read.new.self) (λ n. g.W.Reads.number (get_or c.args.words.now n d))
    (g.T.Sliced.fits_law c.read-middle.new.self) c.read-middle.ensures.end (c.read-middle.ensures.read d) (c.read.ensures.read d)

pub returns-clause-end : goal.returns-clause-end
returns-clause-end g c =
    let double = twice g.T.Sliced.LEVEL (g.T.Sliced.units * g.R.TowerWord.COUNT) in
    omega (arith, double, c.read-middle.ensures.end, c.read.ensures.end)
