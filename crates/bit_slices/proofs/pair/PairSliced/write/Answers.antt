use Rattle.std.proofs.Common.{ℕ, ◌*◌, ◌^◌, get_or, arith}
use Rattle.bit_slices.proofs.Layouts.{laid_out_pairs, kept_twice, still_laid_out, twice}
use Rattle.bit_slices.proofs.pair.PairSliced.write.Goals as goal

pub write-requires : goal.write-requires
write-requires g c =
    let double = twice g.T.Sliced.LEVEL (g.T.Sliced.units * g.R.TowerWord.COUNT) in
    omega (arith, double, c.requires, c.write-middle.ensures.end, c.write-middle.ensures.kept.long)

pub returns-clause-written : goal.returns-clause-written
returns-clause-written g c d =
    let each : ℕ = g.T.Sliced.units * g.R.TowerWord.COUNT in
    laid_out_pairs g.T.Sliced.LEVEL (2 ^ g.R.TowerWord.LEVEL) each c.args.start c.write-middle.result
    (g.T.Sliced.lane c.args.self.now.low) (g.T.Sliced.lane c.args.self.now.high) (λ n. g.W.Reads.number (get_or c.write.new.words n d))
    (g.T.Sliced.fits_law c.args.self.now.low) c.write-middle.ensures.end
    (still_laid_out (2 ^ g.R.TowerWord.LEVEL) each (2 ^ g.T.Sliced.LEVEL) c.args.start (2 ^ g.T.Sliced.LEVEL * each) g.W.Reads.number c.write-middle.new.words
    c.write.new.words d (g.T.Sliced.lane c.args.self.now.low) c.write-middle.ensures.end c.write.ensures.kept (c.write-middle.ensures.written d))
    (c.write.ensures.written d)

pub returns-clause-kept : goal.returns-clause-kept
returns-clause-kept g c =
    kept_twice g.T.Sliced.LEVEL (g.T.Sliced.units * g.R.TowerWord.COUNT) c.args.start c.write-middle.result c.args.words.now
    c.write-middle.new.words c.write.new.words c.write-middle.ensures.end c.write-middle.ensures.kept c.write.ensures.kept

pub returns-clause-end : goal.returns-clause-end
returns-clause-end g c =
    let double = twice g.T.Sliced.LEVEL (g.T.Sliced.units * g.R.TowerWord.COUNT) in
    omega (arith, double, c.write-middle.ensures.end, c.write.ensures.end)
