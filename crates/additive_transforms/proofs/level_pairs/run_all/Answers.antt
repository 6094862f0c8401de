use Rattle.std.proofs.Common.{length, map, arith}
use Rattle.additive_transforms.proofs.PairLoops.{pairs_start, taken_ends, taken_pair}
use Rattle.field_base.specs.Tower.{tower_mul}
use Rattle.additive_transforms.specs.Words.{level_element}
use Rattle.additive_transforms.proofs.level_pairs.run_all.Goals as goal

pub returns-clause-values : goal.returns-clause-values
returns-clause-values g c s is =
    let k = g.S.Multiplies.level in
    let element = level_element g.W.Reads.number k in
    taken_ends element (tower_mul k) s (length c.args.lo.now) c.args.lo.now c.args.hi.now c.run_pairs.new.lo c.run_pairs.new.hi c.requires
    (omega arith) (g.S.Multiplies.inverse c.args.scalar.now)
    (c.run_pairs.ensures.values s is (map element c.args.lo.now) (map element c.args.hi.now)
    (pairs_start (taken_pair (g.S.Multiplies.inverse c.args.scalar.now) (tower_mul k) s) (map element c.args.lo.now) (map element c.args.hi.now)))
