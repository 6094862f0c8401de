use Rattle.std.proofs.Common.{ℕ, ◌^◌, ◌≤◌, length, map, ◌∙◌, subst, arith}
use Rattle.additive_transforms.proofs.PairLoops.{pairs_start, taken_ends, taken_pair}
use Rattle.field_base.specs.Tower.{tower_mul}
use Rattle.additive_transforms.specs.Rows.{level_of}
use Rattle.additive_transforms.specs.Words.{level_element}
use Rattle.additive_transforms.proofs.WordRows.{level_within}
use Rattle.additive_transforms.proofs.word_rows.run_words.Goals as goal

pub returns-clause-values : goal.returns-clause-values
returns-clause-values g c s is =
    let k = g.L.Level.LEVEL in
    let element = level_element g.W.Reads.number k in
    let lo = c.args.lo.now in
    let hi = c.args.hi.now in
    let few = level_within k (level_of g.W.WordBytes.size)
    (subst (λ (bits : ℕ). 2 ^ k ≤ bits) g.met.W.WordBytes.bits_law g.met.L.Level.room_law) in
    let long = c.run_vectors-narrow.ensures.lower ∙ c.run_vectors-wide.ensures.lower in
    taken_ends element (tower_mul k) s (length c.run_vectors-narrow.new.lo) lo hi c.run_pairs.new.lo c.run_pairs.new.hi c.requires
    (omega (arith, long)) c.args.inverse
    (c.run_pairs.ensures.values s is (map element lo) (map element hi)
    (c.run_vectors-narrow.ensures.values s is.0 is.1 k is.2 few (map element lo) (map element hi)
    (c.run_vectors-wide.ensures.values s is.0 is.1 k is.2 few (map element lo) (map element hi)
    (pairs_start (taken_pair c.args.inverse (tower_mul k) s) (map element lo) (map element hi)))))
