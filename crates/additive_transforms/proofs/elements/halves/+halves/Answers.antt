use Rattle.std.proofs.Common.{length, map, ◌∙◌}
use Rattle.additive_transforms.proofs.DepthFirst.{halves_joined}
use Rattle.additive_transforms.proofs.HalfValues.{held_back, held_on}
use Rattle.additive_transforms.proofs.elements.halves.+halves.Goals as goal

pub run_halves-returns-then-inverse-clause-values : goal.run_halves-returns-then-inverse-clause-values
run_halves-returns-then-inverse-clause-values g t c =
    let by = g.K.StageArithmetic in
    let laws = g.met.K.StageArithmetic in
    let halves = c.both_halves in
    let stage = c.stage_of in
    let middle_length = halves.ensures.length ∙ c.requires.stages.1 in
    held_back by.width by.product by.vector (by.number c.args.z) (map by.value c.args.values.now) (map by.value stage.new.values)
    c.args.inverse c.if-inverse.true
    (halves_joined laws.wide_law laws.ring_law laws.vector_law by.value laws.range_law (by.number c.args.z) c.requires.few
    (length halves.new.values) (c.is_at_once.ensures c.if-is_at_once.false) stage.new.values halves.new.values c.args.values.now
    (stage.ensures.length ∙ middle_length) middle_length middle_length stage.ensures.stage halves.ensures.lower halves.ensures.upper)

pub run_halves-returns-clause-values : goal.run_halves-returns-clause-values
run_halves-returns-clause-values g t c =
    let by = g.K.StageArithmetic in
    let laws = g.met.K.StageArithmetic in
    let halves = c.both_halves-2 in
    let stage = c.stage_of-2 in
    let old_length = c.requires.stages.1 in
    held_on by.width by.product by.vector (by.number c.args.z) (map by.value c.args.values.now) (map by.value halves.new.values)
    c.args.inverse c.if-inverse.false
    (halves_joined laws.wide_law laws.ring_law laws.vector_law by.value laws.range_law (by.number c.args.z) c.requires.few
    (length c.args.values.now) (c.is_at_once.ensures c.if-is_at_once.false) c.args.values.now stage.new.values halves.new.values old_length
    (stage.ensures.length ∙ old_length) old_length stage.ensures.stage halves.ensures.lower halves.ensures.upper)
