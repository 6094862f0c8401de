use Rattle.std.proofs.Common.{ℕ, sym, subst}
use Rattle.additive_transforms.proofs.Butterflies.{taken_values}
use Rattle.additive_transforms.proofs.stages.run_block.Goals as goal

pub butterflies-requires-clause-room : goal.butterflies-requires-clause-room
butterflies-requires-clause-room g c =
    subst (λ (n : ℕ). g.K.StageArithmetic.has_room c.args.counter.now n) (sym c.split_at_mut-lower.ensures.front_len) c.requires.room

pub returns-clause-values : goal.returns-clause-values
returns-clause-values g c =
    let by = g.K.StageArithmetic in
    let halves = c.split_at_mut-lower in
    taken_values by.value by.product (by.number c.args.twiddle) c.args.half c.args.block.now halves.result.0.now halves.result.1.now
    _ _ halves.ensures.value halves.ensures.front_len c.args.inverse c.butterflies.ensures.values

pub returns-clause-counted : goal.returns-clause-counted
returns-clause-counted g c =
    subst (λ (n : ℕ). g.K.StageArithmetic.counted c.args.counter.now c.butterflies.new.counter n) c.split_at_mut-lower.ensures.front_len
    c.butterflies.ensures.counted
