use Rattle.std.proofs.Common.{◌≡◌}
use Rattle.field_base.specs.Powers.{sum_of}
use Rattle.field_base.proofs.traits.represented.sum_of_items.Given as goal

abbrev pub invariant-loop-item : goal.invariant-loop-item
invariant-loop-item g l = g.E.Represented.repr l.sum ≡ sum_of g.E.Represented.repr l.yielded
