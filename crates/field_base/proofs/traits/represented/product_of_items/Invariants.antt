use Rattle.std.proofs.Common.{◌≡◌}
use Rattle.field_base.specs.Powers.{product_of}
use Rattle.field_base.proofs.traits.represented.product_of_items.Given as goal

abbrev pub invariant-loop-item : goal.invariant-loop-item
invariant-loop-item g l =
    g.E.Represented.repr l.product
    ≡ product_of g.E.Represented.unit g.E.Represented.product g.E.Represented.repr l.yielded
