use Rattle.std.proofs.Common.{sym, ◌∙◌, ap}
use native.Mathlib.Nat.{mod-eq_of_lt}
use Rattle.packed_lanes.proofs.packed.quotients.quotient.Goals as goal

pub returns : goal.returns
returns g c nonzero =
    let times = g.F.Represented.product in
    let ring = g.met.F.Field.field_law.ring in
    let x = g.F.Represented.repr c.args.x in
    let y = g.F.Represented.repr c.args.y in
    let inverse = g.F.Represented.repr c.inverse_or_zero.result in
    sym (mod-eq_of_lt (g.F.Represented.range_law c.args.x)) ∙ sym (ring.one x) ∙ ring.comm 1 x
    ∙ ap (times x) (sym (c.inverse_or_zero.ensures.1 nonzero) ∙ ring.comm y inverse)
    ∙ sym (ring.assoc x inverse y)
    ∙ ap (λ z. times z y) (sym (g.met.F.Represented.mul_law c.args.x c.inverse_or_zero.result c.mul.result c.mul.ensures))
