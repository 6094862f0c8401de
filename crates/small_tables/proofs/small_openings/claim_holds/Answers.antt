use Rattle.std.proofs.Common.{ℕ, List, length, map, refl, ◌∙◌, ap}
use Rattle.field_slices.specs.Multilinear.{multilinear_value}
use Rattle.small_tables.specs.SmallTables.{mixed_weights}
use Rattle.protocols.proofs.SchemeRuns.{decided}
use Rattle.small_tables.proofs.small_openings.claim_holds.Goals as goal

pub weights_value-requires-clause-coordinates : goal.weights_value-requires-clause-coordinates
weights_value-requires-clause-coordinates g c = ap length c.as_slice.ensures.value ∙ c.requires.coordinates

pub returns : goal.returns
returns g c =
    let field = g.F.Represented in
    let weights = mixed_weights field.product c.args.small.now.width (map field.repr c.args.scalars.now) (map field.repr c.args.first.now) in
    decided _ _ _ _ _ _ c.eq.ensures (g.met.F.PrimeCharacteristicRing.eq_law c.args.reduced.now.claim c.mul.result) refl
    (g.met.F.Represented.mul_law c.in_ok-weight.weight c.args.value c.mul.result c.mul.ensures
    ∙ ap (λ (x : ℕ). field.product x (field.repr c.args.value))
    (c.in_ok-weight.ensures ∙ ap (λ (l : List _). multilinear_value field.product weights (map field.repr l)) c.as_slice.ensures.value))
