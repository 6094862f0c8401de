use Rattle.std.proofs.Common.{◌≡◌, ◌<◌, ◌^◌, sym, ◌∙◌, subst, IsTrue}
use Rattle.field_base.specs.Chunks.{chunk}
use Rattle.field_base.proofs.ChunkLists.{chunk-lt, chunk-whole}
use Rattle.field_space.proofs.extension.ExtensionField.is_in_basefield.Goals as goal

-- the embedded coefficient 0 is the element where its number has no bits above that coefficient
pub returns : goal.returns
returns g c =
    let x = g.Self.Represented.repr c.args.self.now in
    let width = g.F.Represented.width in
    let embedded : g.Self.Represented.repr c.from.result ≡ chunk width 0 x =
    g.met.Self.Algebra.image_from_law c.basis_coefficient.result c.from.result c.from.ensures
    ∙ g.met.Self.ExtensionField.embeds_law (g.F.Represented.repr c.basis_coefficient.result) (g.F.Represented.range_law c.basis_coefficient.result)
    ∙ c.basis_coefficient.ensures in
    let law = g.met.Self.PrimeCharacteristicRing.eq_law c.from.result c.args.self.now in (
      (λ yes. subst (λ n. n < 2 ^ width) (sym embedded ∙ law.0 (subst IsTrue c.eq.ensures yes)) (chunk-lt width 0 x)),
      (λ fits. subst IsTrue (sym c.eq.ensures) (law.1 (embedded ∙ chunk-whole width x fits))),
    )
