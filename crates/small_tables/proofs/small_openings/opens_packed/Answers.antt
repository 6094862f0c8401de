use Rattle.std.proofs.Common.{◌∷◌, [], ℕ, List, length, map, ◌∙◌, ap, subst}
use Rattle.std.specs.Prelude.{IfOk}
use Rattle.protocols.specs.JointTables.{VerifiesTables, sent_tables}
use Rattle.small_tables.proofs.small_openings.opens_packed.Goals as goal

pub verify_tables-requires-clause-coordinates : goal.verify_tables-requires-clause-coordinates
verify_tables-requires-clause-coordinates g c = ap length c.as_slice-point.ensures.value ∙ c.requires.coordinates

pub returns-clause-verdict : goal.returns-clause-verdict
returns-clause-verdict g c =
    let field = g.F.Represented in
    let sizes = c.args.parameters.now in
    let packed = c.args.packed.now in
    subst
    (λ (l : List _). IfOk c.verify_tables.result (λ accepted. VerifiesTables g.C.CanObserve.observes g.C.CanSample.gives
    g.C.GrindingChallenger.passing g.C.GrindingChallenger.checks g.C.CanSampleBits.gives_bits field.repr (g.H.ByteHasher32.digest c.args.hasher.now)
    g.F.RawDataSerializable.NUM_BYTES field.width field.product (λ (i : ℕ). g.F.TowerLevel.basis (g.F.TowerLevel.cantor i)) sizes.queries
    sizes.variables (c.args.root ∷ []) l (sent_tables packed.values.items packed.row.items (g.C.GrindingChallenger.number packed.witness)
    (map (λ list. list.items) packed.columns.items) (map (λ list. list.items) packed.nodes.items)) c.args.challenger.now accepted
    c.verify_tables.new.challenger)) c.as_slice-point.ensures.value c.verify_tables.ensures.verdict
