use Rattle.std.proofs.Common.{◌≤◌, ◌++◌, ℕ, List, length, map, sym, ◌∙◌, subst}
use Rattle.std.specs.Prelude.{◌↔◌, IsTrue}
use Rattle.protocols.specs.CommitmentScheme.{ArePlacesDrawn}
use Rattle.protocols.specs.JointTables.{AreTablesCombined, OpensTables, sent_tables}
use Rattle.protocols.proofs.BlockPlaces.{places-few}
use Rattle.protocols.proofs.SchemeRuns.{memory-alone}
use Rattle.protocols.proofs.joint_tables.verify_tables.Goals as goal

pub opens_tables-requires-clause-few_places : goal.opens_tables-requires-clause-few_places
opens_tables-requires-clause-few_places g c =
    let sizes = c.args.parameters.now in
    let drawn = c.in_ok-works.ensures.drawn in
    subst (λ (l : List ℕ). length l ≤ 256) (sym (c.as_slice-2.ensures.value ∙ drawn.chosen))
    (places-few sizes.queries sizes.variables sizes.few_queries drawn.numbers drawn.count)

pub returns-clause-verdict : goal.returns-clause-verdict
returns-clause-verdict g c =
    let field = g.F.Represented in
    let sizes = c.args.parameters.now in
    let opened = c.args.opened.now in
    let witness = g.C.GrindingChallenger.number opened.witness in
    let challenges = c.in_ok-challenges.challenges.items in
    let places = c.in_ok-works.places.items in
    let between = c.sample_challenges.new.challenger in
    let opens : List _ → List ℕ → Type 0 =
    λ (zs : List _) (ps : List ℕ).
    OpensTables (g.H.ByteHasher32.digest c.args.hasher.now) field.repr g.F.RawDataSerializable.NUM_BYTES field.width field.product
    (λ (i : ℕ). g.F.TowerLevel.basis (g.F.TowerLevel.cantor i)) sizes.queries sizes.variables c.args.roots.now
    (sent_tables opened.values.items opened.row.items witness (map (λ list. list.items) opened.columns.items)
    (map (λ list. list.items) opened.nodes.items)) zs c.args.point.now ps in
    let tested : IsTrue c.in_ok-opens.opens ↔ opens challenges places =
    subst (λ (zs : List _). IsTrue c.in_ok-opens.opens ↔ opens zs places) c.as_slice.ensures.value
    (subst (λ (ps : List ℕ). IsTrue c.in_ok-opens.opens ↔ opens c.as_slice.result.now ps) c.as_slice-2.ensures.value
    (c.in_ok-opens.ensures witness)) in
    record {
      challenges = challenges;
      between = between;
      combined =
          subst
          (λ (l : List _). AreTablesCombined g.C.CanObserve.observes g.C.CanSample.gives (length c.args.roots.now) (c.args.point.now ++ l)
          c.args.challenger.now challenges between) c.as_slice-values.ensures.value c.in_ok-challenges.ensures.combined;
      works = c.in_ok-works.works;
      places = places;
      drawn =
          subst
          (λ (l : List _). ArePlacesDrawn g.C.CanObserve.observes g.C.CanSample.gives g.C.GrindingChallenger.passing
          g.C.GrindingChallenger.checks g.C.CanSampleBits.gives_bits sizes.queries sizes.variables l witness between c.in_ok-works.works places
          c.draw_places.new.challenger) c.as_slice-row.ensures.value c.in_ok-works.ensures.drawn;
      decided = (
        λ holds. let each = c.both.ensures.0 holds in (each.0, tested.0 each.1),
        λ each. c.both.ensures.1 (each.0, tested.1 each.1),
      );
    }

pub returns-in_err-challenges-clause-memory : goal.returns-in_err-challenges-clause-memory
returns-in_err-challenges-clause-memory g c going =
    memory-alone _ c.from_residual.ensures.1 (λ error is. is ∙ c.in_err-challenges.ensures.memory going)

pub returns-in_err-works-clause-memory : goal.returns-in_err-works-clause-memory
returns-in_err-works-clause-memory g c going =
    memory-alone _ c.from_residual-in_err-works.ensures.1
    (λ error is. is ∙ c.in_err-works.ensures.memory (c.in_ok-challenges.ensures.goes_on going))
