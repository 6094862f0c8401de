use Rattle.std.proofs.Common.{◌≡◌, ◌∷◌, [], ℕ, List, length, map, refl, sym, ◌∙◌, ap, subst, arith, rules}
use Rattle.std.specs.Prelude.{◌↔◌, IsTrue}
use Rattle.protocols.specs.JointTables.{SentTables, VerifiesTables, sent_tables}
use Rattle.protocols.proofs.ProductSums.{rounds-fit}
use Rattle.protocols.proofs.SchemeRuns.{memory-alone}
use Rattle.prove_sums.specs.Shapes.{columns_size, element_count, row_size, values_in}
use Rattle.prove_sums.specs.Verdicts.{IsProductOf, IsReducedClaim}
use Rattle.prove_sums.proofs.Sizes.{parts-room}
use Rattle.prove_sums.proofs.SumSteps.{sizes-same}
use Rattle.prove_sums.proofs.verifying.verify.Goals as goal

pub reduce-requires : goal.reduce-requires
reduce-requires g c =
    let proof = c.args.proof.now in
    let m = proof.shape.queries in
    let n = proof.shape.rounds in
    let count : length proof.elements.items ≡ element_count m n = search rules in
    let room =
    parts-room m n c.as_slice-elements.result.now (row_size m n) (columns_size m n) (ap length c.as_slice-elements.ensures.value ∙ count) refl refl in
    omega (arith, room)

pub verify_tables-requires-clause-coordinates : goal.verify_tables-requires-clause-coordinates
verify_tables-requires-clause-coordinates g c =
    ap length c.as_slice-point.ensures.value ∙ c.in_ok-reduced.ensures.reduced.challenge_count ∙ sym c.sizes-sizes.ensures.variables

pub is_product-holds-requires : goal.is_product-holds-requires
is_product-holds-requires g c = ap length c.as_slice.ensures.value ∙ c.in_ok-sent.ensures.count

pub returns-clause-verdict : goal.returns-clause-verdict
returns-clause-verdict g c =
    let field = g.F.Represented in
    let proof = c.args.proof.now in
    let m = proof.shape.queries in
    let n = proof.shape.rounds in
    let claim = field.repr c.in_ok-reduced.reduced.claim in
    let point = c.in_ok-reduced.reduced.point.items in
    let opens = c.in_ok-opens.opens in
    let says : ℕ → ℕ → List _ → SentTables _ → Type 0 =
    λ (q v : ℕ) (p : List _) (sent : SentTables _).
    VerifiesTables g.C.CanObserve.observes g.C.CanSample.gives g.C.GrindingChallenger.passing g.C.GrindingChallenger.checks
    g.C.CanSampleBits.gives_bits field.repr (g.H.ByteHasher32.digest c.args.hasher.now) g.F.RawDataSerializable.NUM_BYTES field.width
    field.product (λ (i : ℕ). g.F.TowerLevel.basis (g.F.TowerLevel.cantor i)) q v (proof.roots.left ∷ proof.roots.right ∷ []) p sent
    c.reduce.new.challenger opens c.verify_tables.new.challenger in
    let read = c.in_ok-sent.sent in
    let sent : SentTables _ =
    sent_tables read.values.items read.row.items (g.C.GrindingChallenger.number read.witness) (map (λ list. list.items) read.columns.items)
    (map (λ list. list.items) read.nodes.items) in
    let product : IsTrue c.is_product-holds.result ↔ IsProductOf field.repr field.product (values_in n proof.elements.items) claim =
    subst (λ (l : List _). IsTrue c.is_product-holds.result ↔ IsProductOf field.repr field.product l claim)
    (c.as_slice.ensures.value ∙ c.in_ok-sent.ensures.values) c.is_product-holds.ensures in
    let whole = c.both.ensures in
    record {
      point = point;
      claim = claim;
      opens = opens;
      between = c.reduce.new.challenger;
      new = c.verify_tables.new.challenger;
      reduced =
          subst
          (λ (es : List _). IsReducedClaim g.C.CanObserve.observes g.C.CanSample.gives field.repr field.width field.product n es
          c.args.challenger.now point claim c.reduce.new.challenger) c.as_slice-elements.ensures.value c.in_ok-reduced.ensures.reduced;
      opened =
          subst (λ (sent : SentTables _). says m n point sent) (c.in_ok-sent.ensures.sent g.C.GrindingChallenger.number)
          (sizes-same (λ (q v : ℕ) (p : List _). says q v p sent) c.sizes-sizes.ensures.queries c.sizes-sizes.ensures.variables
          c.as_slice-point.ensures.value c.in_ok-opens.ensures.verdict);
      decided = (
        λ holds. let each = whole.0 holds in (each.0, product.0 each.1),
        λ each. whole.1 (each.0, product.1 each.1),
      );
    }

pub returns-in_err-reduced-clause-memory : goal.returns-in_err-reduced-clause-memory
returns-in_err-reduced-clause-memory g c going =
    let shape = c.args.proof.now.shape in
    let fits = rounds-fit g.F.Represented.width shape.rounds (omega (arith, c.requires)) shape.few in
    memory-alone _ c.from_residual.ensures.1 (λ error is. is ∙ c.in_err-reduced.ensures.memory (omega (arith, c.requires)) fits going)

pub returns-in_err-opens-clause-memory : goal.returns-in_err-opens-clause-memory
returns-in_err-opens-clause-memory g c going =
    memory-alone _ c.from_residual-in_err-opens.ensures.1 (λ error is. is ∙ c.in_err-opens.ensures.memory c.in_ok-reduced.ensures.goes_on)
