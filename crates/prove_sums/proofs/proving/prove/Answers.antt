use Rattle.std.proofs.Common.{◌^◌, ◌*◌, ◌∷◌, [], ℕ, zero, suc, inl, List, length, map, sym, ◌∙◌, ap, ap₂, subst, arith}
use Rattle.std.specs.List.{flat_map}
use Rattle.protocols.specs.CommitmentScheme.{StopsOpening, matrix_rows, row_levels, word_levels}
use Rattle.protocols.specs.JointTables.{IsHonestOpeningOf, sent_tables}
use Rattle.protocols.specs.ProductSums.{IsSummed}
use Rattle.protocols.proofs.SchemeRuns.{fails-as, fails-so}
use Rattle.prove_sums.proofs.SumSteps.{elements-listed, sizes-same}
use Rattle.prove_sums.proofs.proving.prove.Goals as goal

pub open_tables-requires-clause-coordinates : goal.open_tables-requires-clause-coordinates
open_tables-requires-clause-coordinates g c =
    ap length c.as_slice-point.ensures.value ∙ c.in_ok-summed.ensures.summed.challenge_count ∙ sym c.sizes-sizes.ensures.variables

pub open_tables-requires-clause-depth : goal.open_tables-requires-clause-depth
open_tables-requires-clause-depth g c zero d below =
    c.requires.left.depth ∙ ap₂ (λ (q v : ℕ). word_levels q v) (sym c.sizes-sizes.ensures.queries) (sym c.sizes-sizes.ensures.variables)
open_tables-requires-clause-depth g c (suc zero) d below =
    c.requires.right.depth ∙ ap₂ (λ (q v : ℕ). word_levels q v) (sym c.sizes-sizes.ensures.queries) (sym c.sizes-sizes.ensures.variables)
open_tables-requires-clause-depth g c (suc (suc k)) d below = absurd (omega (arith, below))

pub open_tables-requires-clause-count : goal.open_tables-requires-clause-count
open_tables-requires-clause-count g c zero d below =
    c.requires.left.extended.count
    ∙ ap₂ (λ (q v : ℕ). 2 ^ 2 * 2 ^ row_levels q v * 2 ^ matrix_rows q v) (sym c.sizes-sizes.ensures.queries) (sym c.sizes-sizes.ensures.variables)
open_tables-requires-clause-count g c (suc zero) d below =
    c.requires.right.extended.count
    ∙ ap₂ (λ (q v : ℕ). 2 ^ 2 * 2 ^ row_levels q v * 2 ^ matrix_rows q v) (sym c.sizes-sizes.ensures.queries) (sym c.sizes-sizes.ensures.variables)
open_tables-requires-clause-count g c (suc (suc k)) d below = absurd (omega (arith, below))

pub returns-clause-honest : goal.returns-clause-honest
returns-clause-honest g c =
    let field = g.F.Represented in
    let n = c.args.shape.now.rounds in
    let summed = c.in_ok-summed.summed in
    let left = c.args.left.now in
    let right = c.args.right.now in
    let opened = c.in_ok-opened.opened in
    let columns : List (List _) = map (λ list. list.items) opened.columns.items in
    let openers : List (List (List ℕ)) = map (λ list. list.items) opened.nodes.items in
    let says : List _ → List _ → Type 0 =
    λ (one other : List _).
    IsSummed g.C.CanObserve.observes g.C.CanSample.gives field.repr field.width field.product n one other c.args.challenger.now summed.sum
    summed.messages.items summed.point.items c.prove_sum.new.challenger in
    record {
      parts = record {
        sum = summed.sum;
        messages = summed.messages.items;
        values = opened.values.items;
        witness = opened.witness;
        row = opened.row.items;
        columns = columns;
      };
      point = summed.point.items;
      openers = openers;
      between = c.prove_sum.new.challenger;
      new = c.open_tables.new.challenger;
      summed =
          subst (λ (l : List _). says l right.elements.items) c.as_slice-one.ensures.value
          (subst (λ (l : List _). says c.as_slice-one.result.now l) c.as_slice-other.ensures.value c.in_ok-summed.ensures.summed);
      opened =
          sizes-same
          (λ (q v : ℕ) (point : List _).
          IsHonestOpeningOf g.C.CanObserve.observes g.C.CanSample.gives g.C.GrindingChallenger.passing g.C.GrindingChallenger.checks
          g.C.CanSampleBits.gives_bits field.repr g.F.RawDataSerializable.NUM_BYTES field.width field.product
          (λ (i : ℕ). g.F.TowerLevel.basis (g.F.TowerLevel.cantor i)) q v
          ((left.held.columns.items, left.held.tree) ∷ (right.held.columns.items, right.held.tree) ∷ []) point
          (sent_tables opened.values.items opened.row.items (g.C.GrindingChallenger.number opened.witness) columns openers)
          c.prove_sum.new.challenger c.open_tables.new.challenger) c.sizes-sizes.ensures.queries c.sizes-sizes.ensures.variables c.as_slice-point.ensures.value
          (c.in_ok-opened.ensures.honest g.F.RawDataSerializable.NUM_BYTES (λ (i : ℕ). g.F.TowerLevel.basis (g.F.TowerLevel.cantor i)));
      written =
          elements-listed summed.sum opened.witness c.new-elements.ensures.items c.in_ok-push.ensures.items c.in_ok-extend_from_slice.ensures.items
          c.as_slice.ensures.value c.in_ok-extend_from_slice-2.ensures.items c.as_slice-2.ensures.value c.in_ok-push-2.ensures.items
          c.in_ok-extend_from_slice-3.ensures.items c.as_slice-3.ensures.value c.in_ok-extend_from_slice-4.ensures.items
          (c.as_slice-5.ensures.value ∙ c.in_ok-columns.ensures
          ∙ ap (λ (l : List _). flat_map (λ (list : List _). list) (map (λ list. list.items) l)) c.as_slice-4.ensures.value);
      nodes_are =
          c.in_ok-nodes.ensures
          ∙ ap (λ (l : List _). flat_map (λ (list : List (List ℕ)). list) (map (λ list. list.items) l)) c.as_slice-6.ensures.value;
    }

pub returns-in_err-summed-clause-error : goal.returns-in_err-summed-clause-error
returns-in_err-summed-clause-error g c wide fits going =
    fails-so _ c.from_residual.ensures.1 (λ error is. inl (is ∙ c.in_err-summed.ensures.memory wide fits going))

pub returns-in_err-opened-clause-error : goal.returns-in_err-opened-clause-error
returns-in_err-opened-clause-error g c wide fits going =
    fails-as (StopsOpening g.C.GrindingChallenger.passing g.C.GrindingChallenger.witness_bits) _ _ c.from_residual-in_err-opened.ensures.1
    (c.in_err-opened.ensures.error c.in_ok-summed.ensures.goes_on)
