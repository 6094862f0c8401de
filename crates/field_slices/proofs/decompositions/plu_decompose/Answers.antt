use Rattle.std.proofs.Common.{◌≡◌, ℕ, ◌+◌, List, length, refl, sym, subst, ◌∙◌, ap, arith}
use Rattle.std.specs.Prelude.{slice_index}
use Rattle.std.specs.List.{range_with_len}
use Rattle.std.specs.List.Sorted.{IsPermutation}
use Rattle.std.proofs.lemmas.List.FromFn.{get_or-range_with_len, length-range_with_len}
use Rattle.std.proofs.lemmas.List.Sorted.{IsPermutation-refl, IsPermutation-trans, length_permutation}
use Rattle.field_slices.proofs.MatrixRows.{entries-lt}
use Rattle.field_slices.proofs.TriangularSteps.{decomposition-start, decomposition-whole}
use Rattle.field_slices.proofs.decompositions.plu_decompose.Goals as goal

pub loop-column-init : goal.loop-column-init
loop-column-init g c =
    let ring = (g.met.S.Scalars.field_law c.args.field).ring in
    let law = g.met.S.Scalars in
    let rows = c.args.rows in
    let counted = c.count_up.new.order in
    let is : counted ≡ range_with_len 0 rows = c.count_up.ensures ∙ ap (range_with_len 0) c.requires.order in (
      refl,
      c.identity_into.ensures.shape,
      ap length c.count_up.ensures ∙ length-range_with_len 0 (length c.args.order.now),
      subst (λ (xs : List ℕ). IsPermutation (range_with_len 0 rows) xs) (sym is) (IsPermutation-refl (range_with_len 0 rows)),
      decomposition-start ring (entries-lt _ _ (law.range_law c.args.field) _ c.args.matrix.now)
          (λ i inside.
          let own : 0 + i ≡ i = omega arith in
          ap (λ (xs : List ℕ). slice_index xs i) is ∙ get_or-range_with_len 0 rows i 0 inside ∙ own)
          c.identity_into.ensures.entries,
    )

pub loop-column-preserved : goal.loop-column-preserved
loop-column-preserved g c =
    let step = c.decompose_column.ensures in
    let so_far = c.loop-column.invariant in
    let order = c.loop-column.order in
    let next = c.decompose_column.new.order in (
      step.shape ∙ so_far.0,
      step.lower ∙ so_far.1,
      length_permutation order next step.order ∙ so_far.2,
      IsPermutation-trans (range_with_len 0 c.args.rows) order next so_far.3 step.order,
      step.decomposed _ so_far.4,
    )

pub returns-clause-decomposed : goal.returns-clause-decomposed
returns-clause-decomposed g c =
    decomposition-whole (omega (arith, c.min-steps.ensures)) c.loop-column.invariant.4
