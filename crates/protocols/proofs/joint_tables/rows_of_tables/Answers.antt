use Rattle.std.proofs.Common.{◌≡◌, ◌+◌, ◌*◌, ◌^◌, ◌∷◌, [], ℕ, List, length, map, take, get_or, sym, ◌∙◌, ap, subst, arith}
use Rattle.std.specs.List.{range_with_len}
use Rattle.std.proofs.lemmas.List.{length-append}
use Rattle.std.proofs.lemmas.List.Elements.{All-get_or}
use Rattle.field_slices.specs.Multilinear.{multilinear_value}
use Rattle.transcripts.specs.Commitments.{row_at}
use Rattle.protocols.specs.CommitmentScheme.{matrix_rows, row_levels}
use Rattle.protocols.proofs.HonestTables.{below-more, mapped-before, mapped-last}
use Rattle.protocols.proofs.joint_tables.rows_of_tables.Goals as goal

pub row_of_values-requires-clause-count : goal.row_of_values-requires-clause-count
row_of_values-requires-clause-count g c =
    let sizes = c.args.parameters.now in
    let tables = c.args.tables.now in
    let held = c.index-tables-index.result in
    let counted : _ → Type 0 =
    λ (h : _). length h.now.columns.items ≡ 2 ^ 2 * 2 ^ row_levels sizes.queries sizes.variables * 2 ^ matrix_rows sizes.queries sizes.variables in
    subst counted (sym c.index-tables-index.is) (All-get_or counted tables c.tables.index held (omega arith) c.requires.count)

pub tables-preserved : goal.tables-preserved
tables-preserved g c =
    let sizes = c.args.parameters.now in
    let field = g.F.Represented in
    let before = c.tables.rows.items in
    let row = c.in_ok-row.row in
    let index = c.tables.index in
    let tables = c.args.tables.now in
    let values : _ → List ℕ =
    λ (held : _).
    map (λ p. multilinear_value field.product (map field.repr (row_at (2 ^ matrix_rows sizes.queries sizes.variables) held.now.columns.items p))
    (map field.repr (take (matrix_rows sizes.queries sizes.variables) c.args.point.now))) (range_with_len 0 (2 ^ row_levels sizes.queries sizes.variables)) in
    let pushed = c.in_ok-push.ensures.items in
    let long = c.tables.invariant.count in
    record {
      count = ap length pushed ∙ length-append before (row ∷ []) ∙ ap (λ (n : ℕ). n + 1) long;
      each =
          below-more (λ i held. map field.repr (get_or (map (λ r. r.items) before) i []) ≡ values held)
          (λ i held. map field.repr (get_or (map (λ r. r.items) c.push.new.self.items) i []) ≡ values held) index tables
          c.index-tables-index.result (omega arith) c.index-tables-index.is
          (λ i held below same.
          ap (λ l. map field.repr (get_or (map (λ r. r.items) l) i [])) pushed
          ∙ ap (map field.repr) (mapped-before (λ r. r.items) before row index long [] i below) ∙ same)
          (ap (λ l. map field.repr (get_or (map (λ r. r.items) l) index [])) pushed
          ∙ ap (map field.repr) (mapped-last (λ r. r.items) before row index long []) ∙ c.in_ok-row.ensures)
          c.tables.invariant.each;
    }
