use Rattle.std.proofs.Common.{◌≡◌, ◌+◌, ◌*◌, ◌^◌, ◌∷◌, [], ℕ, List, length, map, get_or, sym, ◌∙◌, ap, subst, arith}
use Rattle.std.proofs.lemmas.List.{length-append}
use Rattle.std.proofs.lemmas.List.Elements.{All-get_or}
use Rattle.transcripts.specs.Openings.{AreAscending}
use Rattle.protocols.specs.CommitmentScheme.{matrix_rows, row_levels, word_levels}
use Rattle.protocols.specs.Tables.{IsHonestOpening}
use Rattle.protocols.proofs.BlockPlaces.{columns-counted}
use Rattle.protocols.proofs.HonestTables.{below-more, mapped-before, mapped-last}
use Rattle.protocols.proofs.joint_tables.open_each.Goals as goal

pub open_columns-requires-clause-few : goal.open_columns-requires-clause-few
open_columns-requires-clause-few g c = omega (arith, c.args.parameters.now.few_rows)

pub open_columns-requires-clause-count : goal.open_columns-requires-clause-count
open_columns-requires-clause-count g c =
    let sizes = c.args.parameters.now in
    let tables = c.args.tables.now in
    let held = c.index-tables-index.result in
    let deep : _ → Type 0 = λ (h : _). h.now.tree.depth ≡ word_levels sizes.queries sizes.variables in
    let counted : _ → Type 0 =
    λ (h : _). length h.now.columns.items ≡ 2 ^ 2 * 2 ^ row_levels sizes.queries sizes.variables * 2 ^ matrix_rows sizes.queries sizes.variables in
    columns-counted sizes.queries sizes.variables sizes.rows_are
    (subst deep (sym c.index-tables-index.is) (All-get_or deep tables c.tables.index held (omega arith) c.requires.depth))
    (subst counted (sym c.index-tables-index.is) (All-get_or counted tables c.tables.index held (omega arith) c.requires.count))

pub open_columns-requires-clause-places : goal.open_columns-requires-clause-places
open_columns-requires-clause-places g c =
    let sizes = c.args.parameters.now in
    let tables = c.args.tables.now in
    let held = c.index-tables-index.result in
    let deep : _ → Type 0 = λ (h : _). h.now.tree.depth ≡ word_levels sizes.queries sizes.variables in
    subst (λ (d : ℕ). AreAscending (2 ^ d) c.args.places.now)
    (sym (subst deep (sym c.index-tables-index.is) (All-get_or deep tables c.tables.index held (omega arith) c.requires.depth))) c.requires.places

pub tables-preserved : goal.tables-preserved
tables-preserved g c =
    let sizes = c.args.parameters.now in
    let field = g.F.Represented in
    let columns = c.tables.columns.items in
    let nodes = c.tables.nodes.items in
    let opened = c.in_ok-opened.opened in
    let index = c.tables.index in
    let honest : ℕ → _ → List _ → List (List ℕ) → Type 0 =
    λ (h : ℕ) (held : _) (cs : List _) (ns : List (List ℕ)).
    (size : ℕ) (vector : ℕ → ℕ)
    → IsHonestOpening field.repr size field.width field.product vector h held.now.tree held.now.columns.items c.args.places.now cs ns in
    let h = matrix_rows sizes.queries sizes.variables in
    let pushed = c.in_ok-push.ensures.items in
    let also = c.in_ok-push-2.ensures.items in
    let long = c.tables.invariant.columns in
    let wide = c.tables.invariant.nodes in
    record {
      columns = ap length pushed ∙ length-append columns (opened.columns ∷ []) ∙ ap (λ (n : ℕ). n + 1) long;
      nodes = ap length also ∙ length-append nodes (opened.nodes ∷ []) ∙ ap (λ (n : ℕ). n + 1) wide;
      each =
          below-more
          (λ i held. honest h held (get_or (map (λ r. r.items) columns) i []) (get_or (map (λ r. r.items) nodes) i []))
          (λ i held. honest h held (get_or (map (λ r. r.items) c.push.new.self.items) i []) (get_or (map (λ r. r.items) c.push-in-tables.new.self.items) i []))
          index c.args.tables.now c.index-tables-index.result (omega arith) c.index-tables-index.is
          (λ i held below same.
          subst (λ l. honest h held l (get_or (map (λ r. r.items) c.push-in-tables.new.self.items) i []))
          (sym (ap (λ l. get_or (map (λ r. r.items) l) i []) pushed ∙ mapped-before (λ r. r.items) columns opened.columns index long [] i below))
          (subst (λ l. honest h held (get_or (map (λ r. r.items) columns) i []) l)
          (sym (ap (λ l. get_or (map (λ r. r.items) l) i []) also ∙ mapped-before (λ r. r.items) nodes opened.nodes index wide [] i below)) same))
          (subst (λ l. honest h c.index-tables-index.result l (get_or (map (λ r. r.items) c.push-in-tables.new.self.items) index []))
          (sym (ap (λ l. get_or (map (λ r. r.items) l) index []) pushed ∙ mapped-last (λ r. r.items) columns opened.columns index long []))
          (subst (λ l. honest h c.index-tables-index.result opened.columns.items l)
          (sym (ap (λ l. get_or (map (λ r. r.items) l) index []) also ∙ mapped-last (λ r. r.items) nodes opened.nodes index wide []))
          (subst (λ (r : ℕ). honest r c.index-tables-index.result opened.columns.items opened.nodes.items) sizes.rows_are
          c.in_ok-opened.ensures.accepted)))
          c.tables.invariant.each;
    }

pub returns-clause-each : goal.returns-clause-each
returns-clause-each g c = λ i held below is. c.tables.invariant.each i held (omega (arith, below)) is
