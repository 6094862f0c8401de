use Rattle.std.proofs.Common.{◌≡◌, ◌<◌, ◌≤◌, ◌^◌, ◌++◌, [], ℕ, List, length, map, take, drop, get_or, refl, sym, ◌∙◌, ap, subst}
use Rattle.std.specs.Prelude.{◌↔◌, IsTrue}
use Rattle.std.proofs.lemmas.Bool.{true≢false}
use Rattle.std.proofs.lemmas.List.{length-map}
use Rattle.field_slices.specs.Multilinear.{multilinear_value}
use Rattle.protocols.specs.CommitmentScheme.{matrix_rows, row_levels}
use Rattle.protocols.specs.JointTables.{sent_column, stacked}
use Rattle.protocols.specs.Tables.{AgreesAt}
use Rattle.protocols.proofs.HonestTables.{bytes-same}
use Rattle.protocols.proofs.SchemeRuns.{decided}
use Rattle.protocols.proofs.TableOpenings.{row-long}
use Rattle.protocols.proofs.joint_tables.opens_tables.Goals as goal

pub returns-then-not-has_counts : goal.returns-then-not-has_counts
returns-then-not-has_counts g c = λ witness. (
  λ e. absurd (true≢false (sym e)),
  λ opens.
      absurd
      (true≢false
      (sym
      (c.has_counts.ensures.1 (
        opens.values,
        sym (length-map c.args.opened.now.columns.items (λ list. list.items)) ∙ opens.columns,
        sym (length-map c.args.opened.now.nodes.items (λ list. list.items)) ∙ opens.nodes,
      ))
      ∙ c.if-not-has_counts.true)),
)

pub returns-then-not-bytes : goal.returns-then-not-bytes
returns-then-not-bytes g c = λ witness. (
  λ e. absurd (true≢false (sym e)),
  λ opens.
      absurd
      (true≢false
      (sym
      (c.in_ok-bytes.ensures.1
      (λ i below.
      bytes-same refl (ap (λ l. get_or (map (λ list. list.items) l) i []) (sym c.as_slice-lists.ensures.value))
      (ap (λ l. get_or (map (λ list. list.items) l) i []) (sym c.as_slice-openers.ensures.value)) (opens.opened i below)))
      ∙ c.if-not-bytes.true)),
)

pub opens_each-requires-clause-columns : goal.opens_each-requires-clause-columns
opens_each-requires-clause-columns g c =
    let counts = c.has_counts.ensures.0 c.if-not-has_counts.false in
    ap length c.as_slice-lists.ensures.value ∙ counts.1

pub opens_each-requires-clause-nodes : goal.opens_each-requires-clause-nodes
opens_each-requires-clause-nodes g c =
    let counts = c.has_counts.ensures.0 c.if-not-has_counts.false in
    ap length c.as_slice-openers.ensures.value ∙ counts.2

pub row_agrees-requires-clause-room : goal.row_agrees-requires-clause-room
row_agrees-requires-clause-room g c =
    let counts = c.has_counts.ensures.0 c.if-not-has_counts.false in
    subst (λ (l : ℕ). l ≤ 2 ^ length c.args.challenges.now) (sym (ap length c.as_slice-lists.ensures.value ∙ counts.1)) c.requires.room

pub row_agrees-requires-clause-lists : goal.row_agrees-requires-clause-lists
row_agrees-requires-clause-lists g c = λ i below.
    let counts = c.has_counts.ensures.0 c.if-not-has_counts.false in
    let same = c.as_slice-lists.ensures.value in
    (c.in_ok-bytes.ensures.0 c.if-not-bytes.false i (subst (λ (l : ℕ). i < l) (ap length same ∙ counts.1) below)).count

pub returns-then-not-agrees : goal.returns-then-not-agrees
returns-then-not-agrees g c = λ witness.
    let sizes = c.args.parameters.now in
    let field = g.F.Represented in
    let opened = c.args.opened.now in
    let h = matrix_rows sizes.queries sizes.variables in
    let counts = c.has_counts.ensures.0 c.if-not-has_counts.false in
    let shape : List _ → ℕ → List (List _) → Type 0 =
    λ (row : List _) (count : ℕ) (lists : List (List _)).
    AgreesAt field.width field.product (λ (i : ℕ). g.F.TowerLevel.basis (g.F.TowerLevel.cantor i)) (row_levels sizes.queries sizes.variables) 2
    (map field.repr c.args.challenges.now ++ map field.repr (take h c.args.point.now)) (map field.repr row) c.args.places.now
    (stacked count (2 ^ h) (sent_column field.repr (2 ^ h) lists)) in (
      λ e. absurd (true≢false (sym e)),
      λ opens.
          absurd
          (true≢false
          (sym
          (c.in_ok-agrees.ensures.1
          (subst (λ (row : List _). shape row (length c.as_slice-lists.result.now) (map (λ list. list.items) c.as_slice-lists.result.now))
          (sym c.as_slice-row.ensures.value)
          (subst (λ l. shape opened.row.items (length l) (map (λ list. list.items) l)) (sym c.as_slice-lists.ensures.value)
          (subst (λ (count : ℕ). shape opened.row.items count (map (λ list. list.items) opened.columns.items)) (sym counts.1) opens.agrees))))
          ∙ c.if-not-agrees.true)),
    )

pub value_at_challenges-requires-clause-room : goal.value_at_challenges-requires-clause-room
value_at_challenges-requires-clause-room g c =
    let counts = c.has_counts.ensures.0 c.if-not-has_counts.false in
    subst (λ (l : ℕ). l ≤ 2 ^ length c.args.challenges.now) (sym (ap length c.as_slice.ensures.value ∙ counts.0)) c.requires.room

pub value_of_row-value-requires-clause-row : goal.value_of_row-value-requires-clause-row
value_of_row-value-requires-clause-row g c =
    let sizes = c.args.parameters.now in
    sym (length-map c.as_slice-row.result.now g.F.Represented.repr)
    ∙ row-long (row_levels sizes.queries sizes.variables) 2 (c.in_ok-agrees.ensures.0 c.if-not-agrees.false)

pub returns : goal.returns
returns g c = λ witness.
    let sizes = c.args.parameters.now in
    let field = g.F.Represented in
    let repr = field.repr in
    let opened = c.args.opened.now in
    let h = matrix_rows sizes.queries sizes.variables in
    let counts = c.has_counts.ensures.0 c.if-not-has_counts.false in
    let shape : List _ → ℕ → List (List _) → Type 0 =
    λ (row : List _) (count : ℕ) (lists : List (List _)).
    AgreesAt field.width field.product (λ (i : ℕ). g.F.TowerLevel.basis (g.F.TowerLevel.cantor i)) (row_levels sizes.queries sizes.variables) 2
    (map repr c.args.challenges.now ++ map repr (take h c.args.point.now)) (map repr row) c.args.places.now
    (stacked count (2 ^ h) (sent_column repr (2 ^ h) lists)) in
    let evaluated : IsTrue c.eq.result
    ↔ (multilinear_value field.product (map repr opened.values.items) (map repr c.args.challenges.now)
    ≡ multilinear_value field.product (map repr opened.row.items) (map repr (drop h c.args.point.now))) =
    decided _ _ _ _ _ _ c.eq.ensures (g.met.F.PrimeCharacteristicRing.eq_law c.in_ok-claimed.claimed c.value_of_row-value.result)
    (c.in_ok-claimed.ensures
    ∙ ap (λ (l : List _). multilinear_value field.product (map repr l) (map repr c.args.challenges.now)) c.as_slice.ensures.value)
    (c.value_of_row-value.ensures
    ∙ ap (λ (l : List _). multilinear_value field.product (map repr l) (map repr (drop h c.args.point.now))) c.as_slice-row.ensures.value) in (
      λ holds. record {
        values = counts.0;
        columns = length-map opened.columns.items (λ list. list.items) ∙ counts.1;
        nodes = length-map opened.nodes.items (λ list. list.items) ∙ counts.2;
        opened = λ i below.
            bytes-same refl (ap (λ l. get_or (map (λ list. list.items) l) i []) c.as_slice-lists.ensures.value)
            (ap (λ l. get_or (map (λ list. list.items) l) i []) c.as_slice-openers.ensures.value)
            (c.in_ok-bytes.ensures.0 c.if-not-bytes.false i below);
        agrees =
            subst (λ (count : ℕ). shape opened.row.items count (map (λ list. list.items) opened.columns.items)) counts.1
            (subst (λ l. shape opened.row.items (length l) (map (λ list. list.items) l)) c.as_slice-lists.ensures.value
            (subst (λ (row : List _). shape row (length c.as_slice-lists.result.now) (map (λ list. list.items) c.as_slice-lists.result.now))
            c.as_slice-row.ensures.value (c.in_ok-agrees.ensures.0 c.if-not-agrees.false)));
        evaluates = evaluated.0 holds;
      },
      λ opens. evaluated.1 opens.evaluates,
    )
