use Rattle.std.proofs.Common.{◌≡◌, ◌*◌, ◌≤◌, ◌^◌, [], ℕ, List, length, map, get_or, sym, ◌∙◌, ap, arith, lit<}
use Rattle.std.specs.Prelude.{slice_index}
use Rattle.std.specs.List.{range_with_len}
use Rattle.std.proofs.Math.Nat.{pow-le-pow_right}
use Rattle.std.proofs.lemmas.List.{length-map}
use Rattle.field_slices.specs.Multilinear.{multilinear_value}
use Rattle.transcripts.specs.Commitments.{row_at}
use Rattle.protocols.specs.JointTables.{sent_column, stacked}
use Rattle.protocols.proofs.HonestTables.{listed-same, row_symbols, stacked-symbols}
use Rattle.protocols.proofs.StackedTables.{value-same}
use Rattle.protocols.proofs.joint_tables.combine.Goals as goal

pub stack-requires-clause-few_places : goal.stack-requires-clause-few_places
stack-requires-clause-few_places g c =
    let power = c.power_of_two-size.ensures.power in
    let few : 2 ^ c.args.levels ≤ 2 ^ 24 = pow-le-pow_right (lit< tt) c.requires.few_levels in
    omega (arith, power, few)

pub stack-requires-clause-lists : goal.stack-requires-clause-lists
stack-requires-clause-lists g c = λ i below.
    let power = c.power_of_two-size.ensures.power in
    let long = c.requires.lists i below in
    omega (arith, power, long)

pub column_values-requires-clause-room : goal.column_values-requires-clause-room
column_values-requires-clause-room g c =
    let count = c.in_ok-columns.ensures.count in
    let same = ap length c.as_slice.ensures.value in
    let whole : c.power_of_two-size.result * (2 ^ length c.args.challenges.now * 1) ≡ c.power_of_two-size.result * 2 ^ length c.args.challenges.now =
    ap (λ (n : ℕ). c.power_of_two-size.result * n) (omega arith) in
    omega (arith, count, same, whole)

pub returns : goal.returns
returns g c =
    let field = g.F.Represented in
    let repr = field.repr in
    let by : List ℕ = map repr c.args.challenges.now in
    let lists : List (List _) = map (λ list. list.items) c.args.lists.now in
    let count = length-map c.args.lists.now (λ list. list.items) in
    let columns = c.in_ok-columns.columns.items in
    let corners : 2 ^ length c.args.challenges.now * 1 ≡ 2 ^ length c.args.challenges.now = omega arith in
    let value : ℕ → ℕ = λ (p : ℕ). multilinear_value field.product (map repr (row_at (2 ^ length c.args.challenges.now) columns p)) by in
    let symbols : ℕ → List ℕ = λ (p : ℕ). row_symbols repr (length c.args.lists.now) (λ i. get_or lists i []) p in
    c.in_ok-row.ensures
    ∙ ap
    (λ (l : List _). map (λ p. multilinear_value field.product (map repr (row_at (2 ^ length c.args.challenges.now) l p)) by)
    (range_with_len 0 c.power_of_two-size.result)) c.as_slice.ensures.value
    ∙ listed-same value (λ p. multilinear_value field.product (symbols p) by) c.power_of_two-size.result
    (λ p below.
    value-same field.product (slice_index (map repr (row_at (2 ^ length c.args.challenges.now) columns p))) (slice_index (symbols p)) by
    (λ j inside.
    ap (λ (n : ℕ). slice_index (map repr (row_at n columns p)) j) (sym corners) ∙ c.in_ok-columns.ensures.each p j below
    ∙ ap (λ (n : ℕ). slice_index (stacked n 1 (sent_column repr 1 lists) p) j) (sym count)
    ∙ stacked-symbols repr lists p j
    ∙ ap (λ (n : ℕ). slice_index (row_symbols repr n (λ i. get_or lists i []) p) j) count))
    ∙ ap (λ (n : ℕ). map (λ p. multilinear_value field.product (symbols p) by) (range_with_len 0 n)) c.power_of_two-size.ensures.power
