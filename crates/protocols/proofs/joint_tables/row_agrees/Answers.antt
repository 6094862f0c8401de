use Rattle.std.proofs.Common.{◌≡◌, ◌+◌, ◌*◌, ◌<◌, ◌≤◌, ◌^◌, ◌++◌, ℕ, List, length, map, take, sym, ◌∙◌, ap, ap₂, subst, arith, lit<}
use Rattle.std.specs.Prelude.{◌↔◌, IsTrue, slice_index}
use Rattle.std.proofs.Math.Nat.{pow-le-pow_right}
use Rattle.std.proofs.lemmas.Bool.{true≢false}
use Rattle.std.proofs.lemmas.List.{length-append, length-map, map-append, take-map}
use Rattle.std.proofs.lemmas.Nat.{pow-add}
use Rattle.field_slices.specs.Multilinear.{multilinear_value}
use Rattle.transcripts.specs.Commitments.{row_at}
use Rattle.protocols.specs.CommitmentScheme.{matrix_rows, row_levels}
use Rattle.protocols.specs.JointTables.{sent_column, stacked}
use Rattle.protocols.specs.Tables.{AgreesAt}
use Rattle.protocols.proofs.StackedTables.{value-same}
use Rattle.protocols.proofs.TableOpenings.{agrees-by, row-long, vectors-fit}
use Rattle.protocols.proofs.joint_tables.row_agrees.Goals as goal

pub power_of_two-requires : goal.power_of_two-requires
power_of_two-requires g c = omega (arith, c.args.parameters.now.few_levels)

pub returns-then-row-power_of_two : goal.returns-then-row-power_of_two
returns-then-row-power_of_two g c = (
  λ e. absurd (true≢false (sym e)),
  λ agrees.
      let sizes = c.args.parameters.now in
      absurd
      (c.if-row-power_of_two.true
      (sym (length-map c.args.row.now g.F.Represented.repr) ∙ row-long (row_levels sizes.queries sizes.variables) 2 agrees
      ∙ ap (λ (k : ℕ). 2 ^ k) (sym sizes.levels_are) ∙ sym c.power_of_two.ensures.power)),
)

pub split_at-requires : goal.split_at-requires
split_at-requires g c = omega (arith, c.requires.coordinates, c.args.parameters.now.rows_are)

pub power_of_two-height-requires : goal.power_of_two-height-requires
power_of_two-height-requires g c = omega (arith, c.args.parameters.now.few_rows)

pub extend-requires-clause-few : goal.extend-requires-clause-few
extend-requires-clause-few g c = omega (arith, c.args.parameters.now.few_levels)

pub extend-requires-clause-points : goal.extend-requires-clause-points
extend-requires-clause-points g c = omega (arith, c.args.parameters.now.few_levels, c.requires.points)

pub stack-requires-clause-height : goal.stack-requires-clause-height
stack-requires-clause-height g c =
    let power = c.power_of_two-height.ensures.power in
    let few : 2 ^ c.args.parameters.now.rows ≤ 2 ^ 19 = pow-le-pow_right (lit< tt) c.args.parameters.now.few_rows in
    omega (arith, power, few)

pub agree_at-requires-clause-height : goal.agree_at-requires-clause-height
agree_at-requires-clause-height g c =
    let rows = c.args.parameters.now.rows in
    ap₂ (λ (a b : ℕ). a * b) c.power_of_two-corners.ensures.power c.power_of_two-height.ensures.power
    ∙ sym (pow-add 2 (length c.args.challenges.now) rows)
    ∙ ap (λ (l : ℕ). 2 ^ l)
    (sym
    (ap length (c.as_slice-point.ensures.value ∙ c.in_ok-extend_from_slice.ensures.items)
    ∙ length-append c.in_ok-joined.joined.items c.split_at.result.0.now
    ∙ ap₂ (λ (a b : ℕ). a + b) (ap length c.in_ok-joined.ensures.items) c.split_at.ensures.front_len))

pub returns : goal.returns
returns g c =
    let sizes = c.args.parameters.now in
    let ring = g.F.Represented in
    let repr = ring.repr in
    let vector : ℕ → ℕ = λ (i : ℕ). g.F.TowerLevel.basis (g.F.TowerLevel.cantor i) in
    let rows = matrix_rows sizes.queries sizes.variables in
    let height = c.power_of_two-height.result in
    let high : height ≡ 2 ^ rows = c.power_of_two-height.ensures.power ∙ ap (λ (r : ℕ). 2 ^ r) sizes.rows_are in
    let lists : List (List _) = map (λ list. list.items) c.args.lists.now in
    let places = c.args.places.now in
    let challenges = c.args.challenges.now in
    let front = c.split_at.result.0.now in
    let first : List _ = take rows c.args.point.now in
    let front_is : front ≡ first = c.split_at.ensures.front ∙ ap (λ (r : ℕ). take r c.args.point.now) sizes.rows_are in
    let row = c.args.row.now in
    let word = c.in_ok-word.word.items in
    let made = c.in_ok-columns.columns.items in
    let size : ℕ = c.power_of_two-corners.result * height in
    let at : List ℕ = map repr challenges ++ map repr first in
    let column : ℕ → List ℕ = stacked (length c.args.lists.now) (2 ^ rows) (sent_column repr (2 ^ rows) lists) in
    let point_is : map repr c.as_slice-point.result.now ≡ at =
    ap (map repr) (c.as_slice-point.ensures.value ∙ c.in_ok-extend_from_slice.ensures.items
    ∙ ap₂ (λ (a b : List _). a ++ b) c.in_ok-joined.ensures.items front_is)
    ∙ map-append repr challenges first in
    let value_is : (i : ℕ) → i < length places
    → multilinear_value ring.product (map repr (row_at size c.as_slice.result.now i)) (map repr c.as_slice-point.result.now)
    ≡ multilinear_value ring.product (column i) at =
    λ i below.
    ap (multilinear_value ring.product (map repr (row_at size c.as_slice.result.now i))) point_is
    ∙ value-same ring.product (slice_index (map repr (row_at size c.as_slice.result.now i))) (slice_index (column i)) at
    (λ j inside.
    ap₂ (λ (n : ℕ) (l : List _). slice_index (map repr (row_at n l i)) j) (ap (λ (b : ℕ). b * height) c.power_of_two-corners.ensures.power)
    c.as_slice.ensures.value
    ∙ c.in_ok-columns.ensures.each i j below
    ∙ ap (λ (h : ℕ). slice_index (stacked (length c.args.lists.now) h (sent_column repr h lists) i) j) high) in
    let fits =
    vectors-fit g.F.TowerLevel.LOG_BITS ring.width ring.product g.F.TowerLevel.basis g.F.TowerLevel.cantor g.met.F.TowerLevel.bits_law
    g.met.F.TowerLevel.basis_law g.met.F.TowerLevel.cantor_law in
    let decided =
    agrees-by ring.width ring.product vector g.met.F.Field.wide_law g.met.F.Field.field_law g.met.F.TowerLevel.cantor_image_law fits
    sizes.levels 2 (omega (arith, sizes.few_levels, c.requires.points)) at (map repr row) places (map repr word) (length word)
    column c.in_ok-word.ensures.code_word (take-map repr (2 ^ sizes.levels) word ∙ ap (map repr) c.in_ok-word.ensures.systematic)
    (length-map word repr) in
    let tested : IsTrue c.agree_at.result
    ↔ ((i : ℕ) → i < length places → (slice_index places i < length word)
    × (multilinear_value ring.product (map repr (row_at size c.as_slice.result.now i)) (map repr c.as_slice-point.result.now)
    ≡ slice_index (map repr word) (slice_index places i))) =
    subst
    (λ l. IsTrue c.agree_at.result
    ↔ ((i : ℕ) → i < length places → (slice_index places i < length l)
    × (multilinear_value ring.product (map repr (row_at size c.as_slice.result.now i)) (map repr c.as_slice-point.result.now)
    ≡ slice_index (map repr l) (slice_index places i))))
    c.as_slice-line.ensures.value c.agree_at.ensures in
    let agrees : ℕ → Type 0 = λ (k : ℕ). AgreesAt ring.width ring.product vector k 2 at (map repr row) places column in (
      λ accepted.
          subst agrees sizes.levels_are
          (decided.1 (λ i below. ((tested.0 accepted i below).0, sym (value_is i below) ∙ (tested.0 accepted i below).1))),
      λ shown.
          let each = decided.0 (subst agrees (sym sizes.levels_are) shown) in
          tested.1 (λ i below. ((each i below).0, value_is i below ∙ (each i below).1)),
    )
