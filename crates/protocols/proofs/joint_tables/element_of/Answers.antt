use Rattle.std.proofs.Common.{◌<◌, ◌≤◌, [], ℕ, List, length, map, sym, ◌∙◌, ap, subst, arith}
use Rattle.std.specs.Prelude.{slice_index}
use Rattle.std.proofs.lemmas.List.{get_or_past, length-map}
use Rattle.field_base.proofs.Places.{number-at}
use Rattle.protocols.proofs.HonestTables.{mapped-at}
use Rattle.protocols.proofs.joint_tables.element_of.Goals as goal

pub returns-then-table-lists : goal.returns-then-table-lists
returns-then-table-lists g c =
    let lists : List (List _) = map (λ list. list.items) c.args.lists.now in
    let long = length-map c.args.lists.now (λ list. list.items) in
    let past : length lists ≤ c.args.table = omega (arith, long, c.if-table-lists.true) in
    ap g.F.Represented.repr c.ZERO.ensures ∙ g.met.F.PrimeCharacteristicRing.zero_law
    ∙ sym (ap (λ (l : List _). slice_index (map g.F.Represented.repr l) c.args.place) (get_or_past lists c.args.table [] past))

pub bounds-list-place : goal.bounds-list-place
bounds-list-place g c =
    let within : c.args.table < length c.args.lists.now = omega (arith, c.if-table-lists.false) in
    let list = mapped-at (λ list. list.items) c.args.lists.now c.args.table c.index-lists-table.result [] within c.index-lists-table.is in
    subst (λ (n : ℕ). c.args.place < n) (ap length (list ∙ sym c.as_slice-list.ensures.value)) (c.requires within)

pub returns : goal.returns
returns g c =
    let repr = g.F.Represented.repr in
    let within : c.args.table < length c.args.lists.now = omega (arith, c.if-table-lists.false) in
    let list = mapped-at (λ list. list.items) c.args.lists.now c.args.table c.index-lists-table.result [] within c.index-lists-table.is in
    let inside = subst (λ (n : ℕ). c.args.place < n) (ap length (list ∙ sym c.as_slice-list.ensures.value)) (c.requires within) in
    sym (number-at repr c.as_slice-list.result.now c.args.place c.index-list-place.result inside c.index-list-place.is)
    ∙ ap (λ (l : List _). slice_index (map repr l) c.args.place) (c.as_slice-list.ensures.value ∙ sym list)
