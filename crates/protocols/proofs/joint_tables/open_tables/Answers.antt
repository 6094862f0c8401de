use Rattle.std.proofs.Common.{◌≡◌, ◌<◌, ◌≤◌, ◌^◌, ◌++◌, [], ℕ, true, inl, List, length, map, drop, get_or, refl, sym, ◌∙◌, ap, subst, arith}
use Rattle.std.specs.Prelude.{slice_index}
use Rattle.std.specs.List.{range_with_len}
use Rattle.std.proofs.lemmas.List.{length-map}
use Rattle.std.proofs.lemmas.Nat.{pow-add}
use Rattle.field_slices.specs.Multilinear.{multilinear_value}
use Rattle.transcripts.specs.Commitments.{root_of}
use Rattle.transcripts.specs.Openings.{AreAscending}
use Rattle.protocols.specs.CommitmentScheme.{ArePlacesDrawn, StopsOpening, matrix_rows, row_levels, word_levels}
use Rattle.protocols.specs.JointTables.{AreTablesCombined, EachBelow, sent_tables}
use Rattle.protocols.specs.Tables.{IsHonestOpening}
use Rattle.protocols.proofs.HonestOpenings.{at-place, each-open, row-counted, values-are}
use Rattle.protocols.proofs.HonestTables.{tables-open}
use Rattle.protocols.proofs.SchemeRuns.{fails-as, fails-so}
use Rattle.protocols.proofs.joint_tables.open_tables.Goals as goal

pub values_of_rows-requires-clause-rows : goal.values_of_rows-requires-clause-rows
values_of_rows-requires-clause-rows g c = λ i below.
    let rows = c.in_ok-rows.rows.items in
    let same = c.as_slice-lists.ensures.value in
    ap (λ l. length (get_or (map (λ row. row.items) l) i [])) same
    ∙ at-place (λ j. length (get_or (map (λ row. row.items) rows) j []) ≡ _) c.args.tables.now
    (λ j held inside is. row-counted g.F.Represented.repr (get_or (map (λ row. row.items) rows) j []) _ _ (c.in_ok-rows.ensures.each j held inside is)) i
    (let long = c.in_ok-rows.ensures.count in let count = ap length same in omega (arith, below, long, count))

pub combine-requires-clause-lists : goal.combine-requires-clause-lists
combine-requires-clause-lists g c = λ i below.
    let sizes = c.args.parameters.now in
    let rows = c.in_ok-rows.rows.items in
    let same = c.as_slice-lists.ensures.value in
    ap (λ l. length (get_or (map (λ row. row.items) l) i [])) same
    ∙ at-place (λ j. length (get_or (map (λ row. row.items) rows) j []) ≡ _) c.args.tables.now
    (λ j held inside is. row-counted g.F.Represented.repr (get_or (map (λ row. row.items) rows) j []) _ _ (c.in_ok-rows.ensures.each j held inside is)) i
    (let long = c.in_ok-rows.ensures.count in let count = ap length same in omega (arith, below, long, count))
    ∙ ap (λ (l : ℕ). 2 ^ l) (sym sizes.levels_are)

pub combine-requires-clause-room : goal.combine-requires-clause-room
combine-requires-clause-room g c =
    let long = c.in_ok-rows.ensures.count in
    let count = ap length c.as_slice-lists.ensures.value in
    let room = c.in_ok-challenges.ensures.combined.cube.room in
    subst (λ (l : ℕ). l ≤ 2 ^ length c.as_slice.result.now) (sym (count ∙ long))
    (subst (λ (l : List _). length c.args.tables.now ≤ 2 ^ length l) (sym c.as_slice.ensures.value) room)

pub open_each-requires-clause-places : goal.open_each-requires-clause-places
open_each-requires-clause-places g c =
    let sizes = c.args.parameters.now in
    subst (λ (l : List ℕ). AreAscending (2 ^ word_levels sizes.queries sizes.variables) l) (sym c.as_slice-3.ensures.value)
    c.in_ok-witness.ensures.ascending

pub returns-clause-honest : goal.returns-clause-honest
returns-clause-honest g c = λ bytes vector hash tables holds.
    let sizes = c.args.parameters.now in
    let m = sizes.queries in
    let n = sizes.variables in
    let k = row_levels m n in
    let field = g.F.Represented in
    let repr = field.repr in
    let ring = g.met.F.Field.field_law.ring in
    let wide = g.met.F.Field.wide_law in
    let point = c.args.point.now in
    let held = c.args.tables.now in
    let coordinates = c.requires.coordinates in
    let lists : List (List _) = map (λ row. row.items) c.in_ok-rows.rows.items in
    let row = c.in_ok-row.row.items in
    let values = c.in_ok-values.values.items in
    let challenges = c.in_ok-challenges.challenges.items in
    let places = c.in_ok-witness.places.items in
    let columns : List (List _) = map (λ list. list.items) c.in_ok-columns.columns.items in
    let nodes : List (List (List ℕ)) = map (λ list. list.items) c.in_ok-columns.nodes.items in
    let witness = g.C.GrindingChallenger.number c.in_ok-witness.witness in
    let between = c.sample_challenges.new.challenger in
    let roots : List (List ℕ) = map (λ columns. root_of columns.1) (map (λ t. (t.now.columns.items, t.now.tree)) held) in
    let roots_long : length roots ≡ length held =
    length-map (map (λ t. (t.now.columns.items, t.now.tree)) held) (λ columns. root_of columns.1)
    ∙ length-map held (λ t. (t.now.columns.items, t.now.tree)) in
    let rows_long : length c.in_ok-rows.rows.items ≡ length roots = c.in_ok-rows.ensures.count ∙ sym roots_long in
    let symbols : List (List _) → ℕ → List _ → ℕ → List ℕ =
    λ (ls : List (List _)) (count : ℕ) (by : List _) (levels : ℕ).
    map (λ p. multilinear_value field.product (map (λ i. slice_index (map repr (get_or ls i [])) p) (range_with_len 0 count)) (map repr by))
    (range_with_len 0 (2 ^ levels)) in
    let row_is : map repr row ≡ symbols lists (length roots) challenges k =
    c.in_ok-row.ensures
    ∙ ap (λ l. symbols (map (λ r. r.items) l) (length l) c.as_slice.result.now sizes.levels) c.as_slice-lists.ensures.value
    ∙ ap (λ (count : ℕ). symbols lists count c.as_slice.result.now sizes.levels) rows_long
    ∙ ap (λ (by : List _). symbols lists (length roots) by sizes.levels) c.as_slice.ensures.value
    ∙ ap (symbols lists (length roots) challenges) sizes.levels_are in
    let valued : List (List _) → ℕ → List ℕ =
    λ (ls : List (List _)) (count : ℕ).
    map (λ i. multilinear_value field.product (map repr (get_or ls i [])) (map repr (drop (matrix_rows m n) point))) (range_with_len 0 count) in
    let values_is : map repr values ≡ valued lists (length roots) =
    c.in_ok-values.ensures
    ∙ ap (λ l. valued (map (λ r. r.items) l) (length l)) c.as_slice-lists.ensures.value
    ∙ ap (valued lists) rows_long in
    let honest : EachBelow (length held) held (λ i t. IsHonestOpening repr bytes field.width field.product vector (matrix_rows m n) t.now.tree
    t.now.columns.items places (get_or columns i []) (get_or nodes i [])) =
    subst
    (λ (ps : List ℕ). EachBelow (length held) held (λ i t. IsHonestOpening repr bytes field.width field.product vector (matrix_rows m n) t.now.tree
    t.now.columns.items ps (get_or columns i []) (get_or nodes i []))) c.as_slice-3.ensures.value
    (λ i t below is. c.in_ok-columns.ensures.each i t below is bytes vector) in
    let combined : AreTablesCombined g.C.CanObserve.observes g.C.CanSample.gives (length roots) (point ++ values) c.args.challenger.now challenges
    between =
    subst (λ (count : ℕ). AreTablesCombined g.C.CanObserve.observes g.C.CanSample.gives count (point ++ values) c.args.challenger.now challenges between)
    (sym roots_long)
    (subst
    (λ (l : List _). AreTablesCombined g.C.CanObserve.observes g.C.CanSample.gives (length held) (point ++ l) c.args.challenger.now challenges between)
    c.as_slice-claimed.ensures.value c.in_ok-challenges.ensures.combined) in (
      values-are hash repr bytes field.width field.product vector m n held (λ t. t.now.columns.items) (λ t. t.now.tree) tables holds point
          coordinates lists c.in_ok-rows.ensures.each wide ring field.range_law values (values_is ∙ ap (valued lists) roots_long),
      record {
        challenges = challenges;
        between = between;
        combined = combined;
        works = true;
        places = places;
        drawn =
            subst
            (λ (s : List _). ArePlacesDrawn g.C.CanObserve.observes g.C.CanSample.gives g.C.GrindingChallenger.passing
            g.C.GrindingChallenger.checks g.C.CanSampleBits.gives_bits m n s witness between true places c.grind_places.new.challenger)
            c.as_slice-2.ensures.value c.in_ok-witness.ensures.drawn;
        decided = (
          λ _. (
            refl,
            tables-open hash repr bytes field.width field.product vector wide ring field.range_law m n roots
                (sent_tables values row witness columns nodes) challenges point (λ i. get_or lists i []) places coordinates combined.cube.room
                (λ i below.
                each-open hash repr bytes field.width field.product vector m n held (λ t. t.now.columns.items) (λ t. t.now.tree) tables holds point
                coordinates lists c.in_ok-rows.ensures.each places columns nodes honest i (subst (λ (l : ℕ). i < l) roots_long below))
                row_is values_is
                (λ q below.
                subst (λ (p : ℕ). slice_index places q < p) (pow-add 2 2 k) (c.in_ok-witness.ensures.ascending.below q below))
                (length-map c.in_ok-columns.columns.items (λ list. list.items) ∙ c.in_ok-columns.ensures.columns ∙ sym roots_long)
                (length-map c.in_ok-columns.nodes.items (λ list. list.items) ∙ c.in_ok-columns.ensures.nodes ∙ sym roots_long),
          ),
          λ _. refl,
        );
      },
    )

pub returns-in_err-challenges-clause-error : goal.returns-in_err-challenges-clause-error
returns-in_err-challenges-clause-error g c going =
    fails-so _ c.from_residual-in_err-challenges.ensures.1 (λ error is. inl (is ∙ c.in_err-challenges.ensures.memory going))

pub returns-in_err-witness-clause-error : goal.returns-in_err-witness-clause-error
returns-in_err-witness-clause-error g c going =
    fails-as (StopsOpening g.C.GrindingChallenger.passing g.C.GrindingChallenger.witness_bits) _ _ c.from_residual-in_err-witness.ensures.1
    (c.in_err-witness.ensures.error (c.in_ok-challenges.ensures.goes_on going))
