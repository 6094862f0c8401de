use Rattle.std.proofs.Common.{◌≡◌, ◌+◌, ◌-◌, ◌*◌, ◌<◌, ℕ, List, length, take, drop, slice_index, refl, sym, ◌∙◌, ap, subst, arith}
use Rattle.std.proofs.lemmas.List.{get_or-take, length-drop, length-take-le, take_rest}
use Rattle.reed_solomon.specs.Tables.{AreApart}
use Rattle.reed_solomon.proofs.GroupWriting.{apart_places, columns_apart}
use Rattle.reed_solomon.proofs.StripRows.{column_symbols}
use Rattle.reed_solomon.proofs.parity.write_parity_strip.Goals as goal

pub write_group-requires : goal.write_group-requires
write_group-requires c =
    let shards = c.args.shards.now in
    let rows = c.places_in-rows.result in
    let first = c.args.first in
    let count = c.args.count in
    let size = c.args.size in
    let column = c.args.columns.first in
    let width = c.args.columns.width in
    let listed : length (take count rows) ≡ count = length-take-le count rows (omega (arith, c.requires.rows, c.places_in-rows.ensures.long)) in
    let long : length (take (length shards - column) (drop column shards)) ≡ length shards - column =
    ap (λ (l : List ℕ). length l) (take_rest shards column) ∙ length-drop column shards in
    let at : (row : ℕ) → row < length (take count rows) → slice_index (take count rows) row ≡ (first + row) * size + column =
    λ row below.
    let inside : row < count = omega (arith, below, listed) in
    get_or-take count rows row 0 inside ∙ c.places_in-rows.ensures.starts row inside in
    record {
      named = refl;
      few_rows = omega (arith, listed, c.requires.rows);
      some_shards = c.requires.some_shards;
      few_shards = c.requires.few;
      tables = omega (arith, c.requires.tables, listed, c.requires.rows);
      inside = λ j below.
          omega (arith, long, c.requires.begun j below, c.requires.inside j below, c.requires.within, c.requires.some);
      within = λ row below.
          omega (arith, at row below, c.requires.room row (omega (arith, below, listed)), c.requires.within);
      apart = λ row other less below.
          subst (λ (p : ℕ). AreApart width p (slice_index (take count rows) other)) (sym (at row below))
          (subst (λ (p : ℕ). AreApart width ((first + row) * size + column) p) (sym (at other (omega (arith, less, below))))
          (columns_apart size column width (first + row) (first + other) c.requires.within
          (apart_places size (first + row) (first + other) (λ e. absurd (omega (arith, less, e))))));
    }

pub returns-clause-written : goal.returns-clause-written
returns-clause-written c = λ set.
    let k = length c.args.starts.now in
    let rows = c.places_in-rows.result in
    let count = c.args.count in
    let column = c.args.columns.first in
    column_symbols k c.args.size (λ i. i) (λ row. k + (c.args.first + row)) c.args.entries.now c.args.shards.now _ c.args.starts.now
    (slice_index (take count rows)) (λ row. (c.args.first + row) * c.args.size + column) (length (take count rows)) count column
    c.args.columns.width c.args.parity.now _ (take_rest c.args.shards.now column)
    (length-take-le count rows (omega (arith, c.requires.rows, c.places_in-rows.ensures.long))) refl c.requires.begun
    (λ row below. get_or-take count rows row 0 below ∙ c.places_in-rows.ensures.starts row below) set c.bytes_fit.ensures
    c.write_group.ensures
