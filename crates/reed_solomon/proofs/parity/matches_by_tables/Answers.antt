use Rattle.std.proofs.Common.{◌≡◌, ◌+◌, ◌*◌, ◌<◌, ◌≤◌, ℕ, length, take, refl, sym, ◌∙◌, ap, arith}
use Rattle.std.proofs.lemmas.Bool.{false≢true}
use Rattle.std.proofs.lemmas.List.{get_or-take, length-take-le}
use Rattle.reed_solomon.proofs.ParityWords.{matching_parity, strip_equals, strip_matches}
use Rattle.reed_solomon.proofs.parity.matches_by_tables.Goals as goal

pub matches_columns-requires-clause-points : goal.matches_columns-requires-clause-points
matches_columns-requires-clause-points c =
    let counted = length-take-le c.args.k c.starts_from-starts.result (omega (arith, c.requires.points, c.starts_from-starts.ensures.long)) in
    omega (arith, c.requires.points, counted)

pub matches_columns-requires-clause-some : goal.matches_columns-requires-clause-some
matches_columns-requires-clause-some c =
    let counted = length-take-le c.args.k c.starts_from-starts.result (omega (arith, c.requires.points, c.starts_from-starts.ensures.long)) in
    omega (arith, c.requires.some, counted)

pub matches_columns-requires-clause-tables : goal.matches_columns-requires-clause-tables
matches_columns-requires-clause-tables c =
    let counted = length-take-le c.args.k c.starts_from-starts.result (omega (arith, c.requires.points, c.starts_from-starts.ensures.long)) in
    omega (arith, c.requires.tables, counted, c.loop-first.auto.entries)

pub matches_columns-requires-clause-counted : goal.matches_columns-requires-clause-counted
matches_columns-requires-clause-counted c =
    length-take-le c.args.k c.starts_from-starts.result (omega (arith, c.requires.points, c.starts_from-starts.ensures.long))
    ∙ sym c.of_first-sample.ensures.count

pub matches_columns-requires-clause-begun : goal.matches_columns-requires-clause-begun
matches_columns-requires-clause-begun c = λ j below.
    let counted = length-take-le c.args.k c.starts_from-starts.result (omega (arith, c.requires.points, c.starts_from-starts.ensures.long)) in
    let inside : j < c.args.k = omega (arith, below, counted) in
    let start : (0 + j) * c.args.size ≡ j * c.args.size = omega arith in
    get_or-take c.args.k c.starts_from-starts.result j 0 inside ∙ c.starts_from-starts.ensures.starts j inside ∙ start

pub matches_columns-requires-clause-whole : goal.matches_columns-requires-clause-whole
matches_columns-requires-clause-whole c =
    let counted = length-take-le c.args.k c.starts_from-starts.result (omega (arith, c.requires.points, c.starts_from-starts.ensures.long)) in
    c.requires.whole ∙ ap (λ (n : ℕ). (n + c.args.m) * c.args.size) (sym counted)

pub loop-first-preserved : goal.loop-first-preserved
loop-first-preserved c =
    let counted = length-take-le c.args.k c.starts_from-starts.result (omega (arith, c.requires.points, c.starts_from-starts.ensures.long)) in (
      omega (arith, c.strip_of-width.ensures.few, c.loop-first-test.true),
      strip_matches c.args.k (length (take c.args.k c.starts_from-starts.result)) c.args.m c.args.size c.loop-first.first c.strip_of-width.result
          c.args.shards.now c.matches_columns.result counted c.matches_columns.ensures.answer c.if-not-matches_columns.false c.loop-first.invariant.1,
    )

pub returns-then-not-matches_columns : goal.returns-then-not-matches_columns
returns-then-not-matches_columns c =
    let counted = length-take-le c.args.k c.starts_from-starts.result (omega (arith, c.requires.points, c.starts_from-starts.ensures.long)) in
    let fits : c.loop-first.first + c.strip_of-width.result ≤ c.args.size = omega (arith, c.strip_of-width.ensures.few, c.loop-first-test.true) in (
      (λ wrong. absurd (false≢true wrong)),
      λ words. absurd (false≢true (sym c.if-not-matches_columns.true
          ∙ strip_equals c.args.k (length (take c.args.k c.starts_from-starts.result)) c.args.m c.args.size c.loop-first.first c.strip_of-width.result
          c.args.shards.now c.matches_columns.result counted c.matches_columns.ensures.answer fits
          ((matching_parity c.args.k c.args.m c.args.size c.args.shards.now c.requires.points c.bytes_fit.ensures).1 words))),
    )

pub returns : goal.returns
returns c = (
  (λ right.
      (matching_parity c.args.k c.args.m c.args.size c.args.shards.now c.requires.points c.bytes_fit.ensures).0
      (λ t column above below left inside.
      c.loop-first.invariant.1 t column above below left (omega (arith, inside, c.loop-first-test.false)))),
  λ words. refl,
)
