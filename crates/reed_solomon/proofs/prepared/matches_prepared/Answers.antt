use Rattle.std.proofs.Common.{◌+◌, ◌*◌, ◌≤◌, ℕ, length, take, refl, sym, ◌∙◌, ap, subst, arith}
use Rattle.std.proofs.lemmas.Bool.{false≢true}
use Rattle.std.proofs.lemmas.List.{length-take-le}
use Rattle.reed_solomon.specs.Parity.{HaveParityTables}
use Rattle.reed_solomon.proofs.ParityWords.{matching_parity, strip_equals, strip_matches}
use Rattle.reed_solomon.proofs.prepared.matches_prepared.Goals as goal

pub matches_columns-requires-clause-whole : goal.matches_columns-requires-clause-whole
matches_columns-requires-clause-whole c =
    let counted = length-take-le c.args.k c.starts_from-starts.result (omega (arith, c.requires.points, c.starts_from-starts.ensures.long)) in
    c.requires.whole ∙ ap (λ (n : ℕ). (n + c.args.m) * c.args.size) (sym counted)

pub loop-first-preserved : goal.loop-first-preserved
loop-first-preserved c =
    let counted = length-take-le c.args.k c.starts_from-starts.result (omega (arith, c.requires.points, c.starts_from-starts.ensures.long)) in (
      omega (arith, c.strip_of-width.ensures.few, c.loop-first-test.true),
      λ all.
          strip_matches c.args.k (length (take c.args.k c.starts_from-starts.result)) c.args.m c.args.size c.loop-first.first c.strip_of-width.result
          c.args.shards.now c.matches_columns.result counted
          (c.matches_columns.ensures (subst (λ (n : ℕ). HaveParityTables n c.args.m c.args.tables.now) (sym counted) all))
          c.if-not-matches_columns.false (c.loop-first.invariant.1 all),
    )

pub returns-then-not-matches_columns : goal.returns-then-not-matches_columns
returns-then-not-matches_columns c = λ all.
    let counted = length-take-le c.args.k c.starts_from-starts.result (omega (arith, c.requires.points, c.starts_from-starts.ensures.long)) in
    let fits : c.loop-first.first + c.strip_of-width.result ≤ c.args.size = omega (arith, c.strip_of-width.ensures.few, c.loop-first-test.true) in (
      (λ wrong. absurd (false≢true wrong)),
      λ words. absurd (false≢true (sym c.if-not-matches_columns.true
          ∙ strip_equals c.args.k (length (take c.args.k c.starts_from-starts.result)) c.args.m c.args.size c.loop-first.first c.strip_of-width.result
          c.args.shards.now c.matches_columns.result counted
          (c.matches_columns.ensures (subst (λ (n : ℕ). HaveParityTables n c.args.m c.args.tables.now) (sym counted) all)) fits
          ((matching_parity c.args.k c.args.m c.args.size c.args.shards.now c.requires.points c.bytes_fit.ensures).1 words))),
    )

pub returns : goal.returns
returns c = λ all. (
  (λ right.
      (matching_parity c.args.k c.args.m c.args.size c.args.shards.now c.requires.points c.bytes_fit.ensures).0
      (λ t column above below left inside.
      c.loop-first.invariant.1 all t column above below left (omega (arith, inside, c.loop-first-test.false)))),
  λ words. refl,
)
