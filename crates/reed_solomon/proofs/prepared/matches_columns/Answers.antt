use Rattle.std.proofs.Common.{◌+◌, ◌*◌, ℕ, length, refl, sym, ◌∙◌, subst, arith}
use Rattle.std.proofs.lemmas.Bool.{false≢true}
use Rattle.reed_solomon.specs.Parity.{MatchesParity, parity_factor}
use Rattle.reed_solomon.proofs.ParityWords.{parity_inside, parity_rows}
use Rattle.reed_solomon.proofs.PreparedTables.{group_tables, group_within}
use Rattle.reed_solomon.proofs.prepared.matches_columns.Goals as goal

pub matches_parity_group-requires-clause-room : goal.matches_parity_group-requires-clause-room
matches_parity_group-requires-clause-room c =
    let fits = (group_within c.args.m c.loop-group.group c.group_size-count.result c.loop-group-test.true c.group_size-count.ensures).0 in
    omega (
      arith,
      c.requires.whole,
      parity_inside (length c.args.starts.now) c.args.m c.args.size (4 * c.loop-group.group + c.group_size-count.result) fits,
    )

pub loop-group-preserved : goal.loop-group-preserved
loop-group-preserved c = λ all.
    let k = length c.args.starts.now in
    let m = c.args.m in
    let group = c.loop-group.group in
    let count = c.group_size-count.result in
    let first = c.args.columns.first in
    let end = first + c.args.columns.width in
    let within = group_within m group count c.loop-group-test.true c.group_size-count.ensures in
    subst (λ (n : ℕ). MatchesParity k c.args.size c.args.shards.now 0 n first end) (sym within.1)
    (parity_rows k c.args.size c.args.shards.now 0 (4 * group) (4 * group + count) first end
    (subst (λ (n : ℕ). MatchesParity k c.args.size c.args.shards.now 0 n first end) within.2 (c.loop-group.invariant all))
    ((c.matches_parity_group.ensures (group_tables (parity_factor k) k m group count c.args.tables.now all.rows c.group_size-count.ensures)).0
    c.if-not-matches_parity_group.false))

pub returns-then-not-matches_parity_group : goal.returns-then-not-matches_parity_group
returns-then-not-matches_parity_group c = λ all.
    let k = length c.args.starts.now in
    let m = c.args.m in
    let group = c.loop-group.group in
    let count = c.group_size-count.result in
    let fits = (group_within m group count c.loop-group-test.true c.group_size-count.ensures).0 in (
      (λ wrong. absurd (false≢true wrong)),
      λ words. absurd (false≢true (sym c.if-not-matches_parity_group.true
          ∙ (c.matches_parity_group.ensures (group_tables (parity_factor k) k m group count c.args.tables.now all.rows c.group_size-count.ensures)).1
          (λ t column above below left inside. words t column (omega arith) (omega (arith, below, fits)) left inside))),
    )

pub returns : goal.returns
returns c = λ all. (
  (λ right t column above below left inside.
      c.loop-group.invariant all t column above (omega (arith, below, c.loop-group-test.false)) left inside),
  λ words. refl,
)
