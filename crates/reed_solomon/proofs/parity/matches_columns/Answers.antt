use Rattle.std.proofs.Common.{◌≡◌, ◌+◌, ◌<◌, ◌≤◌, ℕ, List, length, refl, sym, ◌∙◌, subst, arith}
use Rattle.std.proofs.lemmas.Bool.{false≢true}
use Rattle.reed_solomon.specs.Parity.{parity_factor}
use Rattle.reed_solomon.specs.Tables.{HasRow}
use Rattle.reed_solomon.proofs.ParityWords.{parity_inside, parity_rows}
use Rattle.reed_solomon.proofs.parity.matches_columns.Goals as goal

-- the tables that are set are those of as many shards
tables_set : (k counted done count : ℕ) (entries : List ℕ) → k ≡ counted
    → ((row : ℕ) → row < count → HasRow (parity_factor counted (done + row)) entries row counted)
    → (row : ℕ) → row < count → HasRow (parity_factor k (done + row)) entries row k
tables_set k counted done count entries is set row within =
    subst (λ (n : ℕ). HasRow (parity_factor n (done + row)) entries row n) (sym is) (set row within)

pub matches_parity_group-requires-clause-room : goal.matches_parity_group-requires-clause-room
matches_parity_group-requires-clause-room c =
    let within : c.loop-done.done + c.group_size-count.result ≤ c.args.m = omega (arith, c.group_size-count.ensures, c.loop-done-test.true) in
    omega (arith, c.requires.whole, parity_inside (length c.args.starts.now) c.args.m c.args.size (c.loop-done.done + c.group_size-count.result) within)

pub loop-done-preserved : goal.loop-done-preserved
loop-done-preserved c =
    let k = length c.args.starts.now in
    let done = c.loop-done.done in
    let count = c.group_size-count.result in
    let first = c.args.columns.first in (
      omega (arith, c.group_size-count.ensures, c.loop-done-test.true),
      parity_rows k c.args.size c.args.shards.now 0 done (done + count) first (first + c.args.columns.width) c.loop-done.invariant.1
          ((c.matches_parity_group.ensures
          (tables_set k c.args.sample.now.count done count c.set_parity_rows.new.entries c.requires.counted c.set_parity_rows.ensures.set)).0
          c.if-not-matches_parity_group.false),
    )

pub returns-then-not-matches_parity_group-clause-answer : goal.returns-then-not-matches_parity_group-clause-answer
returns-then-not-matches_parity_group-clause-answer c =
    let k = length c.args.starts.now in
    let done = c.loop-done.done in
    let count = c.group_size-count.result in
    let within : done + count ≤ c.args.m = omega (arith, c.group_size-count.ensures, c.loop-done-test.true) in (
      (λ wrong. absurd (false≢true wrong)),
      λ all. absurd (false≢true (sym c.if-not-matches_parity_group.true
          ∙ (c.matches_parity_group.ensures
          (tables_set k c.args.sample.now.count done count c.set_parity_rows.new.entries c.requires.counted c.set_parity_rows.ensures.set)).1
          (λ t column above below left inside. all t column (omega arith) (omega (arith, below, within)) left inside))),
    )

pub returns-clause-answer : goal.returns-clause-answer
returns-clause-answer c = (
  (λ right t column above below left inside.
      c.loop-done.invariant.1 t column above (omega (arith, below, c.loop-done-test.false)) left inside),
  λ all. refl,
)
