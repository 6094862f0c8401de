use Rattle.std.proofs.Common.{◌≡◌, ◌+◌, ◌*◌, ◌<◌, ◌≤◌, ℕ, refl, sym, subst, arith}
use Rattle.reed_solomon.specs.Parity.{parity_factor, parity_symbol}
use Rattle.reed_solomon.specs.Tables.{AreWritten, HasRow}
use Rattle.reed_solomon.proofs.GroupWriting.{columns_behind, place_inside}
use Rattle.reed_solomon.proofs.parity.write_columns.Goals as goal

pub write_parity_group-requires-clause-room : goal.write_parity_group-requires-clause-room
write_parity_group-requires-clause-room c = λ row below.
    let inside : c.loop-done.done + row < c.args.m = omega (arith, below, c.group_size-count.ensures, c.loop-done-test.true) in
    omega (arith, place_inside c.args.size c.args.m (c.loop-done.done + row) inside, c.requires.room, c.loop-done.auto.parity)

pub write_parity_group-requires-clause-some : goal.write_parity_group-requires-clause-some
write_parity_group-requires-clause-some c =
    omega (arith, place_inside c.args.size c.args.sample.now.count 0 c.requires.some, c.requires.within, c.requires.whole)

pub loop-done-preserved : goal.loop-done-preserved
loop-done-preserved c =
    let k = c.args.sample.now.count in
    let size = c.args.size in
    let shards = c.args.shards.now in
    let done = c.loop-done.done in
    let count = c.group_size-count.result in
    let column = c.args.columns.first in
    let width = c.args.columns.width in
    let within : done + count ≤ c.args.m = omega (arith, c.group_size-count.ensures, c.loop-done-test.true) in (
      within,
      columns_behind (λ t i. parity_symbol k size shards t (column + i)) size column width c.args.m c.requires.within done done count (done + count)
          c.args.parity.now c.loop-done.parity _ refl refl within c.loop-done.invariant.1
          (subst
          (λ (n : ℕ). AreWritten (λ row i. parity_symbol n size shards (done + row) (column + i)) (λ row. (done + row) * size + column) count width
          c.loop-done.parity c.write_parity_group.new.parity)
          c.requires.counted
          (c.write_parity_group.ensures.written (λ row below.
          subst (λ (n : ℕ). HasRow (parity_factor n (done + row)) c.set_parity_rows.new.entries row n) (sym c.requires.counted)
          (c.set_parity_rows.ensures.set row below)))),
    )

pub returns-clause-written : goal.returns-clause-written
returns-clause-written c =
    let all = c.loop-done.invariant.1 in
    let end : c.loop-done.done ≡ c.args.m = omega (arith, c.loop-done.invariant.0, c.loop-done-test.false) in
    subst
    (λ (n : ℕ). AreWritten (λ t i. parity_symbol c.args.sample.now.count c.args.size c.args.shards.now t (c.args.columns.first + i))
    (λ t. t * c.args.size + c.args.columns.first) n c.args.columns.width c.args.parity.now c.loop-done.parity)
    end all
