use Rattle.std.proofs.Common.{◌+◌, ◌*◌, ◌<◌, ℕ, length, subst, arith}
use Rattle.reed_solomon.specs.Parity.{parity_factor, parity_symbol}
use Rattle.reed_solomon.specs.Tables.{AreWritten}
use Rattle.reed_solomon.proofs.GroupWriting.{place_inside}
use Rattle.reed_solomon.proofs.PreparedTables.{group_tables, groups_joined}
use Rattle.reed_solomon.proofs.prepared.write_columns.Goals as goal

pub write_parity_group-requires-clause-room : goal.write_parity_group-requires-clause-room
write_parity_group-requires-clause-room c = λ row below.
    let inside : 4 * c.loop-group.group + row < c.args.m = omega (arith, below, c.group_size-count.ensures, c.loop-group-test.true) in
    omega (arith, place_inside c.args.size c.args.m (4 * c.loop-group.group + row) inside, c.requires.room, c.loop-group.auto.parity)

pub write_parity_group-requires-clause-some : goal.write_parity_group-requires-clause-some
write_parity_group-requires-clause-some c =
    omega (arith, place_inside c.args.size (length c.args.starts.now) 0 c.requires.some, c.requires.within, c.requires.whole)

pub loop-group-preserved : goal.loop-group-preserved
loop-group-preserved c = λ all.
    let k = length c.args.starts.now in
    let count = c.group_size-count.result in
    let group = c.loop-group.group in
    groups_joined k c.args.m c.args.size c.args.columns.first c.args.columns.width group count c.args.shards.now c.args.parity.now c.loop-group.parity _
    c.requires.within c.loop-group-test.true c.group_size-count.ensures (c.loop-group.invariant all)
    (c.write_parity_group.ensures.written
    (group_tables (parity_factor k) k c.args.m group count c.args.tables.now all.rows c.group_size-count.ensures))

pub returns-clause-written : goal.returns-clause-written
returns-clause-written c = λ all.
    let before = c.loop-group.invariant all in
    subst
    (λ (n : ℕ). AreWritten (λ t i. parity_symbol (length c.args.starts.now) c.args.size c.args.shards.now t (c.args.columns.first + i))
    (λ t. t * c.args.size + c.args.columns.first) n c.args.columns.width c.args.parity.now c.loop-group.parity)
    (omega (arith, c.loop-group-test.false)) before
