use Rattle.std.proofs.Common.{◌≡◌, ◌+◌, ◌-◌, ◌≤◌, ℕ, length, sym, subst, arith}
use Rattle.reed_solomon.specs.Missing.{HaveMissingTables}
use Rattle.reed_solomon.specs.Parity.{tables_length}
use Rattle.reed_solomon.proofs.codec.ReedSolomon.prepare_reconstruct.Goals as goal

pub write_missing_tables-requires-clause-room : goal.write_missing_tables-requires-clause-room
write_missing_tables-requires-clause-room c =
    let k = c.args.self.now.data_shards in
    let count = c.of_present-sample.result.count in
    let counted : count ≡ k = omega (arith, c.of_present-sample.ensures.at_most) in
    let others : length c.args.present.now - count ≡ c.args.self.now.parity_shards = omega (arith, counted, c.total_shard_count-total.ensures) in
    subst (λ (n : ℕ). tables_length n (length c.args.present.now - count) ≤ length c.args.tables.now) (sym counted)
    (subst (λ (m : ℕ). tables_length k m ≤ length c.args.tables.now) (sym others) (omega (arith, c.requires)))

pub returns-clause-prepared : goal.returns-clause-prepared
returns-clause-prepared c = λ ok.
    let k = c.args.self.now.data_shards in
    let total = k + c.args.self.now.parity_shards in
    let count = c.of_present-sample.result.count in
    let counted : count ≡ k = omega (arith, c.of_present-sample.ensures.at_most) in
    let flags : length c.args.present.now ≡ total = omega (arith, c.total_shard_count-total.ensures) in
    subst (λ (n : ℕ). HaveMissingTables n total c.args.present.now c.write_missing_tables.new.tables) counted
    (subst (λ (n : ℕ). HaveMissingTables count n c.args.present.now c.write_missing_tables.new.tables) flags c.write_missing_tables.ensures.prepared)
