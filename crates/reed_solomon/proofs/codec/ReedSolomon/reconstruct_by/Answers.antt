use Rattle.std.proofs.Common.{◌≡◌, ◌+◌, ◌-◌, ◌/◌, ◌≤◌, ℕ, length, sym, ◌∙◌, ap, subst, arith}
use Rattle.reed_solomon.specs.Missing.{IsReconstructedBy}
use Rattle.reed_solomon.specs.Parity.{tables_length}
use Rattle.reed_solomon.proofs.codec.ReedSolomon.reconstruct_by.Goals as goal

pub restore_missing-requires-clause-listed : goal.restore_missing-requires-clause-listed
restore_missing-requires-clause-listed c =
    let k = c.args.self.now.data_shards in
    let count = c.present_places-count.result.1 in
    let counted : count ≡ k = omega (arith, c.present_places-count.ensures.sample.at_most) in
    let others : length c.args.present.now - count ≡ c.args.self.now.parity_shards = omega (arith, counted, c.total_shard_count-total.ensures) in
    subst (λ (n : ℕ). tables_length n (length c.args.present.now - count) ≤ length c.args.tables.now) (sym counted)
    (subst (λ (m : ℕ). tables_length k m ≤ length c.args.tables.now) (sym others) (omega (arith, c.requires.listed)))

pub returns-clause-restored : goal.returns-clause-restored
returns-clause-restored c = λ ok.
    let k = c.args.self.now.data_shards in
    let total = k + c.args.self.now.parity_shards in
    let count = c.present_places-count.result.1 in
    let until = c.args.until in
    let present = c.args.present.now in
    let tables = c.args.tables.now in
    let old = c.args.shards.now in
    let new = c.restore_missing.new.shards in
    let counted : count ≡ k = omega (arith, c.present_places-count.ensures.sample.at_most) in
    let flags : length present ≡ total = omega (arith, c.total_shard_count-total.ensures) in
    let size_is = c.in_ok-size.ensures.size.0 ∙ ap (λ (n : ℕ). length old / n) c.total_shard_count-total.ensures in
    subst (λ (n : ℕ). IsReconstructedBy n total (length old / total) until present tables old new) counted
    (subst (λ (n : ℕ). IsReconstructedBy count n (length old / total) until present tables old new) flags
    (subst (λ (n : ℕ). IsReconstructedBy count (length present) n until present tables old new) size_is c.restore_missing.ensures))
