use Rattle.std.proofs.Common.{◌↔◌, ℕ, ◌+◌, ◌/◌, IsTrue, length, ◌∙◌, ap, subst}
use Rattle.reed_solomon.specs.Shards.{AreCodewords}
use Rattle.reed_solomon.proofs.codec.ReedSolomon.verify.Goals as goal

pub returns-clause-answer : goal.returns-clause-answer
returns-clause-answer c =
    let k = c.args.self.now.data_shards in
    let m = c.args.self.now.parity_shards in
    subst (λ (n : ℕ). IsTrue c.matches_parity.result ↔ AreCodewords k (k + m) n c.args.shards.now)
    (c.in_ok-size.ensures.size.0 ∙ ap (λ (n : ℕ). length c.args.shards.now / n) c.total_shard_count-total.ensures) c.matches_parity.ensures
