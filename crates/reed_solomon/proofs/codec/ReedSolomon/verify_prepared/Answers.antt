use Rattle.std.proofs.Common.{◌↔◌, ℕ, ◌+◌, IsTrue, subst}
use Rattle.reed_solomon.specs.Shards.{AreCodewords}
use Rattle.reed_solomon.proofs.codec.ReedSolomon.verify_prepared.Goals as goal

pub returns-clause-answer : goal.returns-clause-answer
returns-clause-answer c = λ set.
    let k = c.args.self.now.data_shards in
    let m = c.args.self.now.parity_shards in
    subst (λ (n : ℕ). IsTrue c.matches_prepared.result ↔ AreCodewords k (k + m) n c.args.shards.now) c.in_ok-size.ensures.size.0
    (c.matches_prepared.ensures set)
