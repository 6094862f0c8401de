use Rattle.shard_files.proofs.KnownCodes.{matrix_word, transform_word}
use Rattle.shard_files.proofs.code.StripeCode.restore.Goals as goal

pub returns-then-self-eq-MATRIX-clause-restored : goal.returns-then-self-eq-MATRIX-clause-restored
returns-then-self-eq-MATRIX-clause-restored c =
    λ whole ok word long agree.
    let code = c.args.self.now in
    c.restore_by_matrix.ensures.restored whole
    (matrix_word code.number code.data_shards code.parity_shards code.size whole c.if-self-eq-MATRIX.true word) long agree

pub returns-else-self-eq-MATRIX-clause-restored : goal.returns-else-self-eq-MATRIX-clause-restored
returns-else-self-eq-MATRIX-clause-restored c =
    λ whole ok word long agree.
    let code = c.args.self.now in
    c.restore_by_transform.ensures.restored whole ok
    (transform_word code.number code.data_shards code.parity_shards code.size whole c.if-self-eq-MATRIX.false word) long agree
