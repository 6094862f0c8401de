use Rattle.std.proofs.Common.{inl, inr}
use Rattle.shard_files.proofs.KnownCodes.{is_transform}
use Rattle.shard_files.proofs.code.StripeCode.encode.Goals as goal

pub returns-then-self-eq-MATRIX-clause-encoded : goal.returns-then-self-eq-MATRIX-clause-encoded
returns-then-self-eq-MATRIX-clause-encoded c = λ ok. inl (c.if-self-eq-MATRIX.true, c.encode_by_matrix.ensures.encoded)

pub returns-else-self-eq-MATRIX-clause-encoded : goal.returns-else-self-eq-MATRIX-clause-encoded
returns-else-self-eq-MATRIX-clause-encoded c =
    λ ok.
    let code = c.args.self.now in
    inr (
      is_transform code.number code.data_shards code.parity_shards code.size code.has_code c.if-self-eq-MATRIX.false,
      c.encode_by_transform.ensures.encoded ok,
    )
