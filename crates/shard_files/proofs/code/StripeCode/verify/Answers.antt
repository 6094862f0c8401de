use Rattle.std.proofs.Common.{◌≡◌, ◌↔◌, Bool, true, inl, inr}
use Rattle.shard_files.specs.Codes.{AreTransformWords, IsStripeWord}
use Rattle.shard_files.proofs.KnownCodes.{if_ok, is_transform, matrix_word, transform_word}
use Rattle.shard_files.proofs.code.StripeCode.verify.Goals as goal

pub returns-then-self-eq-MATRIX-clause-told : goal.returns-then-self-eq-MATRIX-clause-told
returns-then-self-eq-MATRIX-clause-told c =
    let code = c.args.self.now in (
      λ is. inl (c.if-self-eq-MATRIX.true, c.verify_by_matrix.ensures.0 is),
      λ word. c.verify_by_matrix.ensures.1
          (matrix_word code.number code.data_shards code.parity_shards code.size c.args.shards.now c.if-self-eq-MATRIX.true word),
    )

pub returns-else-self-eq-MATRIX-clause-told : goal.returns-else-self-eq-MATRIX-clause-told
returns-else-self-eq-MATRIX-clause-told c =
    let code = c.args.self.now in
    let shards = c.args.shards.now in
    let other = c.if-self-eq-MATRIX.false in
    if_ok (λ (is_whole : Bool). (is_whole ≡ true) ↔ AreTransformWords code.data_shards code.parity_shards code.size shards)
    (λ (is_whole : Bool). (is_whole ≡ true) ↔ IsStripeWord code.number code.data_shards code.parity_shards code.size shards)
    c.verify_by_transform.result
    (λ is_whole told. (
      λ is. inr (is_transform code.number code.data_shards code.parity_shards code.size code.has_code other, told.0 is),
      λ word. told.1 (transform_word code.number code.data_shards code.parity_shards code.size shards other word),
    ))
    c.verify_by_transform.ensures
