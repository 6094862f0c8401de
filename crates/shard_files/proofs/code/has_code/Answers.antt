use Rattle.std.proofs.Common.{◌≡◌, arith}
use Rattle.std.proofs.lemmas.Bool.{false≢true}
use Rattle.shard_files.proofs.KnownCodes.{by_matrix, by_transform}
use Rattle.shard_files.proofs.code.has_code.Goals as goal

pub returns-then-number-eq-MATRIX-clause-has : goal.returns-then-number-eq-MATRIX-clause-has
returns-then-number-eq-MATRIX-clause-has c =
    by_matrix c.args.number c.args.data_shards c.args.parity_shards c.args.size c.if-number-eq-MATRIX.true c.has_matrix_code.ensures

pub returns-then-number-eq-MATRIX-clause-few : goal.returns-then-number-eq-MATRIX-clause-few
returns-then-number-eq-MATRIX-clause-few c = λ is. omega (arith, (c.has_matrix_code.ensures.0 is).2)

pub returns-then-size-eq0-clause-has : goal.returns-then-size-eq0-clause-has
returns-then-size-eq0-clause-has c =
    by_transform c.args.number c.args.data_shards c.args.parity_shards c.args.size c.if-number-eq-TRANSFORM.true c.if-size-eq0.true
    c.has_transform_code.ensures.has

pub returns-else-size-eq0-clause-has : goal.returns-else-size-eq0-clause-has
returns-else-size-eq0-clause-has c =
    (λ is. absurd (false≢true is), λ has. absurd (c.if-size-eq0.false (has.2.whole_words c.if-number-eq-TRANSFORM.true)))

pub returns-else-number-eq-TRANSFORM-clause-has : goal.returns-else-number-eq-TRANSFORM-clause-has
returns-else-number-eq-TRANSFORM-clause-has c =
    let not_one : c.args.number ≡ 1 → ⊥ = c.if-number-eq-MATRIX.false in
    let not_two : c.args.number ≡ 2 → ⊥ = c.if-number-eq-TRANSFORM.false in
    (λ is. absurd (false≢true is), λ has. absurd (omega (arith, not_one, not_two, has.2.first, has.2.last)))
