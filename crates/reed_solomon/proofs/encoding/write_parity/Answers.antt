use Rattle.std.proofs.Common.{◌≡◌, ◌⊎◌, inl, inr, ℕ, ◌+◌, ◌*◌, ◌^◌, ◌≤◌, ◌∙◌, ap, subst, arith}
use Rattle.std.proofs.lemmas.Nat.{pow_pos}
use Rattle.ghash_slices.specs.Cantor.{point}
use Rattle.additive_transforms.specs.Words.{level_element}
use Rattle.word_tables.specs.Cantor.{cantor_vector}
use Rattle.reed_solomon.specs.Columns.{HoldFirstValues}
use Rattle.reed_solomon.proofs.CodedColumns.{all_blocks, block_begins, next_block}
use Rattle.reed_solomon.proofs.encoding.write_parity.Goals as goal

pub forward_first-requires-clause-first : goal.forward_first-requires-clause-first
forward_first-requires-clause-first g c =
    c.levels_of-few.ensures.padded.least c.args.code.now.levels (omega (arith, c.least-taken.ensures.first, c.coefficient_count-points.ensures))

pub loop-number-preserved : goal.loop-number-preserved
loop-number-preserved g c =
    let level = g.L.Level.LEVEL in
    let element = level_element g.R.Stored.number level in
    let coefficients = c.args.coefficients.now in
    let block = c.forward_first.new.words in
    let code = c.args.code.now in
    let strip = c.args.strip in
    let n = code.levels in
    let number = c.loop-number.number in
    let points = c.coefficient_count-points.result in
    let points_are : points ≡ 2 ^ n = c.coefficient_count-points.ensures in
    let first : ℕ = number * points in
    let first_is : first ≡ number * 2 ^ n = ap (λ (k : ℕ). number * k) points_are in
    let shift : g.R.Stored.number c.point_of-behind.result ≡ point (2 ^ level) cantor_vector 0 ((number + 1) * 2 ^ n) =
    c.point_of-behind.ensures ∙ ap (λ (k : ℕ). point (2 ^ level) cantor_vector 0 ((number + 1) * k)) points_are in
    let end : (c.least-taken.result ≡ 2 ^ n) ⊎ (first + c.least-taken.result ≡ code.parity_shards) =
    elim c.least-taken.ensures.either [
      | inl all ↦ inl (all ∙ points_are)
      | inr rest ↦ inr (omega (arith, rest, block_begins code.parity_shards points number code.some_parity c.loop-number-test.true))
    ] in (
      λ k inside.
          next_block element g.R.Stored.ZERO level n strip.width k inside code.parity_shards strip.size strip.start number first
          c.least-taken.result c.levels_of-few.result (g.R.Stored.number c.point_of-behind.result) coefficients block c.loop-number.parity
          c.scatter.new.shards strip.inside first_is shift end c.levels_of-few.ensures.padded.enough
          (subst (λ l. HoldFirstValues element g.R.Stored.ZERO level n c.levels_of-few.result (g.R.Stored.number c.point_of-behind.result) strip.width k l
          block) c.copy_from_slice.ensures.after (c.forward_first.ensures.values k inside))
          (c.loop-number.invariant.0 k inside) c.scatter.ensures.scattered,
      λ i d below other. c.scatter.ensures.scattered.kept i d below (inl other) ∙ c.loop-number.invariant.1 i d below other,
    )

pub returns-clause-written : goal.returns-clause-written
returns-clause-written g c =
    let code = c.args.code.now in
    let some = pow_pos code.levels in
    let blocks = all_blocks code.parity_shards c.coefficient_count-points.result (2 ^ code.levels) c.coefficient_count-points.ensures some in
    let all : code.parity_shards ≤ c.loop-number.number * 2 ^ code.levels =
    subst (λ (q : ℕ). code.parity_shards ≤ q * 2 ^ code.levels) (omega arith) blocks in
    λ k inside t below few. c.loop-number.invariant.0 k inside t (omega (arith, below, all)) below
