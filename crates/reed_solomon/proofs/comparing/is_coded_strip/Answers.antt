use Rattle.std.proofs.Common.{◌≡◌, ◌+◌, ◌*◌, ◌^◌, ◌<◌, ℕ, List, get_or, map, ◌∙◌, ap, arith}
use Rattle.additive_transforms.specs.Columns.{column_of}
use Rattle.additive_transforms.specs.Words.{level_element}
use Rattle.reed_solomon.specs.Codes.{shard_symbol, value_at}
use Rattle.reed_solomon.proofs.ComparedColumns.{parity_is_computed}
use Rattle.reed_solomon.proofs.comparing.is_coded_strip.Goals as goal

pub returns-clause-answer : goal.returns-clause-answer
returns-clause-answer g c =
    let level = g.L.Level.LEVEL in
    let zero = g.R.Stored.ZERO in
    let element = level_element g.R.Stored.number level in
    let code = c.args.code.now in
    let strip = c.args.strip in
    let symbols = c.write_parity.new.parity in
    let n = code.levels in
    let coefficients : ℕ → List ℕ = λ k. column_of strip.width k (map element c.interpolate.new.coefficients) in
    let computed : ℕ → ℕ → ℕ = λ k t. shard_symbol element zero strip.width symbols k t in
    let place : (t k : ℕ) → t * strip.width + k ≡ t * strip.width + (0 + k) = λ t k. omega arith in
    let written : (k : ℕ) → k < strip.width → (t : ℕ) → t < code.parity_shards → computed k t ≡ value_at level n (coefficients k) (2 ^ n + t) =
    λ k inside t below.
    ap (λ (p : ℕ). element (get_or symbols p zero)) (place t k) ∙ c.write_parity.ensures.written k inside t below below in (
      (λ yes k inside.
          record {
            coefficients = coefficients k;
            of_data = c.interpolate.ensures.of_data k inside;
            of_parity = λ t below. c.are_of_strip.ensures.0 yes t k below inside ∙ written k inside t below;
          }),
      λ words.
          c.are_of_strip.ensures.1
          (λ t k below inside.
          parity_is_computed level code.levels code.data_shards code.parity_shards
          (shard_symbol element zero strip.size c.args.shards.now (strip.start + k))
          (shard_symbol element zero strip.size c.args.parity.now (strip.start + k)) (computed k) (coefficients k) g.L.Level.few
          code.padded.enough c.requires.fit.room (c.interpolate.ensures.of_data k inside) (written k inside) (words k inside) t below),
    )
