use Rattle.std.proofs.Common.{◌≡◌, ◌-◌, ◌*◌, ◌/◌, ◌%◌, ◌^◌, ℕ, suc, ◌++◌, length, sym, ◌∙◌, ap, subst, arith}
use Rattle.std.proofs.lemmas.List.{length-append}
use Rattle.std.proofs.lemmas.Nat.{pow_pos}
use native.Mathlib.Nat.{mod-eq_of_lt}
use Rattle.word_tables.specs.Cantor.{cantor_vector}
use Rattle.additive_transforms.specs.Columns.{FitsColumns}
use Rattle.additive_transforms.specs.Words.{level_element}
use Rattle.reed_solomon.specs.Columns.{HoldZeros}
use Rattle.reed_solomon.proofs.DerivedColumns.{half_rows, other_rows}
use Rattle.reed_solomon.proofs.FirstValues.{halves_fit}
use Rattle.reed_solomon.proofs.KnownValues.{known_step, point_behind, upper_zeros, zeros_of_zeros}
use Rattle.reed_solomon.proofs.transforms.+known.Goals as goal

pub returns-then-known-eq0-clause-coefficients : goal.returns-then-known-eq0-clause-coefficients
returns-then-known-eq0-clause-coefficients g t c =
    let level = g.L.Level.LEVEL in
    let zero = g.R.Stored.ZERO in
    let words = c.args.words.now in
    let none : level_element g.R.Stored.number level zero ≡ 0 =
    ap (λ (x : ℕ). x % 2 ^ 2 ^ level) g.R.Stored.zero_number ∙ mod-eq_of_lt (pow_pos (2 ^ level)) in
    zeros_of_zeros level g.L.Level.few g.R.Stored.number zero none c.args.levels c.args.columns (g.R.Stored.number c.args.z) words
    (omega (arith, c.requires.low)) c.requires.points c.requires.rows
    (subst (λ (from : ℕ). HoldZeros zero c.args.columns from (2 ^ c.args.levels) words) c.if-known-eq0.true c.requires.zeros)

pub inverse_known-requires-2 : goal.inverse_known-requires-2
inverse_known-requires-2 g t c κs within =
    let zero = g.R.Stored.ZERO in
    let columns = c.args.columns in
    let stage : ℕ = c.args.levels - 1 in
    let next : suc stage ≡ c.args.levels = omega (arith, c.if-not-is_split.ensures.some) in
    let words = length c.args.words.now in
    let halves = c.split_at_mut-lower in
    let front = halves.ensures.front_len ∙ half_rows stage c.args.levels columns words next c.requires.rows in (
      omega (arith, c.decreases, next),
      (
        within.0,
        (
          within.1,
          (
            c.requires.some,
            (
              other_rows stage c.args.levels columns words (words / 2) _ next c.requires.rows (omega arith) halves.ensures.back_len,
              (
                omega (arith, c.requires.points, next),
                (
                  omega (arith, c.requires.low, next),
                  upper_zeros zero stage columns c.args.known c.least-below.result c.args.words.now halves.result.0.now halves.result.1.now
                      halves.ensures.value front
                      (subst (λ (n : ℕ). HoldZeros zero columns c.args.known (2 ^ n) c.args.words.now) (sym next) c.requires.zeros)
                      c.power_of-rows.result c.power_of-rows.ensures.power c.least-below.ensures.second,
                ),
              ),
            ),
          ),
        ),
      ),
    )

pub inverse_strip-requires-2 : goal.inverse_strip-requires-2
inverse_strip-requires-2 g t c =
    let columns = c.args.columns in
    let stage : ℕ = c.args.levels - 1 in
    let next : suc stage ≡ c.args.levels = omega (arith, c.if-not-is_split.ensures.some) in
    let words = length c.args.words.now in
    let halves = c.split_at_mut-lower in
    let all : length (c.inverse_known.new.words ++ c.inverse_known-2.new.words) ≡ words =
    let parts = length-append c.inverse_known.new.words c.inverse_known-2.new.words in
    omega (
      arith,
      parts,
      c.inverse_known.ensures.length,
      c.inverse_known-2.ensures.length,
      halves.ensures.front_len,
      halves.ensures.back_len,
    ) in
    subst (λ (n : ℕ). FitsColumns (2 ^ g.L.Level.LEVEL) (words / 2) n) (sym all)
    (halves_fit (2 ^ g.L.Level.LEVEL) stage columns words (words / 2) c.requires.some (pow_pos g.L.Level.LEVEL)
    (subst (λ (n : ℕ). words ≡ 2 ^ n * columns) (sym next) c.requires.rows)
    (half_rows stage c.args.levels columns words next c.requires.rows))

pub returns-clause-coefficients : goal.returns-clause-coefficients
returns-clause-coefficients g t c =
    let number = g.R.Stored.number in
    let zero = g.R.Stored.ZERO in
    let level = g.L.Level.LEVEL in
    let columns = c.args.columns in
    let z = number c.args.z in
    let stage : ℕ = c.args.levels - 1 in
    let next : suc stage ≡ c.args.levels = omega (arith, c.if-not-is_split.ensures.some) in
    let old = c.args.words.now in
    let new = c.inverse_strip-2.new.words in
    let first = c.inverse_known.new.words in
    let second = c.inverse_known-2.new.words in
    let halves = c.split_at_mut-lower in
    let half : ℕ = length old / 2 in
    let half_is : half ≡ 2 ^ stage * columns = half_rows stage c.args.levels columns (length old) next c.requires.rows in
    let back : length halves.result.1.now ≡ half =
    other_rows stage c.args.levels columns (length old) half _ next c.requires.rows (omega arith) halves.ensures.back_len ∙ sym half_is in
    let count : length old ≡ 2 ^ suc stage * columns = subst (λ (n : ℕ). length old ≡ 2 ^ n * columns) (sym next) c.requires.rows in
    let parts = length-append first second in
    let same : length new ≡ length old =
    omega (
      arith,
      parts,
      c.inverse_strip-2.ensures.length,
      c.inverse_known.ensures.length,
      c.inverse_known-2.ensures.length,
      halves.ensures.front_len,
      halves.ensures.back_len,
    ) in
    let behind = point_behind (2 ^ level) cantor_vector z stage c.power_of-rows.result (number c.point_of.result)
    (number c.xor-behind.result) c.power_of-rows.ensures.power c.point_of.ensures c.xor-behind.ensures in
    λ k inside.
    known_step level g.L.Level.few number zero stage columns half half_is (omega (arith, c.requires.points, next))
    (number c.level_shift.result) z (number c.xor-behind.result) c.level_shift.ensures behind old halves.result.0.now halves.result.1.now first
    second new count halves.ensures.value halves.ensures.front_len back (c.inverse_known.ensures.length ∙ halves.ensures.front_len)
    (c.inverse_known-2.ensures.length ∙ back) (same ∙ count) c.inverse_strip-2.ensures.length
    (λ i within. (c.inverse_strip-2.ensures.coefficients i within).have) k inside (omega (arith, c.requires.low, next))
    (c.inverse_known.ensures.coefficients k inside).have (c.inverse_known-2.ensures.coefficients k inside).have
