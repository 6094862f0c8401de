use Rattle.std.proofs.Common.{◌≡◌, ◌-◌, ◌*◌, ◌/◌, ◌^◌, ℕ, suc, List, ◌++◌, length, sym, ◌∙◌, subst, arith}
use Rattle.std.proofs.lemmas.Nat.{pow_pos}
use Rattle.additive_transforms.specs.Words.{level_element}
use Rattle.reed_solomon.specs.Columns.{HoldFirstValues}
use Rattle.reed_solomon.proofs.DerivedColumns.{half_rows}
use Rattle.reed_solomon.proofs.FirstValues.{first_all, first_step, halves_fit}
use Rattle.reed_solomon.proofs.transforms.+first.Goals as goal

pub returns-then-levels-few-clause-values : goal.returns-then-levels-few-clause-values
returns-then-levels-few-clause-values g t c =
    λ k inside.
    first_all g.L.Level.LEVEL g.L.Level.few g.R.Stored.number g.R.Stored.ZERO c.args.levels c.args.few c.args.columns (g.R.Stored.number c.args.z)
    c.args.words.now c.forward_strip.new.words c.if-levels-few.true c.requires.rows c.forward_strip.ensures.length k inside
    (c.forward_strip.ensures.values k inside)

pub forward_strip-requires-2 : goal.forward_strip-requires-2
forward_strip-requires-2 g t c =
    let stage : ℕ = c.args.levels - 1 in
    let next : suc stage ≡ c.args.levels = omega (arith, c.requires.first, c.if-levels-few.false) in
    let words = length c.args.words.now in
    halves_fit (2 ^ g.L.Level.LEVEL) stage c.args.columns words (words / 2) c.requires.some (pow_pos g.L.Level.LEVEL)
    (subst (λ (n : ℕ). words ≡ 2 ^ n * c.args.columns) (sym next) c.requires.rows)
    (half_rows stage c.args.levels c.args.columns words next c.requires.rows)

pub forward_first-requires : goal.forward_first-requires
forward_first-requires g t c κs within =
    let stage : ℕ = c.args.levels - 1 in
    let next : suc stage ≡ c.args.levels = omega (arith, c.requires.first, c.if-levels-few.false) in (
      omega (arith, c.decreases, next),
      (
        within.0,
        (
          within.1,
          (
            c.requires.some,
            (
              c.split_at_mut-lower.ensures.front_len ∙ half_rows stage c.args.levels c.args.columns (length c.args.words.now) next c.requires.rows,
              (
                omega (arith, c.requires.points, next),
                (omega (arith, c.requires.low, next), omega (arith, c.requires.first, c.if-levels-few.false)),
              ),
            ),
          ),
        ),
      ),
    )

pub returns-clause-values : goal.returns-clause-values
returns-clause-values g t c =
    let number = g.R.Stored.number in
    let zero = g.R.Stored.ZERO in
    let level = g.L.Level.LEVEL in
    let columns = c.args.columns in
    let few = c.args.few in
    let z = number c.args.z in
    let stage : ℕ = c.args.levels - 1 in
    let next : suc stage ≡ c.args.levels = omega (arith, c.requires.first, c.if-levels-few.false) in
    let old = c.args.words.now in
    let mid = c.forward_strip-2.new.words in
    let halves = c.split_at_mut-lower in
    let others = halves.result.1.now in
    let half : ℕ = length old / 2 in
    let half_is : half ≡ 2 ^ stage * columns = half_rows stage c.args.levels columns (length old) next c.requires.rows in
    let count : length old ≡ 2 ^ suc stage * columns = subst (λ (n : ℕ). length old ≡ 2 ^ n * columns) (sym next) c.requires.rows in
    let new : List _ = c.forward_first.new.words ++ others in
    λ k inside.
    subst (λ (n : ℕ). HoldFirstValues (level_element number level) zero level n few z columns k old new) next
    (first_step level g.L.Level.few number zero stage columns half half_is (number c.level_shift.result) old mid count
    c.forward_strip-2.ensures.length c.forward_strip-2.ensures.values few z (omega (arith, c.requires.first, c.if-levels-few.false))
    (omega (arith, c.requires.points, next)) c.level_shift.ensures halves.result.0.now others c.forward_first.new.words others halves.ensures.value
    halves.ensures.front_len c.forward_first.ensures.length k inside (c.forward_first.ensures.values k inside))
