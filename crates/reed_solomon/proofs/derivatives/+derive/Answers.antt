use Rattle.std.proofs.Common.{◌≡◌, ◌-◌, ◌/◌, ℕ, suc, List, ◌++◌, length, sym, ◌∙◌, subst, arith}
use Rattle.reed_solomon.specs.Columns.{AreDerivedRows}
use Rattle.reed_solomon.proofs.DerivedColumns.{derived_halves, derived_row, half_rows, other_rows}
use Rattle.reed_solomon.proofs.derivatives.+derive.Goals as goal

pub returns-then-levels-eq0-clause-derived : goal.returns-then-levels-eq0-clause-derived
returns-then-levels-eq0-clause-derived g t c =
    let number = g.R.Stored.number in
    let zero = g.R.Stored.ZERO in
    let old = c.args.values.now in
    let new = c.clear_words.new.target in
    subst (λ (n : ℕ). AreDerivedRows number zero n c.args.width old new) (sym c.if-levels-eq0.true)
    (derived_row number zero c.args.width g.R.Stored.zero_number old new c.clear_words.ensures.put)

pub derive-requires : goal.derive-requires
derive-requires g t c κs within =
    let half : ℕ = c.args.levels - 1 in
    let next : suc half ≡ c.args.levels = omega arith in (
      omega (arith, c.decreases, next),
      (
        within,
        (
          omega (arith, c.requires.low),
          c.split_at_mut-lower.ensures.front_len ∙ half_rows half c.args.levels c.args.width (length c.args.values.now) next c.requires.rows,
        ),
      ),
    )

pub derive-requires-2 : goal.derive-requires-2
derive-requires-2 g t c κs within =
    let half : ℕ = c.args.levels - 1 in
    let next : suc half ≡ c.args.levels = omega arith in (
      omega (arith, c.decreases, next),
      (
        within,
        (
          omega (arith, c.requires.low),
          other_rows half c.args.levels c.args.width (length c.args.values.now) (length c.args.values.now / 2) _ next c.requires.rows (omega arith)
              c.split_at_mut-lower.ensures.back_len,
        ),
      ),
    )

pub add_words-requires : goal.add_words-requires
add_words-requires g t c =
    let half : ℕ = c.args.levels - 1 in
    let next : suc half ≡ c.args.levels = omega arith in
    let words = length c.args.values.now in
    let front = half_rows half c.args.levels c.args.width words next c.requires.rows in
    let back = other_rows half c.args.levels c.args.width words (words / 2) _ next c.requires.rows (omega arith)
    c.split_at_mut-lower.ensures.back_len in
    omega (arith, c.derive.ensures.long, c.split_at_mut-lower.ensures.front_len, front, back)

pub returns-clause-derived : goal.returns-clause-derived
returns-clause-derived g t c =
    let number = g.R.Stored.number in
    let zero = g.R.Stored.ZERO in
    let width = c.args.width in
    let half : ℕ = c.args.levels - 1 in
    let next : suc half ≡ c.args.levels = omega arith in
    let old = c.args.values.now in
    let halves = c.split_at_mut-lower in
    let lower = halves.result.0.now in
    let upper = halves.result.1.now in
    let long = c.derive.ensures.long in
    let new : List _ = c.add_words.new.words ++ c.derive-2.new.values in
    let front = halves.ensures.front_len ∙ half_rows half c.args.levels width (length old) next c.requires.rows in
    subst (λ (n : ℕ). AreDerivedRows number zero n width old new) next
    (subst (λ (l : List _). AreDerivedRows number zero (suc half) width l new) (sym halves.ensures.value)
    (derived_halves number zero width half lower upper front c.derive.new.values c.add_words.new.words c.derive-2.new.values
    (c.add_words.ensures.long ∙ long) c.derive.ensures.derived c.derive-2.ensures.derived
    (λ i below. c.add_words.ensures.sums i (omega (arith, below, long)))))
