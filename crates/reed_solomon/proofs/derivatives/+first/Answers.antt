use Rattle.std.proofs.Common.{◌≡◌, ◌-◌, ◌*◌, ◌/◌, ◌^◌, ◌≤◌, ℕ, suc, List, ◌++◌, length, lit<, sym, ◌∙◌, subst, arith, mul-le-mul_right}
use Rattle.std.proofs.Math.Nat.{pow-le-pow_right}
use Rattle.reed_solomon.specs.Columns.{AreFirstDerivedRows}
use Rattle.reed_solomon.proofs.DerivedColumns.{derived_first, half_rows, other_rows}
use Rattle.reed_solomon.proofs.derivatives.+first.Goals as goal

pub returns-then-levels-few-clause-derived : goal.returns-then-levels-few-clause-derived
returns-then-levels-few-clause-derived g t c =
    subst (λ (few : ℕ). AreFirstDerivedRows g.R.Stored.number g.R.Stored.ZERO c.args.levels few c.args.width c.args.values.now c.derive.new.values)
    c.if-levels-few.true c.derive.ensures.derived

pub derive_first-words-requires : goal.derive_first-words-requires
derive_first-words-requires g t c κs within =
    let half : ℕ = c.args.levels - 1 in
    let next : suc half ≡ c.args.levels = omega (arith, c.requires.first, c.if-levels-few.false) in (
      omega (arith, c.decreases, next),
      (
        within,
        (
          omega (arith, c.requires.low, next),
          (
            omega (arith, c.requires.first, c.if-levels-few.false),
            c.split_at_mut-lower.ensures.front_len ∙ half_rows half c.args.levels c.args.width (length c.args.values.now) next c.requires.rows,
          ),
        ),
      ),
    )

pub split_at_mut-rows-requires : goal.split_at_mut-rows-requires
split_at_mut-rows-requires g t c =
    let half : ℕ = c.args.levels - 1 in
    let next : suc half ≡ c.args.levels = omega (arith, c.requires.first, c.if-levels-few.false) in
    let width = c.args.width in
    let front = half_rows half c.args.levels width (length c.args.values.now) next c.requires.rows in
    let more : 2 ^ c.args.few * width ≤ 2 ^ half * width =
    mul-le-mul_right width (pow-le-pow_right (lit< tt) (omega (arith, c.requires.first, c.if-levels-few.false))) in
    omega (arith, c.derive_first-words.ensures.words, c.derive_first-words.ensures.long, c.split_at_mut-lower.ensures.front_len, front, more)

pub add_words-requires : goal.add_words-requires
add_words-requires g t c =
    let half : ℕ = c.args.levels - 1 in
    let next : suc half ≡ c.args.levels = omega (arith, c.requires.first, c.if-levels-few.false) in
    let width = c.args.width in
    let words = length c.args.values.now in
    let back = other_rows half c.args.levels width words (words / 2) _ next c.requires.rows (omega arith) c.split_at_mut-lower.ensures.back_len in
    let long = c.split_at_mut-rows.ensures.front_len ∙ c.derive_first-words.ensures.words in
    let more : 2 ^ c.args.few * width ≤ 2 ^ half * width =
    mul-le-mul_right width (pow-le-pow_right (lit< tt) (omega (arith, c.requires.first, c.if-levels-few.false))) in
    omega (arith, back, long, more)

pub returns-clause-derived : goal.returns-clause-derived
returns-clause-derived g t c =
    let number = g.R.Stored.number in
    let zero = g.R.Stored.ZERO in
    let width = c.args.width in
    let few = c.args.few in
    let half : ℕ = c.args.levels - 1 in
    let next : suc half ≡ c.args.levels = omega (arith, c.requires.first, c.if-levels-few.false) in
    let old = c.args.values.now in
    let halves = c.split_at_mut-lower in
    let lower = halves.result.0.now in
    let upper = halves.result.1.now in
    let parts = c.split_at_mut-rows in
    let others = parts.result.1.now in
    let new : List _ = (c.add_words.new.words ++ others) ++ upper in
    let front = halves.ensures.front_len ∙ half_rows half c.args.levels width (length old) next c.requires.rows in
    let long = parts.ensures.front_len ∙ c.derive_first-words.ensures.words in
    subst (λ (n : ℕ). AreFirstDerivedRows number zero n few width old new) next
    (subst (λ (l : List _). AreFirstDerivedRows number zero (suc half) few width l new) (sym halves.ensures.value)
    (derived_first number zero width half lower upper front few (omega (arith, c.requires.first, c.if-levels-few.false)) c.derive_first-words.new.values
    parts.result.0.now others c.add_words.new.words parts.ensures.value long c.add_words.ensures.long c.derive_first-words.ensures.derived
    c.add_words.ensures.sums))
