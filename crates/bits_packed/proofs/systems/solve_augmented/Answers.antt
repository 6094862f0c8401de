use Rattle.std.proofs.Common.{◌≡◌, ◌+◌, ◌/◌, ℕ, refl, arith, subst}
use Rattle.std.proofs.lemmas.Grind.{div_ceil_times}
use Rattle.field_base.specs.lemmas.BitRing.{bits_ring}
use Rattle.field_base.specs.Tower.{tower_mul}
use Rattle.field_slices.specs.Matrices.{IsSolution}
use Rattle.field_slices.proofs.LinearSystems.{solution_found, solution_missing}
use Rattle.bits_packed.specs.BitMatrices.{bit_entry, words_for}
use Rattle.bits_packed.proofs.BitRows.{entry-lt, same_words}
use Rattle.bits_packed.proofs.systems.solve_augmented.Goals as goal

-- the words of the coefficients and the right side
words_are : (unknowns : ℕ) → unknowns / 64 + 1 ≡ words_for (unknowns + 1)
words_are unknowns =
    let enough = (div_ceil_times (unknowns + 1) 64 (omega arith)).0 in
    let few = (div_ceil_times (unknowns + 1) 64 (omega arith)).1 in
    omega (arith, enough, few)

pub returns-in-Some-clause-unsolvable : goal.returns-in-Some-clause-unsolvable
returns-in-Some-clause-unsolvable c = λ _.
    let unknowns = c.args.unknowns in
    let words = unknowns / 64 + 1 in
    let step = c.reduce_words-rank in
    let found = c.in-Some.ensures in
    subst (λ (n : ℕ). (x : ℕ → ℕ) → IsSolution (tower_mul 0) c.args.rows unknowns (bit_entry n c.args.augmented.now) x → ⊥) (words_are unknowns)
    (solution_missing bits_ring (omega arith) (entry-lt words c.args.augmented.now) (entry-lt words step.new.matrix) step.ensures.reduced
    step.ensures.space found.inside.0 found.inside.1 found.nonzero)

pub returns-in-None-clause-solution : goal.returns-in-None-clause-solution
returns-in-None-clause-solution c = λ _.
    let unknowns = c.args.unknowns in
    let words = unknowns / 64 + 1 in
    let step = c.reduce_words-rank in
    let enough = (div_ceil_times unknowns 64 (omega arith)).0 in
    let x = bit_entry (words_for unknowns) c.write_solution.new.solution 0 in
    subst (λ (n : ℕ). IsSolution (tower_mul 0) c.args.rows unknowns (bit_entry n c.args.augmented.now) x) (words_are unknowns)
    (solution_found bits_ring (omega arith) (entry-lt words c.args.augmented.now) (entry-lt words step.new.matrix) step.ensures.reduced
    step.ensures.space
    (record {
      at_pivots = c.write_solution.ensures.at_pivots;
      elsewhere = λ j inside none. c.write_solution.ensures.elsewhere j (omega (arith, inside, enough)) none;
    })
    (c.in-None.ensures.none refl))

pub returns-in-Some-clause-reduced : goal.returns-in-Some-clause-reduced
returns-in-Some-clause-reduced c =
    (c.reduce_words-rank.result, (same_words (words_are c.args.unknowns) c.reduce_words-rank.ensures).reduced)

pub returns-in-None-clause-reduced : goal.returns-in-None-clause-reduced
returns-in-None-clause-reduced c =
    (c.reduce_words-rank.result, (same_words (words_are c.args.unknowns) c.reduce_words-rank.ensures).reduced)

pub returns-in-Some-clause-space : goal.returns-in-Some-clause-space
returns-in-Some-clause-space c = (same_words (words_are c.args.unknowns) c.reduce_words-rank.ensures).space

pub returns-in-None-clause-space : goal.returns-in-None-clause-space
returns-in-None-clause-space c = (same_words (words_are c.args.unknowns) c.reduce_words-rank.ensures).space

pub returns-in-None-clause-behind : goal.returns-in-None-clause-behind
returns-in-None-clause-behind c = λ _ j past inside.
    c.write_solution.ensures.elsewhere j inside
    (λ k below e. let fits = c.reduce_words-rank.ensures.reduced.pivots_fit k below in absurd (omega (arith, fits, past, e)))
