-- Solutions of linear equations, whose coefficients and right sides are the rows of a matrix.
use Rattle.std.proofs.Common.{◌≡◌, ◌≢◌, ◌⊎◌, inl, inr, ℕ, zero, suc, ◌+◌, ◌^◌, ◌<◌, ◌≤◌, refl, sym, ◌∙◌, ap, ap₂, arith, below_more}
use Rattle.std.specs.Prelude.{bit_xor}
use Rattle.std.proofs.lemmas.Bool.{cases_eq, cases_lt}
use Rattle.field_base.specs.Basis.{sum_below}
use Rattle.field_base.specs.Ring.{IsRing}
use Rattle.field_base.proofs.BasisSums.{sum_below-same}
use Rattle.field_base.proofs.PowerLemmas.{times-one}
use Rattle.field_base.proofs.RingLemmas.{times-zero, zero-times}
use Rattle.field_slices.specs.Matrices.{HaveSameRowSpace, IsReducedEchelon, IsSolution}
use Rattle.field_slices.proofs.RowSpaces.{only, only-same, only-other, only-after, sum_with, combination_row}
use Rattle.field_slices.proofs.EchelonUniqueness.{find-pivot}

-- the first n rows have given the unknowns of their leading entries their right sides, and the others are 0
pub record SolvedBefore (count : ℕ) (pivot right x : ℕ → ℕ) (n : ℕ) : Type 0 where
  pub at_pivots : (k : ℕ) → k < n → x (pivot k) ≡ right k
  pub elsewhere : (j : ℕ) → j < count → ((k : ℕ) → k < n → pivot k ≢ j) → x j ≡ 0

module _ {count : ℕ} {pivot right x : ℕ → ℕ} where
  pub solved_start : ((j : ℕ) → j < count → x j ≡ 0) → SolvedBefore count pivot right x 0
  solved_start zeros =
      record { at_pivots = λ k below. absurd (omega (arith, below)); elsewhere = λ j inside none. zeros j inside }

  pub solved_step : {next : ℕ → ℕ} {n : ℕ} → pivot n < count → next (pivot n) ≡ right n
      → ((j : ℕ) → j < count → j ≢ pivot n → next j ≡ x j) → ((k : ℕ) → k < n → pivot k < pivot n)
      → SolvedBefore count pivot right x n → SolvedBefore count pivot right next (n + 1)
  solved_step {next} {n} fits own others rises so_far =
      record {
        at_pivots = below_more (λ k. next (pivot k) ≡ right k) n
            (λ k before.
            others (pivot k) (let rise = rises k before in omega (arith, rise, fits)) (apart k before) ∙ so_far.at_pivots k before) own;
        elsewhere = λ j inside none.
            others j inside (λ e. none n (omega arith) (sym e))
            ∙ so_far.elsewhere j inside (λ k before. none k (omega (arith, before)));
      }
    where
      apart : (k : ℕ) → k < n → pivot k ≢ pivot n
      apart k before = λ e. let rise = rises k before in absurd (omega (arith, rise, e))

module _ {width : ℕ} {times : ℕ → ℕ → ℕ} (ring : IsRing width 1 times) where
  pub sum_of_nothing : (x : ℕ → ℕ) (n : ℕ) → sum_below (λ j. times 0 (x j)) n ≡ 0
  unfolding sum_below
  sum_of_nothing x zero = refl
  sum_of_nothing x (suc n) = ap₂ bit_xor (sum_of_nothing x n) (zero-times width 1 times ring (x n))

  module _ {rows columns count : ℕ} (within : count < columns) where
    -- what solves the equations solves each combination of them
    module _ (M : ℕ → ℕ → ℕ) (x : ℕ → ℕ) (solves : IsSolution times rows count M x) where
      solves-combination : (c : ℕ → ℕ) (n : ℕ) → n ≤ rows
          → sum_below (λ j. times (sum_below (λ k. times (c k) (M k j)) n) (x j)) count ≡ sum_below (λ k. times (c k) (M k count)) n
      unfolding sum_below
      solves-combination c zero few = sum_of_nothing x count
      solves-combination c (suc n) few =
          sum_with width times ring (λ j. sum_below (λ k. times (c k) (M k j)) n) (M n) x (c n) count
          ∙ ap₂ bit_xor (solves-combination c n (omega (arith, few))) (ap (times (c n)) (solves n (omega (arith, few))))

    solution_passes : (M N : ℕ → ℕ → ℕ) (x : ℕ → ℕ) → ((i j : ℕ) → N i j < 2 ^ width) → HaveSameRowSpace times rows columns M N
        → IsSolution times rows count M x → IsSolution times rows count N x
    solution_passes M N x N_fits same solves i inside =
        let row = (same (N i)).1 (combination_row width times ring rows columns N N_fits i (N i) inside (λ j _. refl)) in
        sum_below-same (λ j. times (N i j) (x j)) (λ j. times (sum_below (λ k. times (row.0 k) (M k j)) rows) (x j)) count
        (λ j below. ap (λ (z : ℕ). times z (x j)) (row.1 j (omega (arith, below, within))))
        ∙ solves-combination M x solves row.0 rows (omega arith) ∙ sym (row.1 count within)

    module _ {r : ℕ} {pivot : ℕ → ℕ} {M N : ℕ → ℕ → ℕ} (M_fits : (i j : ℕ) → M i j < 2 ^ width) (N_fits : (i j : ℕ) → N i j < 2 ^ width)
        (reduced : IsReducedEchelon rows count r pivot N) (same : HaveSameRowSpace times rows columns M N) where
      -- a row of zeros gives 0
      zero_row_sum : (x : ℕ → ℕ) (i : ℕ) → r ≤ i → i < rows → sum_below (λ j. times (N i j) (x j)) count ≡ 0
      zero_row_sum x i past inside =
          sum_below-same (λ j. times (N i j) (x j)) (λ j. times 0 (x j)) count
          (λ j below. ap (λ (z : ℕ). times z (x j)) (reduced.zero_rows i j past inside below)) ∙ sum_of_nothing x count

      -- so that none solves an equation of zeros whose right side is not 0
      pub solution_missing : {i : ℕ} → r ≤ i → i < rows → N i count ≢ 0 → (x : ℕ → ℕ) → IsSolution times rows count M x → ⊥
      solution_missing {i} past inside nonzero x solves =
          nonzero (sym (solution_passes M N x N_fits same solves i inside) ∙ zero_row_sum x i past inside)

      module _ {x : ℕ → ℕ} (solved : SolvedBefore count pivot (λ k. N k count) x r)
          (zeros : (i : ℕ) → r ≤ i → i < rows → N i count ≡ 0) where
        -- in a row with a leading entry its unknown alone counts
        leading_row_sum : (i : ℕ) → i < r → i < rows → sum_below (λ j. times (N i j) (x j)) count ≡ N i count
        leading_row_sum i below inside =
            sum_below-same (λ j. times (N i j) (x j)) (λ j. times (only (pivot i) (N i count) j) 1) count
            (λ j j_within. term j (find-pivot pivot j r) j_within)
            ∙ only-after width times ring (pivot i) (N i count) (λ j. 1) count (reduced.pivots_fit i below)
            ∙ times-one width 1 times ring (N i count) (N_fits i count)
          where
            nothing : (j : ℕ) → j ≢ pivot i → times (N i j) (x j) ≡ 0 → times (N i j) (x j) ≡ times (only (pivot i) (N i count) j) 1
            nothing j other e =
                e ∙ sym (ap (λ (z : ℕ). times z 1) (only-other (pivot i) (N i count) j other) ∙ zero-times width 1 times ring 1)

            term : (j : ℕ) → ((k : ℕ) × (k < r) × (pivot k ≡ j)) ⊎ ((k : ℕ) → k < r → pivot k ≢ j) → j < count
                → times (N i j) (x j) ≡ times (only (pivot i) (N i count) j) 1
            term j (inr none) j_within =
                nothing j (λ e. none i below (sym e))
                (ap (times (N i j)) (solved.elsewhere j j_within none) ∙ times-zero width 1 times ring (N i j))
            term j (inl found) j_within =
                elim (cases_eq found.0 i) [
                  | inl own ↦ at_own own
                  | inr other ↦ at_other other
                ]
              where
                at_own : found.0 ≡ i → times (N i j) (x j) ≡ times (only (pivot i) (N i count) j) 1
                at_own own =
                    let place : j ≡ pivot i = sym found.2 ∙ ap pivot own in
                    ap₂ times (ap (N i) place ∙ reduced.leading i below) (ap x place ∙ solved.at_pivots i below)
                    ∙ ring.comm 1 (N i count) ∙ ap (λ (z : ℕ). times z 1) (sym (only-same (pivot i) (N i count) j place))

                differs : N i j ≡ 0 → j ≢ pivot i
                differs nothing_there = λ e.
                    let one = reduced.leading i below in
                    let is = ap (N i) e in
                    absurd (omega (arith, one, is, nothing_there))

                at_other : (found.0 ≡ i → ⊥) → times (N i j) (x j) ≡ times (only (pivot i) (N i count) j) 1
                at_other other =
                    let zero_there : N i j ≡ 0 = ap (N i) (sym found.2) ∙ reduced.alone found.0 i found.1 inside (λ e. other (sym e)) in
                    ap (λ (z : ℕ). times z (x j)) zero_there ∙ zero-times width 1 times ring (x j)
                    ∙ sym (ap (λ (z : ℕ). times z 1) (only-other (pivot i) (N i count) j (differs zero_there)) ∙ zero-times width 1 times ring 1)

        pub solution_found : IsSolution times rows count M x
        solution_found =
            solution_passes N M x M_fits (λ v. ((same v).1, (same v).0))
            (λ i inside. elim (cases_lt i r) [
              | inl below ↦ leading_row_sum i below inside
              | inr past ↦ zero_row_sum x i past inside ∙ sym (zeros i past inside)
            ])
