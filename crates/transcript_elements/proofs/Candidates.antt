-- The candidates of a search for a witness, tried in order.
use Rattle.std.proofs.Common.{◌≡◌, ◌<◌, ◌≤◌, ◌⊎◌, ◌-◌, ◌^◌, ℕ, arith, inl, inr, refl, subst, sym}
use Rattle.std.proofs.Math.Pow.{pow_mono}
use Rattle.std.proofs.lemmas.Bool.{cases_lt, cond_above, cond_below}
use Rattle.transcripts.specs.Grinding.{candidate_count}

-- a candidate is an element
pub candidate_lt : (width number : ℕ) → number < candidate_count width → number < 2 ^ width
candidate_lt width number within = cases (cases_lt width 64)
  where
    cases : (width < 64) ⊎ (64 ≤ width) → number < 2 ^ width
    cases (inl narrow) =
        subst (λ (count : ℕ). number < count) (sym (cond_below width 64 (2 ^ width) (2 ^ 64 - 1) narrow)) within
    cases (inr wide) =
        let count : 2 ^ 64 - 1 ≡ candidate_count width = cond_above width 64 (2 ^ width) (2 ^ 64 - 1) (2 ^ 64 - 1) wide refl in
        let below : number < 2 ^ 64 - 1 = subst (λ (n : ℕ). number < n) (sym count) within in
        let more : 2 ^ 64 ≤ 2 ^ width = pow_mono {i = 64} {j = width} wide in
        omega (arith, below, more)
