-- Sums over the shards of a sample, and places of shards that do not meet.
use Rattle.std.proofs.Common.{◌≢◌, ◌⊎◌, inl, inr, ℕ, suc, ◌+◌, ◌*◌, ◌<◌, ◌≤◌, subst, arith}
use Rattle.std.proofs.Math.Nat.{mul-le-mul_right, mul_comm}
use Rattle.std.proofs.lemmas.Bool.{cases_order}
use Rattle.std.proofs.lemmas.Nat.{mul-add-lt}

-- a byte of another shard lies outside
pub apart_from : (size target place column until : ℕ) → column < size → until ≤ size → place ≢ target
    → (place * size + column < target * size) ⊎ (target * size + until ≤ place * size + column)
apart_from size target place column until inside within different =
    elim (cases_order place target) [
      | inl same ↦ absurd (different same)
      | inr apart ↦ elim apart [
        | inl before ↦ inl (subst (λ (n : ℕ). place * size + column < n) (mul_comm size target) (mul-add-lt place size column target before inside))
        | inr after ↦ inr (above (mul-le-mul_right size after))
      ]
    ]
  where
    above : suc target * size ≤ place * size → target * size + until ≤ place * size + column
    above most = omega (arith, most, within)
