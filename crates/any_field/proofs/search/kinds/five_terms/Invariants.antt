use Rattle.std.proofs.Common.{ℕ, ◌^◌, ◌<◌}
use Rattle.std.specs.Prelude.{bit_xor}
use Rattle.any_field.proofs.search.kinds.five_terms.Given as goal

-- no three exponents, the greatest before this one, are found
abbrev pub invariant-loop-a : goal.invariant-loop-a
invariant-loop-a g l =
    (i : ℕ) → i < l.a → (j k : ℕ) → 0 < k → k < j → j < i
    → g.K.Kind.is_one l.fn.degree (bit_xor (bit_xor (bit_xor (2 ^ i) (2 ^ j)) (2 ^ k)) 1) → ⊥
