use Rattle.std.proofs.Common.{ℕ, ◌^◌, ◌<◌}
use Rattle.std.specs.Prelude.{bit_xor}
use Rattle.any_field.proofs.search.kinds.five_terms_of.Given as goal

-- no two exponents, the greater before this one, are found
abbrev pub invariant-loop-b : goal.invariant-loop-b
invariant-loop-b g l =
    (j : ℕ) → j < l.b → (k : ℕ) → 0 < k → k < j → g.K.Kind.is_one l.fn.degree (bit_xor (bit_xor (bit_xor (2 ^ l.fn.end) (2 ^ j)) (2 ^ k)) 1) → ⊥
