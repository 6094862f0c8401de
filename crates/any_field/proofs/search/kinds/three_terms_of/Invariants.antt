use Rattle.std.proofs.Common.{ℕ, ◌^◌, ◌<◌}
use Rattle.std.specs.Prelude.{bit_xor}
use Rattle.any_field.proofs.search.kinds.three_terms_of.Given as goal

-- no exponent before this one is found
abbrev pub invariant-loop-c : goal.invariant-loop-c
invariant-loop-c g l = (k : ℕ) → k < l.c → 0 < k → g.K.Kind.is_one l.fn.degree (bit_xor (bit_xor l.fn.terms (2 ^ k)) 1) → ⊥
