use Rattle.std.proofs.Common.{◌≡◌, ℕ, ◌∙◌, ap, arith, lit<}
use Rattle.field_base.specs.Powers.{repeated_square}
use Rattle.field_base.specs.Remainder.{mul_mod, poly64_modulus}
use Rattle.field_base.proofs.RemainderRing.{poly64_ring}
use Rattle.word_carryless.proofs.Chains.{squared_more, squared_none}
use Rattle.word_carryless.proofs.inverse.join_runs_64.Goals as goal

pub loop-init : goal.loop-init
loop-init c = squared_none 64 (mul_mod 64 poly64_modulus) poly64_ring (lit< tt) c.args.ones (omega arith)

pub loop-preserved : goal.loop-preserved
loop-preserved c =
    squared_more 64 (mul_mod 64 poly64_modulus) poly64_ring (lit< tt) c.loop.counter c.args.ones c.loop.moved c.square_mod_64-moved.result
    c.square_mod_64-moved.ensures c.loop.invariant

pub returns : goal.returns
returns c =
    let last : c.loop.counter ≡ c.args.count = omega arith in
    c.multiply_mod_64.ensures
    ∙ ap (λ (x : ℕ). mul_mod 64 poly64_modulus x c.args.more)
    (c.loop.invariant ∙ ap (λ (n : ℕ). repeated_square 1 (mul_mod 64 poly64_modulus) n c.args.ones) last)
