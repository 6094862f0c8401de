use Rattle.std.proofs.Common.{◌*◌, get_or}
use Rattle.field_base.specs.Remainder.{aes_modulus, mul_mod}
use Rattle.many_words.specs.Places.{FirstHold}
use Rattle.many_words.proofs.bytes.multiply_all.Given as goal

-- the bytes of the blocks before this one are multiplied
abbrev pub invariant-loop-block : goal.invariant-loop-block
invariant-loop-block l =
    FirstHold (λ x. x) (32 * l.block) (λ k d. mul_mod 8 aes_modulus (get_or l.fn.products k d) (get_or l.bytes k d)) l.fn.products l.products
