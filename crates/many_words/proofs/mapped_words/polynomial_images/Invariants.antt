use Rattle.std.proofs.Common.{◌≡◌, ℕ, ◌*◌, ◌^◌, ◌<◌, length, slice_index}
use Rattle.field_base.specs.Remainder.{poly64_modulus, rem}
use Rattle.many_words.proofs.mapped_words.polynomial_images.Given as goal

-- the images of the bits before this one are set
abbrev pub invariant-loop-bit : goal.invariant-loop-bit
invariant-loop-bit l =
    (length l.images ≡ 64) × ((j : ℕ) → j < l.bit → slice_index l.images j ≡ rem 64 poly64_modulus (l.scalar * 2 ^ j))
