use Rattle.std.proofs.Common.{◌≡◌, ℕ, ◌<◌, ◌^◌, get_or, length}
use Rattle.field_base.specs.Powers.{power}
use Rattle.many_words.proofs.powers.multiply_by_powers.Given as goal

-- what is left to multiply, times what is there, is the whole product at each place; and values and bases are elements
abbrev pub invariant-bits : goal.invariant-bits
invariant-bits g l =
    let number = g.W.Reads.number in
    let times = g.K.FieldKernel.product in
    (length l.values ≡ length l.fn.values) × (length l.bases ≡ length l.fn.bases)
    × ((k : ℕ) → k < length l.values → (d : _) → number (get_or l.values k d) < 2 ^ g.K.FieldKernel.width)
    × ((k : ℕ) → k < length l.bases → (d : _) → number (get_or l.bases k d) < 2 ^ g.K.FieldKernel.width)
    × ((k : ℕ) → k < length l.values → (d : _)
    → times (number (get_or l.values k d)) (power 1 times (number (get_or l.bases k d)) l.rest)
    ≡ times (number (get_or l.fn.values k d)) (power 1 times (number (get_or l.fn.bases k d)) l.fn.exponent))

abbrev pub decreases-bits : goal.decreases-bits
decreases-bits g l = l.rest
