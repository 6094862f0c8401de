use Rattle.std.proofs.Common.{◌≡◌, ◌<◌, ◌≤◌, ℕ, slice_index_or}
use Rattle.field_base.specs.Tower.{tower_mul}
use Rattle.reed_solomon.proofs.products.multiply_each.Given as goal

-- so many words are multiplied, and the others are left
abbrev pub invariant-loop-i : goal.invariant-loop-i
invariant-loop-i g l =
    let number = g.R.Stored.number in
    let zero = g.R.Stored.ZERO in
    ((s : ℕ) → s < l.i → number (slice_index_or l.words s zero)
    ≡ tower_mul g.L.Level.LEVEL (number (slice_index_or l.initial.words s zero)) (number (slice_index_or l.factors s zero)))
    × ((s : ℕ) → l.i ≤ s → slice_index_or l.words s zero ≡ slice_index_or l.initial.words s zero)
