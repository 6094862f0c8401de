use Rattle.std.proofs.Common.{◌≡◌, ◌<◌, ◌≤◌, ℕ, slice_index_or, bit_xor}
use Rattle.reed_solomon.proofs.derivatives.add_words.Given as goal

-- so many words are sums, and the others are left
abbrev pub invariant-loop-i : goal.invariant-loop-i
invariant-loop-i g l =
    let number = g.R.Stored.number in
    let zero = g.R.Stored.ZERO in
    ((s : ℕ) → s < l.i → number (slice_index_or l.words s zero)
    ≡ bit_xor (number (slice_index_or l.initial.words s zero)) (number (slice_index_or l.others s zero)))
    × ((s : ℕ) → l.i ≤ s → slice_index_or l.words s zero ≡ slice_index_or l.initial.words s zero)
