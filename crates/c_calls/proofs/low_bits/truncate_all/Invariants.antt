use Rattle.std.proofs.Common.{◌≡◌, ℕ, ◌%◌, ◌^◌, ◌<◌, ◌≤◌, length, get_or}
use Rattle.c_calls.proofs.low_bits.truncate_all.Given as goal

-- the words before this place are done, and the others as they were
abbrev pub invariant-loop-place : goal.invariant-loop-place
invariant-loop-place g l =
    let field = g.S.ScalarWords.field l.field in
    (length l.words ≡ length l.fn.words)
    × ((k : ℕ) → k < l.place → (d : _) → field.number (get_or l.words k d) ≡ field.number (get_or l.fn.words k d) % 2 ^ field.width)
    × ((k : ℕ) → l.place ≤ k → k < length l.words → (d : _) → get_or l.words k d ≡ get_or l.fn.words k d)
