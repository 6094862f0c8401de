use Rattle.std.proofs.Common.{◌≡◌, ℕ, ◌^◌, ◌<◌, ◌≤◌, length, get_or}
use Rattle.field_base.specs.Field.{IsInverseOrZero}
use Rattle.c_calls.specs.ChosenFields.{chosen_field}
use Rattle.c_calls.specs.Fields.{wide_number}
use Rattle.c_calls.proofs.chosen_words.ChosenWordsScalarWords.invert_each.Given as goal

-- the words before this place are done, and the others as they were
abbrev pub invariant-loop-place : goal.invariant-loop-place
invariant-loop-place l =
    let field = chosen_field l.self.named in
    (length l.words ≡ length l.fn.words)
    × ((k : ℕ) → k < l.place → (d : _)
    → (wide_number (get_or l.words k d) < 2 ^ field.width)
    × IsInverseOrZero field.times (wide_number (get_or l.fn.words k d)) (wide_number (get_or l.words k d)))
    × ((k : ℕ) → l.place ≤ k → k < length l.words → (d : _) → get_or l.words k d ≡ get_or l.fn.words k d)
