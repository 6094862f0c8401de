use Rattle.std.proofs.Common.{◌≡◌, ℕ, ◌<◌, ◌≤◌, length, get_or}
use Rattle.any_field.specs.Contexts.{field_product}
use Rattle.c_calls.specs.Fields.{wide_number}
use Rattle.c_calls.proofs.chosen_words.ChosenWords.multiply_few.Given as goal

-- the words before this place are done, and the others as they were
abbrev pub invariant-loop-place : goal.invariant-loop-place
invariant-loop-place l =
    (length l.words ≡ length l.fn.words)
    × ((k : ℕ) → k < l.place → (d : _)
    → wide_number (get_or l.words k d) ≡ field_product l.self.named.degree (wide_number l.self.named.tail) (wide_number (get_or l.fn.words k d)) l.scalar)
    × ((k : ℕ) → l.place ≤ k → k < length l.words → (d : _) → get_or l.words k d ≡ get_or l.fn.words k d)
