use Rattle.std.proofs.Common.{◌≡◌, ℕ, ◌<◌, ◌≤◌, length, get_or}
use Rattle.std.specs.Prelude.{bit_xor}
use Rattle.any_field.specs.Contexts.{field_product}
use Rattle.c_calls.specs.Fields.{wide_number}
use Rattle.c_calls.proofs.chosen_words.ChosenWords.add_by_tables.Given as goal

-- the sums before this place are done, and the others as they were
abbrev pub invariant-loop-place : goal.invariant-loop-place
invariant-loop-place l =
    (length l.sums ≡ length l.fn.sums)
    × ((k : ℕ) → k < l.place → (d : _)
    → wide_number (get_or l.sums k d)
    ≡ bit_xor (wide_number (get_or l.fn.sums k d)) (field_product l.self.named.degree (wide_number l.self.named.tail) (wide_number (get_or l.words k d)) l.scalar))
    × ((k : ℕ) → l.place ≤ k → k < length l.sums → (d : _) → get_or l.sums k d ≡ get_or l.fn.sums k d)
