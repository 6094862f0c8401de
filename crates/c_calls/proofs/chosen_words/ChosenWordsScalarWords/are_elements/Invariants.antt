use Rattle.std.proofs.Common.{ℕ, ◌<◌, ◌^◌, ◌↔◌, get_or}
use Rattle.c_calls.specs.Fields.{wide_number}
use Rattle.c_calls.proofs.chosen_words.ChosenWordsScalarWords.are_elements.Given as goal

-- whether the words before this place are elements
abbrev pub invariant-loop-place : goal.invariant-loop-place
invariant-loop-place l =
    l.bits < 2 ^ l.fn.self.named.degree ↔ ((k : ℕ) → k < l.place → (d : _) → wide_number (get_or l.words k d) < 2 ^ l.fn.self.named.degree)
