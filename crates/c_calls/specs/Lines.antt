-- Calls over lines of text.
use Rattle.std.specs.Prelude.{◌≡◌, ℕ, ◌≤◌, List, ◌++◌, drop, length}
use Rattle.calculator.specs.Answer.{answer_of}
use Rattle.c_calls.specs.Calls.{CallOf}
use Rattle.c_calls.specs.declared.status.TheConstants.{OK}

-- a call that writes the answer to a line to the front of some bytes, where they have room for it, and tells how many bytes it has; the bytes
-- behind it stay, and 48 bytes are enough for every answer
abbrev pub AnswersLine : List ℕ → List ℕ → ℕ → List ℕ → ℕ → ℕ → Type 0
AnswersLine line old old_written new new_written status =
    CallOf {T = List ℕ × ℕ} (length (answer_of line) ≤ length old) (Unit {0})
    ((new ≡ answer_of line ++ drop (length (answer_of line)) old) × (new_written ≡ length (answer_of line)))
    (old, old_written) (new, new_written) status
    × (48 ≤ length old → status ≡ OK)
