-- How far a run has come: what the writer took, and which lines were answered.
use Rattle.std.specs.Prelude.{◌≡◌, ℕ, ◌<◌, ◌≤◌, List, [], ◌++◌, ◌⊎◌, length, Option, All}
use Rattle.std.specs.Io.KnownBytes.{Appends, Consumes, IsAtEnd}
use Rattle.calculator.specs.Lines.{unlines, IsLine, finished, answers_to, answers}

-- the writer took the front of some bytes, and left the rest
pub record TakesFront (old new : Option (List ℕ)) (all left : List ℕ) : Type 0 where
  pub taken : List ℕ
  pub appended : Appends old new taken
  pub split : all ≡ taken ++ left

-- `bytes` are lines that end, and then `rest`. The writer took the front of what waited and of the
-- answers to those lines after it, and left the rest.
pub record AnswersLines (old new : Option (List ℕ)) (waiting left bytes rest : List ℕ) : Type 0 where
  pub ended : List (List ℕ)
  pub each : All IsLine ended
  pub cut : bytes ≡ unlines ended ++ rest
  pub takes : TakesFront old new (waiting ++ answers_to ended) left

-- lines of `bytes` were answered as above, and what was not is a line's beginning and at most `most` bytes
pub record LeavesLines (old new : Option (List ℕ)) (waiting left bytes : List ℕ) (most : ℕ) : Type 0 where
  pub line : List ℕ
  pub is_line : IsLine line
  pub tail : List ℕ
  pub few : length tail ≤ most
  pub answered : AnswersLines old new waiting left bytes (line ++ tail)

-- the writer gained the front of some bytes
abbrev pub GainsFront : Option (List ℕ) → Option (List ℕ) → List ℕ → Type 0
GainsFront old new all = (left : List ℕ) × TakesFront old new all left

-- the reader was read to its end, and the writer gained the answers to the lines that it gave
pub record AnswersAll (reader reader' writer writer' : Option (List ℕ)) : Type 0 where
  pub read : List ℕ
  pub consumed : Consumes reader reader' read
  pub at_end : IsAtEnd reader'
  pub appended : Appends writer writer' (answers read)

-- the writer gained the front of the answers to the lines that were read: those that ended in what
-- was read, and at the end of the reader also the last one
pub record AnswersFront (reader reader' writer writer' : Option (List ℕ)) : Type 0 where
  pub read : List ℕ
  pub consumed : Consumes reader reader' read
  pub front : GainsFront writer writer' (answers (finished read))
      ⊎ (IsAtEnd reader' × GainsFront writer writer' (answers read))

-- the reader gave a byte
abbrev pub GaveSome : Option (List ℕ) → Option (List ℕ) → Type 0
GaveSome reader reader' = (read : List ℕ) × Consumes reader reader' read × (0 < length read)

-- the writer gained the answers to lines that were read, each whole, and of what was read only a line's
-- beginning and at most `most` bytes after it were not answered
pub record AnswersWhole (reader reader' writer writer' : Option (List ℕ)) (most : ℕ) : Type 0 where
  pub read : List ℕ
  pub consumed : Consumes reader reader' read
  pub leaves : LeavesLines writer writer' [] [] read most
