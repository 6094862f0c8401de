-- Lines of bytes: a line ends with a line feed, 10, and a last line without one counts if it has a byte.
use Rattle.std.specs.Prelude.{◌≡◌, ◌≢◌, ℕ, List, [], ◌∷◌, ◌++◌, ◌==◌, if◌then◌else◌, All}
use Rattle.std.specs.List.{onto_first, flat_map}
use Rattle.calculator.specs.Answer.{answer_of}

-- the lines of some bytes, without their line feeds
unfoldable pub lines : List ℕ → List (List ℕ)
lines [] = []
lines (b ∷ bs) = if b == 10 then [] ∷ lines bs else onto_first b (lines bs)

-- a line with its line feed
abbrev pub with_feed : List ℕ → List ℕ
with_feed line = line ++ 10 ∷ []

-- lines, each with its line feed, joined
abbrev pub unlines : List (List ℕ) → List ℕ
unlines = flat_map with_feed

-- no byte of a line is a line feed
abbrev pub IsLine : List ℕ → Type 0
IsLine = All (λ b. b ≢ 10)

-- x in front of some bytes, where there are any
abbrev pub onto_some : ℕ → List ℕ → List ℕ
onto_some x [] = []
onto_some x (b ∷ bs) = x ∷ b ∷ bs

-- the bytes up to the last line feed and with it: those of the lines that have ended
unfoldable pub finished : List ℕ → List ℕ
finished [] = []
finished (b ∷ bs) = if b == 10 then b ∷ finished bs else onto_some b (finished bs)

-- the answers to some lines, each with a line feed
abbrev pub answers_to : List (List ℕ) → List ℕ
answers_to = flat_map (λ line. answer_of line ++ 10 ∷ [])

-- the answers to the lines of some bytes
abbrev pub answers : List ℕ → List ℕ
answers bytes = answers_to (lines bytes)

-- the bytes, with a line feed after them where the last line has none
unfoldable pub closed : List ℕ → List ℕ
closed [] = []
closed (b ∷ []) = if b == 10 then b ∷ [] else b ∷ 10 ∷ []
closed (b ∷ c ∷ bs) = b ∷ closed (c ∷ bs)

-- no line has a line feed, and the lines, each with its line feed, join to the bytes, with a line feed
-- after them where the last line has none
pub record AreLinesOf (parts : List (List ℕ)) (bytes : List ℕ) : Type 0 where
  pub each : All IsLine parts
  pub joined : unlines parts ≡ closed bytes

-- `front` has the lines that have ended: it is empty or ends with a line feed, and what comes after it
-- has none
pub record IsFinished (front bytes : List ℕ) : Type 0 where
  pub whole : closed front ≡ front
  pub rest : List ℕ
  pub split : bytes ≡ front ++ rest
  pub is_line : IsLine rest
