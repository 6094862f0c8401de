-- The words of a line. A line is the list of its bytes.
use Rattle.std.specs.Prelude.{◌≡◌, ◌≢◌, ℕ, ◌<◌, ◌==◌, Bool, true, false, List, [], ◌∷◌, ◌++◌, length}
use Rattle.std.specs.List.{All, filter, slice_split}

-- whether a byte is a space
abbrev pub is_space : ℕ → Bool
is_space byte = byte == 32

-- whether a part of a line has a byte
abbrev pub has_bytes : List ℕ → Bool
has_bytes [] = false
has_bytes (byte ∷ rest) = true

-- the words of a line in their order: of the parts between its spaces, those that have bytes
unfoldable pub words : List ℕ → List (List ℕ)
words line = filter has_bytes (slice_split is_space line)

-- ---- three laws that determine the words of every line

-- no bytes have no word
abbrev pub EmptyLineHasNoWord : Type 0
EmptyLineHasNoWord = words [] ≡ []

-- bytes with no space among them are one word
abbrev pub RunIsOneWord : Type 0
RunIsOneWord = (run : List ℕ) → 0 < length run → All (λ byte. byte ≢ 32) run → words run ≡ run ∷ []

-- what stands before a space and what stands after it have their words apart
abbrev pub SpaceDividesWords : Type 0
SpaceDividesWords = (before after : List ℕ) → words (before ++ (32 ∷ after)) ≡ words before ++ words after
