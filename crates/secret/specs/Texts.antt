-- The records that the lines of a text say, and what is gathered of them.
use Rattle.std.specs.Prelude.{◌≡◌, ◌≢◌, ◌⊎◌, ℕ, ◌<◌, List, [], ◌∷◌, ◌++◌, All, drop, length, map, slice_index, take}
use Rattle.std.specs.List.{flat_map}
use Rattle.secret.specs.Combining.{IsSecretOf}
use Rattle.secret.specs.Records.{HasField, SaysRecord}

-- only line feeds
abbrev pub AreFeeds : List ℕ → Type 0
AreFeeds = All (λ b. b ≡ 10)

-- a line ends in front of these bytes
abbrev pub EndsLine : List ℕ → Type 0
EndsLine rest = (rest ≡ []) ⊎ ((more : List ℕ) × (rest ≡ 10 ∷ more))

-- no line feed
abbrev pub HasNoFeed : List ℕ → Type 0
HasNoFeed = All (λ b. b ≢ 10)

-- the first line of a text, and what stands behind its line feed, if it has one
abbrev pub CutsLine : List ℕ → List ℕ → List ℕ → Type 0
CutsLine text line rest = HasNoFeed line × ((text ≡ line ++ 10 ∷ rest) ⊎ ((text ≡ line) × (rest ≡ [])))

-- the lines of a text that are not empty say these records
unfoldable pub TextSays : List ℕ → List (List ℕ) → Type 0
TextSays text [] = AreFeeds text
TextSays text (entry ∷ entries) =
    (feeds line rest : List ℕ) × AreFeeds feeds × (text ≡ feeds ++ (line ++ rest)) × SaysRecord line entry × EndsLine rest
    × TextSays rest entries

-- the first of some records, or nothing
abbrev pub first_of : List (List ℕ) → List ℕ
first_of [] = []
first_of (entry ∷ entries) = entry

-- two records are of one set: all but the index and the share is the same, and the shares are of one length
pub record AreOfSet (first entry : List ℕ) : Type 0 where
  pub some : 11 < length entry
  pub same_length : length first ≡ length entry
  pub same_head : take 2 first ≡ take 2 entry
  pub same_set : take 8 (drop 3 first) ≡ take 8 (drop 3 entry)

-- records are of one set, in a field that there is
pub record AreOneSet (entries : List (List ℕ)) : Type 0 where
  pub of_set : All (AreOfSet (first_of entries)) entries
  pub fields : All HasField entries

-- what is gathered of records of one set: the first, and the indexes and the shares of all
pub record AreGathered (entries : List (List ℕ)) (first indexes shares : List ℕ) : Type 0 where
  pub first_is : first ≡ first_of entries
  pub of_set : All (AreOfSet first) entries
  pub indexes_are : indexes ≡ map (λ entry. slice_index entry 2) entries
  pub shares_are : shares ≡ flat_map (drop 11) entries

-- the secret of the shares that a text says, and the indexes of the wrong ones
pub record IsSecretOfText (text secret wrong : List ℕ) : Type 0 where
  pub entries : List (List ℕ)
  pub said : TextSays text entries
  pub first : List ℕ
  pub indexes : List ℕ
  pub shares : List ℕ
  pub gathered : AreGathered entries first indexes shares
  pub combined : IsSecretOf first indexes shares secret wrong
