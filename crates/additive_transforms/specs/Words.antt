-- Words that hold elements of a level of the tower, and pairs of them that are computed place by place.
use Rattle.std.specs.Prelude.{ℕ, ◌%◌, ◌^◌, Bool, List, ◌++◌, length, map, slice_index}
use Rattle.additive_transforms.specs.Stages.{TakesBlock}
use Rattle.additive_transforms.specs.Pairs.{PairsSoFar, taken_pair}
use Rattle.field_base.specs.Tower.{tower_mul}
-- the Cantor vectors, which all levels have in common
pub use Rattle.word_tables.specs.Cantor.{cantor_vector}

-- the element of level k that a word holds: the lowest 2 ^ k bits of its number
abbrev pub level_element : {W : Type 0} → (W → ℕ) → ℕ → W → ℕ
level_element number k word = number word % 2 ^ 2 ^ k

-- the low 128 bits of a word's number
abbrev pub low_word : {W : Type 0} → (W → ℕ) → W → ℕ
low_word number word = number word % 2 ^ 128

-- from where the pairs of places before `first` are done, those before `last` are done, whatever the lists were at the beginning
abbrev pub TakesPairs : (ℕ → ℕ → ℕ → ℕ → Type 0) → ℕ → ℕ → List ℕ → List ℕ → List ℕ → List ℕ → Type 0
TakesPairs pair first last lo hi now_lo now_hi =
    (lower upper : List ℕ) → PairsSoFar pair first lower upper lo hi → PairsSoFar pair last lower upper now_lo now_hi

-- so have the elements of level k of words their butterflies by the scalar s
abbrev pub TakesWordPairs : {W : Type 0} → (W → ℕ) → ℕ → Bool → ℕ → ℕ → ℕ → List W → List W → List W → List W → Type 0
TakesWordPairs number k inverse s first last lo hi now_lo now_hi =
    TakesPairs (taken_pair inverse (tower_mul k) s) first last (map (level_element number k) lo) (map (level_element number k) hi)
    (map (level_element number k) now_lo) (map (level_element number k) now_hi)

-- and those of all words of a block, of which `lo` and `hi` are the halves
abbrev pub TakesWords : {W : Type 0} → (W → ℕ) → ℕ → Bool → ℕ → List W → List W → List W → List W → Type 0
TakesWords number k inverse s lo hi now_lo now_hi =
    TakesBlock inverse (tower_mul k) s (length lo) (slice_index (map (level_element number k) lo ++ map (level_element number k) hi))
    (slice_index (map (level_element number k) now_lo ++ map (level_element number k) now_hi))
