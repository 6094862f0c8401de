-- How a seed, a string of bytes, is read as elements of `size` bytes each: its length as eight bytes and then the seed, each filled
-- with zeros to whole elements. This encoding is prefix-free.
use Rattle.std.specs.Prelude.{◌≡◌, ◌≢◌, ◌<◌, ◌-◌, ◌%◌, ◌^◌, ℕ, List, ◌++◌, length, replicate}
use Rattle.field_bytes.specs.Bytes.{low_bytes}
use Rattle.field_bytes.specs.Streams.{joined_bytes}
use Rattle.transcripts.specs.Lists.{InTurn}

-- how many bytes are missing to a whole number of elements
abbrev pub missing : ℕ → ℕ → ℕ
missing size count = (size - count % size) % size

-- bytes, followed by zeros up to a whole number of elements
abbrev pub padded : ℕ → List ℕ → List ℕ
padded size bytes = bytes ++ replicate (missing size (length bytes)) 0

-- the bytes of the elements of a seed: its length as eight bytes, the lowest first, and the seed, each padded
abbrev pub seed_bytes : ℕ → List ℕ → List ℕ
seed_bytes size seed = padded size (low_bytes 8 (length seed)) ++ padded size seed

-- the elements are those of the seed: their bytes, joined, are the seed's
abbrev pub AreOfSeed : {E : Type 0} → ℕ → (E → ℕ) → List ℕ → List E → Type 0
AreOfSeed size repr seed elements = joined_bytes size repr elements ≡ seed_bytes size seed

-- the bytes of the elements are a proper prefix of these bytes
abbrev pub BeginBytes : {E : Type 0} → ℕ → (E → ℕ) → List ℕ → List E → Type 0
BeginBytes size repr bytes elements = (rest : List ℕ) × (joined_bytes size repr elements ++ rest ≡ bytes) × (0 < length rest)

-- neither of two lists is a prefix of the other
abbrev pub NeitherBegins : {E : Type 0} → List E → List E → Type 0
NeitherBegins {E} xs ys = ((rest : List E) → xs ++ rest ≢ ys) × ((rest : List E) → ys ++ rest ≢ xs)

-- No list of elements of this seed is a prefix of one of another seed, or has one as a prefix. Seeds have fewer than 2^64 bytes.
abbrev pub IsPrefixFree : {E : Type 0} → ℕ → (E → ℕ) → List ℕ → Type 0
IsPrefixFree {E} size repr seed =
    (other : List ℕ) → length other < 2 ^ 64 → other ≢ seed
    → (xs ys : List E) → AreOfSeed size repr seed xs → AreOfSeed size repr other ys → NeitherBegins xs ys

-- elements whose bytes are those given are observed in order
abbrev pub Observes : {E C : Type 0} → ℕ → (E → ℕ) → (C → E → C → Type 0) → List ℕ → C → C → Type 0
Observes {E} size repr observes bytes old new =
    (elements : List E) × (joined_bytes size repr elements ≡ bytes) × InTurn observes elements old new

-- elements whose bytes are a proper prefix of those given are observed, and the call for the next element fails
abbrev pub ObservesPart : {E C : Type 0} → ℕ → (E → ℕ) → (C → E → C → Type 0) → (C → C → Type 0) → List ℕ → C → C → Type 0
ObservesPart {E} {C} size repr observes may_leave bytes old new =
    (elements : List E) × (last : C) × BeginBytes size repr bytes elements × InTurn observes elements old last × may_leave last new

-- the elements of the bytes, filled with zeros to whole elements, are observed in order
abbrev pub ObservesPadded : {E C : Type 0} → ℕ → (E → ℕ) → (C → E → C → Type 0) → List ℕ → C → C → Type 0
ObservesPadded size repr observes bytes old new = Observes size repr observes (padded size bytes) old new

-- only some of them are, from the first on, and the call for the next one fails
abbrev pub BeginsPadded : {E C : Type 0} → ℕ → (E → ℕ) → (C → E → C → Type 0) → (C → C → Type 0) → List ℕ → C → C → Type 0
BeginsPadded size repr observes may_leave bytes old new = ObservesPart size repr observes may_leave (padded size bytes) old new

-- the elements of the seed are observed in order
abbrev pub ObservesSeed : {E C : Type 0} → ℕ → (E → ℕ) → (C → E → C → Type 0) → List ℕ → C → C → Type 0
ObservesSeed size repr observes seed old new = Observes size repr observes (seed_bytes size seed) old new

-- only some of them are, from the first on, and the call for the next one fails
abbrev pub BeginsSeed : {E C : Type 0} → ℕ → (E → ℕ) → (C → E → C → Type 0) → (C → C → Type 0) → List ℕ → C → C → Type 0
BeginsSeed size repr observes may_leave seed old new = ObservesPart size repr observes may_leave (seed_bytes size seed) old new
