-- Calls over messages and over shards.
use Rattle.std.specs.Prelude.{◌≡◌, ◌≢◌, ℕ, ◌+◌, ◌*◌, ◌/◌, ◌<◌, ◌≤◌, Bool, not, nat_eq, List, [], length, map, take}
use Rattle.reed_solomon.specs.Adding.{AddsMultiple, AddsShard, MakeShard}
use Rattle.reed_solomon.specs.Missing.{AreReconstructedBy, HaveMissingTables}
use Rattle.reed_solomon.specs.Parity.{HaveParityTables, tables_length}
use Rattle.reed_solomon.specs.Shards.{AreCodewords, IsEncoded, IsPresent, IsReconstructed, present_count}
use Rattle.reed_solomon.specs.Sizes.{HasShardSize}
use Rattle.tags.specs.declared.state.HashState.{HashState}
use Rattle.c_calls.specs.Calls.{CallOf}
use Rattle.c_calls.specs.declared.status.TheConstants.{OK, LENGTH, CODE, TOO_FEW_SHARDS}

-- a call that hashes: the key and the hash have 16 bytes
abbrev pub Hashes : Type 0 → List ℕ → List ℕ → List ℕ → List ℕ → ℕ → Type 0
Hashes fits key hash old new status =
    CallOf ((length key ≡ 16) × (length old ≡ 16) × fits) (Unit {0}) (new ≡ hash) old new status

-- a call that makes a hash of the empty message under a key of 16 bytes; `holds` says which key and which message a hash holds
abbrev pub BeginsHash : (HashState → List ℕ → List ℕ → Type 0) → List ℕ → HashState → HashState → ℕ → Type 0
BeginsHash holds key old new status = CallOf (length key ≡ 16) (Unit {0}) (holds new key []) old new status

-- a call that changes the message of a hash, and nothing else
abbrev pub ChangesMessage : (HashState → List ℕ → List ℕ → Type 0) → (List ℕ → List ℕ) → HashState → HashState → ℕ → Type 0
ChangesMessage holds change old new status =
    (status ≡ OK) × ((key message : List ℕ) → holds old key message → holds new key (change message))

-- a call that writes what is the hash of a key and a message, where a hash holds them; its message is then empty. Of a hash that holds none it
-- writes 16 bytes of which nothing is said
abbrev pub EndsHash : (HashState → List ℕ → List ℕ → Type 0) → Type 0 → (List ℕ → List ℕ → List ℕ) → HashState → List ℕ → HashState
    → List ℕ → ℕ → Type 0
EndsHash holds fits hash old old_bytes new new_bytes status =
    CallOf {T = HashState × List ℕ} ((length old_bytes ≡ 16) × fits) (Unit {0})
    (((key message : List ℕ) → holds old key message → (new_bytes ≡ hash key message) × holds new key []) × (length new_bytes ≡ 16))
    (old, old_bytes) (new, new_bytes) status

-- a byte that answers whether a fact holds
pub record Answers (fact : Type 0) (answer : ℕ) : Type 0 where
  pub yes : fact → answer ≡ 1
  pub no : ¬ fact → answer ≡ 0

-- a call that compares two tags, which may be of any length
abbrev pub Compares : List ℕ → List ℕ → ℕ → ℕ → Type 0
Compares left right answer status = (status ≡ OK) × Answers (left ≡ right) answer

-- a code has so many shards of data and of parity
abbrev pub IsCode : ℕ → ℕ → Type 0
IsCode data_shards parity_shards = (0 < data_shards) × (0 < parity_shards) × (data_shards + parity_shards ≤ 256)

-- how a call of a code ends: that there is no such code is told first, then lengths, and then that too few shards are there
pub record CallOfCode {T : Type 0} (is_code fits enough written : Type 0) (old new : T) (status : ℕ) : Type 0 where
  pub code : ¬ is_code → status ≡ CODE
  pub length : is_code → ¬ fits → status ≡ LENGTH
  pub few : is_code → fits → ¬ enough → status ≡ TOO_FEW_SHARDS
  pub ok : is_code → fits → enough → (status ≡ OK) × written
  pub kept : status ≢ OK → new ≡ old

-- the shards that bytes say are there: those of a byte that is not 0
abbrev pub flags_of : List ℕ → List Bool
flags_of bytes = map (λ byte. not (nat_eq byte 0)) bytes

-- a call that writes the parity of k shards of data
abbrev pub Encodes : ℕ → ℕ → List ℕ → List ℕ → ℕ → Type 0
Encodes k parity old new status =
    CallOfCode (IsCode k parity) (HasShardSize (k + parity) (length old)) (Unit {0})
    (IsEncoded k (k + parity) (length old / (k + parity)) old new) old new status

-- a call that answers whether the parity is that of the data
abbrev pub Verifies : ℕ → ℕ → List ℕ → ℕ → ℕ → ℕ → Type 0
Verifies k parity shards old new status =
    CallOfCode (IsCode k parity) (HasShardSize (k + parity) (length shards)) (Unit {0})
    (Answers (AreCodewords k (k + parity) (length shards / (k + parity)) shards) new) old new status

-- a call that tells how many bytes the tables of a code take
abbrev pub TellsTablesLength : ℕ → ℕ → ℕ → ℕ → ℕ → Type 0
TellsTablesLength k parity old new status =
    CallOfCode (IsCode k parity) (Unit {0}) (Unit {0}) (new ≡ tables_length k parity) old new status

-- a call that writes the tables of a code
abbrev pub Prepares : ℕ → ℕ → List ℕ → List ℕ → ℕ → Type 0
Prepares k parity old new status =
    CallOfCode (IsCode k parity) (length old ≡ tables_length k parity) (Unit {0}) (HaveParityTables k parity new) old new status

-- shards after their parity was written by tables: that of the data, where these are the tables of the code. Otherwise nothing is said of the
-- parity. The data stay by any tables
pub record AreEncodedBy (k parity : ℕ) (tables old new : List ℕ) : Type 0 where
  pub encoded : HaveParityTables k parity tables → IsEncoded k (k + parity) (length old / (k + parity)) old new
  pub data_kept : take (k * (length old / (k + parity))) new ≡ take (k * (length old / (k + parity))) old
  pub long : length new ≡ length old

-- a call that writes the parity of k shards of data by tables
abbrev pub EncodesPrepared : ℕ → ℕ → List ℕ → List ℕ → List ℕ → ℕ → Type 0
EncodesPrepared k parity tables old new status =
    CallOfCode (IsCode k parity) ((length tables ≡ tables_length k parity) × HasShardSize (k + parity) (length old)) (Unit {0})
    (AreEncodedBy k parity tables old new) old new status

-- a call that answers by tables whether the parity is that of the data, where these are the tables of the code. By others it answers 0 or 1
abbrev pub VerifiesPrepared : ℕ → ℕ → List ℕ → List ℕ → ℕ → ℕ → ℕ → Type 0
VerifiesPrepared k parity tables shards old new status =
    CallOfCode (IsCode k parity) ((length tables ≡ tables_length k parity) × HasShardSize (k + parity) (length shards)) (Unit {0})
    ((HaveParityTables k parity tables → Answers (AreCodewords k (k + parity) (length shards / (k + parity)) shards) new) × (new < 2)) old new status

-- a call that adds shard j of the data to shard t of the parity, where these are the tables of the code
abbrev pub AddsOneShard : ℕ → ℕ → List ℕ → ℕ → ℕ → List ℕ → List ℕ → List ℕ → ℕ → Type 0
AddsOneShard k parity tables j t shard old new status =
    CallOfCode (IsCode k parity) ((length tables ≡ tables_length k parity) × (j < k) × (t < parity) × (length shard ≡ length old)) (Unit {0})
    ((HaveParityTables k parity tables → AddsShard k t j shard old new) × (length new ≡ length old)) old new status

-- a call that adds to each byte the product of the byte at its place by a factor
abbrev pub AddsOneMultiple : ℕ → List ℕ → List ℕ → List ℕ → ℕ → Type 0
AddsOneMultiple factor shard old new status =
    CallOf (length shard ≡ length old) (Unit {0}) (AddsMultiple factor shard old new × (length new ≡ length old)) old new status

-- a call that tells the factors by which the shards at hand make one that is missing
abbrev pub TellsFactors : ℕ → ℕ → List ℕ → ℕ → List ℕ → List ℕ → ℕ → Type 0
TellsFactors k parity present shard old new status =
    CallOfCode (IsCode k parity)
    ((length present ≡ k + parity) × (length old ≡ k + parity) × (shard < k + parity) × ¬ IsPresent (flags_of present) shard)
    (k ≤ present_count (flags_of present))
    (MakeShard k (k + parity) (flags_of present) shard new × (length new ≡ k + parity)) old new status

-- the missing shards before shard `until` are restored
abbrev pub Reconstructs : ℕ → ℕ → ℕ → List ℕ → List ℕ → List ℕ → ℕ → Type 0
Reconstructs k parity until present old new status =
    CallOfCode (IsCode k parity) ((length present ≡ k + parity) × HasShardSize (k + parity) (length old))
    (k ≤ present_count (flags_of present))
    (IsReconstructed k (k + parity) (length old / (k + parity)) until (flags_of present) old new) old new status

-- a call that writes the tables of the missing shards
abbrev pub PreparesMissing : ℕ → ℕ → List ℕ → List ℕ → List ℕ → ℕ → Type 0
PreparesMissing k parity present old new status =
    CallOfCode (IsCode k parity) ((length old ≡ tables_length k parity) × (length present ≡ k + parity)) (k ≤ present_count (flags_of present))
    (HaveMissingTables k (k + parity) (flags_of present) new × (length new ≡ length old)) old new status

-- the missing shards before shard `until` are restored, where these are the tables of the missing shards. The others stay by any tables
abbrev pub ReconstructsPrepared : ℕ → ℕ → ℕ → List ℕ → List ℕ → List ℕ → List ℕ → ℕ → Type 0
ReconstructsPrepared k parity until present tables old new status =
    CallOfCode (IsCode k parity)
    ((length tables ≡ tables_length k parity) × (length present ≡ k + parity) × HasShardSize (k + parity) (length old))
    (k ≤ present_count (flags_of present))
    (AreReconstructedBy k parity until (flags_of present) tables old new) old new status
