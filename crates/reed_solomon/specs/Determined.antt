-- Any k shards determine the others (F. J. MacWilliams and N. J. A. Sloane, The Theory of Error-Correcting Codes, 1977, chapter 10), so that
-- shards that were encoded and then lost come back.
use Rattle.std.specs.Prelude.{◌≡◌, ℕ, ◌+◌, ◌-◌, ◌^◌, ◌<◌, ◌≤◌, Bool, List, if◌then◌else◌, nat_lt}
use Rattle.field_base.specs.PolynomialRoots.{AreDistinctBelow}
use Rattle.reed_solomon.specs.Codes.{AreCodedColumns, IsCodedColumn, shard_symbol}
use Rattle.reed_solomon.specs.Restoring.{AreRestoredColumns, IsAtHand}

-- the symbol of shard i in one column: the data are the first k shards, and the parity the others
abbrev pub symbol_of : ℕ → (ℕ → ℕ) → (ℕ → ℕ) → ℕ → ℕ
symbol_of k symbol parity i = if nat_lt i k then symbol i else parity (i - k)

-- two code words of one code that have the same symbols in k different shards have the same symbols in all, in every level that has the
-- points: whatever m shards are lost, the others leave one code word only, and a change of at most m symbols leaves none
abbrev pub ShardsDetermine : Type 0
ShardsDetermine =
    (level n k m : ℕ) (one one_parity other other_parity : ℕ → ℕ) (shard : ℕ → ℕ)
    → level ≤ 7 → k ≤ 2 ^ n → 2 ^ n + m ≤ 2 ^ 2 ^ level
    → IsCodedColumn level n k m one one_parity → IsCodedColumn level n k m other other_parity
    → AreDistinctBelow k (k + m) shard
    → ((i : ℕ) → i < k → symbol_of k one one_parity (shard i) ≡ symbol_of k other other_parity (shard i))
    → (i : ℕ) → i < k + m → symbol_of k one one_parity i ≡ symbol_of k other other_parity i

-- the first `count` shards have the same symbols in each column
abbrev pub HaveSameSymbols : {W : Type 0} → (W → ℕ) → W → ℕ → ℕ → List W → List W → Type 0
HaveSameSymbols element zero count size one other =
    (column i : ℕ) → column < size → i < count → shard_symbol element zero size one column i ≡ shard_symbol element zero size other column i

-- those of them that are at hand do, where flag `first` is that of shard 0
abbrev pub AgreeAtHand : {W : Type 0} → (W → ℕ) → W → List Bool → ℕ → ℕ → ℕ → List W → List W → Type 0
AgreeAtHand element zero present first count size one other =
    (column i : ℕ) → column < size → i < count → IsAtHand present (first + i)
    → shard_symbol element zero size one column i ≡ shard_symbol element zero size other column i

-- where the columns of `whole` and its parity are code words, and `damaged` agrees with them in the shards at hand, what is restored from
-- `damaged` has their symbols in all shards, whatever the missing ones were
abbrev pub LostSymbolsReturn : {W : Type 0} → (W → ℕ) → W → ℕ → Type 0
LostSymbolsReturn {W} element zero level =
    (n k m size : ℕ) (present : List Bool) (whole whole_parity damaged damaged_parity restored restored_parity : List W)
    → AreCodedColumns element zero level n k m size whole whole_parity
    → AgreeAtHand element zero present 0 k size damaged whole
    → AgreeAtHand element zero present k m size damaged_parity whole_parity
    → AreRestoredColumns element zero level n k m size present size damaged damaged_parity restored restored_parity
    → HaveSameSymbols element zero k size restored whole × HaveSameSymbols element zero m size restored_parity whole_parity
