-- The round trip: shards that were encoded come back after any of them are lost, as long as as many are left as the data have.
use Rattle.std.specs.Prelude.{◌≡◌, ℕ, ◌*◌, ◌<◌, ◌≤◌, Bool, List, length}
use Rattle.reed_solomon.specs.Shards.{AreCodewords, IsPresent, IsReconstructed, present_count, shard_byte}

-- two lists of shards have the same bytes in each shard that is at hand
abbrev pub AgreeWherePresent : ℕ → ℕ → List Bool → List ℕ → List ℕ → Type 0
AgreeWherePresent total size present a b =
    (i column : ℕ) → i < total → column < size → IsPresent present i → shard_byte size a i column ≡ shard_byte size b i column

-- what is restored from shards that have lost some of a whole list of codewords is that list
abbrev pub LostShardsReturn : Type 0
LostShardsReturn = (k total size : ℕ) (present : List Bool) (whole damaged restored : List ℕ)
    → total ≤ 256 → length present ≡ total → k ≤ present_count present
    → length whole ≡ total * size → length restored ≡ total * size
    → AreCodewords k total size whole → AgreeWherePresent total size present damaged whole
    → IsReconstructed k total size total present damaged restored → restored ≡ whole

-- two lists of codewords that have the same bytes in as many shards as the data have are equal: a change of at most as many shards as the
-- parity has leaves no list of codewords (F. J. MacWilliams and N. J. A. Sloane, The Theory of Error-Correcting Codes, 1977, chapter 1)
abbrev pub ChangesAreSeen : Type 0
ChangesAreSeen = (k total size : ℕ) (present : List Bool) (whole changed : List ℕ)
    → total ≤ 256 → length present ≡ total → k ≤ present_count present
    → length whole ≡ total * size → length changed ≡ total * size
    → AreCodewords k total size whole → AgreeWherePresent total size present changed whole
    → AreCodewords k total size changed → changed ≡ whole
