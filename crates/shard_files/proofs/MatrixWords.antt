-- The code by matrices, by the counts of shards that an origin names.
use Rattle.std.proofs.Common.{◌≡◌, ◌↔◌, ℕ, zero, suc, ◌+◌, ◌*◌, ◌/◌, ◌%◌, ◌<◌, ◌≤◌, Bool, List, length, get_or, sym, ◌∙◌, ap, ap₂, subst, arith}
use Rattle.std.proofs.Math.Nat.{mul-div_cancel_left, mul-le-mul_right, mul-mod_right}
use Rattle.std.proofs.lemmas.Nat.{div-add-mod', div_below}
use native.Mathlib.Nat.{mod-lt}
use Rattle.reed_solomon.specs.Shards.{AreCodewords, IsEncoded, present_count}
use Rattle.reed_solomon.specs.Sizes.{CanReconstruct, HasShardSize}

-- what holds of the counts of a code, and of the size that its bytes give, holds of the counts and the size that were asked for
pub at_size : (P : ℕ → ℕ → ℕ → Type 0) (k m own_data own_parity size bytes : ℕ) → own_data ≡ k → own_parity ≡ m → 0 < own_data
    → bytes ≡ (k + m) * size → P own_data (own_data + own_parity) (bytes / (own_data + own_parity)) → P k (k + m) size
at_size P k m own_data own_parity size bytes data_is parity_is some long here =
    let total_is : own_data + own_parity ≡ k + m = ap₂ (λ (a b : ℕ). a + b) data_is parity_is in
    let size_is : bytes / (own_data + own_parity) ≡ size =
    ap₂ (λ (a b : ℕ). a / b) long total_is ∙ mul-div_cancel_left size (omega (arith, some, data_is)) in
    subst (λ (n : ℕ). P k (k + m) n) size_is (subst (λ (n : ℕ). P k n (bytes / (own_data + own_parity))) total_is
    (subst (λ (n : ℕ). P n (own_data + own_parity) (bytes / (own_data + own_parity))) data_is here))

-- where there is a place, there is a size
some_size : (k size i : ℕ) → i < k * size → 0 < size
some_size k zero i below = absurd (omega (arith, below))
some_size k (suc size) i below = omega arith

-- encoding keeps the bytes of the data
pub data_kept : (k total size : ℕ) (before after : List ℕ) → IsEncoded k total size before after → (i : ℕ) → i < k * size
    → get_or after i 0 ≡ get_or before i 0
data_kept k total size before after encoded i below =
    let wide = some_size k size i below in
    subst (λ (n : ℕ). get_or after n 0 ≡ get_or before n 0) (div-add-mod' i size)
    (encoded.keeps_data (i / size) (i % size) (div_below i size k wide below) (mod-lt i wide))

-- so many shards of a size that is not 0 have one size
sized_by : (total size bytes : ℕ) → bytes ≡ total * size → 0 < total → 0 < size → HasShardSize total bytes
sized_by total size bytes is some wide = (
  λ none. absurd (omega (arith, is, none, mul-le-mul_right size (at_least_one total some), wide)),
  ap (λ (n : ℕ). n % total) is ∙ mul-mod_right total size,
)
  where
    at_least_one : (n : ℕ) → 0 < n → 1 ≤ n
    at_least_one n h = omega (arith, h)

-- `sized_by` for the counts of a code, which are k and m
pub sized_own : (k m own_data own_parity size bytes : ℕ) → own_data ≡ k → own_parity ≡ m → 0 < k → 0 < size → bytes ≡ (k + m) * size
    → HasShardSize (own_data + own_parity) bytes
sized_own k m own_data own_parity size bytes data_is parity_is some wide long =
    subst (λ (n : ℕ). HasShardSize n bytes) (ap₂ (λ (a b : ℕ). a + b) (sym data_is) (sym parity_is))
    (sized_by (k + m) size bytes long (omega (arith, some)) wide)

-- shards can be restored by a code whose counts are those that were asked for
pub can_restore : (k m own_data own_parity size : ℕ) (present : List Bool) (shards : List ℕ) → own_data ≡ k → own_parity ≡ m → 0 < k → 0 < size
    → length shards ≡ (k + m) * size → length present ≡ k + m → k ≤ present_count present → CanReconstruct own_data own_parity present shards
can_restore k m own_data own_parity size present shards data_is parity_is some wide long flags enough =
    subst (λ (n : ℕ). CanReconstruct n own_parity present shards) (sym data_is)
    (subst (λ (n : ℕ). CanReconstruct k n present shards) (sym parity_is)
    (flags, sized_by (k + m) size (length shards) long (omega (arith, some)) wide, enough))

-- code words by a code whose counts are those that were asked for
pub code_words_by : (k m own_data own_parity size : ℕ) (shards : List ℕ) → own_data ≡ k → own_parity ≡ m → 0 < k → 0 < size
    → length shards ≡ (k + m) * size
    → (HasShardSize (own_data + own_parity) (length shards)
    × AreCodewords own_data (own_data + own_parity) (length shards / (own_data + own_parity)) shards) ↔ AreCodewords k (k + m) size shards
code_words_by k m own_data own_parity size shards data_is parity_is some wide long =
    subst (λ (j : ℕ). (HasShardSize (j + own_parity) (length shards) × AreCodewords j (j + own_parity) (length shards / (j + own_parity)) shards)
    ↔ AreCodewords k (k + m) size shards) (sym data_is)
    (subst (λ (j : ℕ). (HasShardSize (k + j) (length shards) × AreCodewords k (k + j) (length shards / (k + j)) shards)
    ↔ AreCodewords k (k + m) size shards) (sym parity_is) (there, back))
  where
    some_all : 0 < k + m
    some_all = omega (arith, some)

    size_is : length shards / (k + m) ≡ size
    size_is = ap (λ (n : ℕ). n / (k + m)) long ∙ mul-div_cancel_left size some_all

    there : HasShardSize (k + m) (length shards) × AreCodewords k (k + m) (length shards / (k + m)) shards → AreCodewords k (k + m) size shards
    there both = subst (λ (n : ℕ). AreCodewords k (k + m) n shards) size_is both.1

    back : AreCodewords k (k + m) size shards → HasShardSize (k + m) (length shards) × AreCodewords k (k + m) (length shards / (k + m)) shards
    back words = (
      sized_by (k + m) size (length shards) long some_all wide,
      subst (λ (n : ℕ). AreCodewords k (k + m) n shards) (sym size_is) words,
    )
