-- Bytes are split in one way alone: the shards of data are the bytes and zeros, and they determine the parity.
use Rattle.std.proofs.Common.{◌≡◌, inl, inr, ℕ, zero, suc, ◌+◌, ◌-◌, ◌*◌, ◌^◌, ◌<◌, ◌≤◌, Bool, true, false, List, [], ◌∷◌, length, get_or, replicate, refl, sym, ◌∙◌, ap, arith, lit<}
use Rattle.std.proofs.Math.Nat.{pow-le-pow_right}
use Rattle.std.proofs.lemmas.Bool.{cases_lt, true≢false}
use Rattle.std.proofs.lemmas.Bool.Decides.{nat_tests}
use Rattle.std.proofs.lemmas.List.{ext_get_or, get_or-take}
use Rattle.reed_solomon.specs.RoundTrip.{AgreeWherePresent, ChangesAreSeen}
use Rattle.reed_solomon.specs.Shards.{IsPresent, present_count}
use Rattle.reed_solomon.specs.Codes.{shard_symbol}
use Rattle.reed_solomon.specs.Determined.{HaveSameSymbols, ShardsDetermine, symbol_of}
use Rattle.shard_files.specs.Codes.{AreTransformWords, IsTransformCode}
use Rattle.shard_files.specs.RoundTrip.{FilesAreOne, SplitsAreOne}
use Rattle.shard_files.specs.Splits.{IsSplit}
use Rattle.shard_files.specs.Stripes.{IsPossible, shard_total, stripe_content, stripe_total, stripe_width}
use Rattle.shard_files.specs.declared.head.Origin.{Origin}
use Rattle.shard_files.proofs.Groups.{none_present}
use Rattle.shard_files.proofs.PresentCounts.{with_one}
use Rattle.shard_files.proofs.ShardPlaces.{shard_room}
use Rattle.shard_files.proofs.TransformWords.{column_room, data_bytes, element, HasWords, same_element, whole_is, words_are}

-- ---- by matrices

-- flags of k shards of data, which are at hand, and of m of parity, which are not
abbrev data_flags : ℕ → ℕ → List Bool
data_flags zero m = replicate m false
data_flags (suc k) m = true ∷ data_flags k m

none_long : (m : ℕ) → length (replicate m false) ≡ m
none_long zero = refl
none_long (suc m) = let rest = none_long m in omega (arith, rest)

flags_long : (k m : ℕ) → length (data_flags k m) ≡ k + m
flags_long zero m = let none = none_long m in omega (arith, none)
flags_long (suc k) m = let rest = flags_long k m in omega (arith, rest)

flags_counted : (k m : ℕ) → k ≤ present_count (data_flags k m)
flags_counted zero m = omega arith
flags_counted (suc k) m = let rest = flags_counted k m in omega (arith, rest, with_one (data_flags k m))

only_data : (k m i : ℕ) → IsPresent (data_flags k m) i → i < k
only_data zero m i has = absurd (true≢false (sym has ∙ none_present m i))
only_data (suc k) m zero has = omega arith
only_data (suc k) m (suc i) has = let less = only_data k m i has in omega (arith, less)

-- ---- by transforms

symbol_data : (k i : ℕ) (symbol parity : ℕ → ℕ) → i < k → symbol_of k symbol parity i ≡ symbol i
symbol_data k i symbol parity below = grind (arith, nat_tests)

symbol_parity : (k t : ℕ) (symbol parity : ℕ → ℕ) → symbol_of k symbol parity (k + t) ≡ parity t
symbol_parity k t symbol parity = let behind : k + t - k ≡ t = omega arith in grind (arith, nat_tests)

module _ (law : ShardsDetermine) (k m size : ℕ) (is : IsTransformCode k m) (one other : List ℕ) (first : AreTransformWords k m size one)
    (second : AreTransformWords k m size other) (same : (i : ℕ) → i < k * size → get_or one i 0 ≡ get_or other i 0)
  where
    points : 2 ^ first.levels + m ≤ 2 ^ 2 ^ 4
    points =
        elim (cases_lt 65536 (2 ^ first.levels + m)) [
          | inl above ↦ absurd (is (far above))
          | inr below ↦ below
        ]
      where
        far : 65536 < 2 ^ first.levels + m → (n : ℕ) → k ≤ 2 ^ n → 65536 < 2 ^ n + m
        far above n room =
            let power : 2 ^ first.levels ≤ 2 ^ n = pow-le-pow_right (lit< tt) (first.padded.least n room) in omega (arith, above, power)

    given : HasWords k m first.half first.levels first.padded other
    given = words_are k m first.half first.levels first.padded size other first.even second

    data_symbols : HaveSameSymbols element 0 k first.half first.words given.0
    data_symbols column i below inside =
        let place = i * first.half + column in
        let within = column_room first.half i k column inside below in
        let bytes = data_bytes k size first.half (k * first.half) first.even refl in
        same_element one other (2 * (0 + place)) (get_or first.words place 0) (get_or given.0 place 0)
        (first.are.are place (omega (arith, first.are.long, within))) (given.2.are place (omega (arith, given.2.long, within)))
        (same (2 * (0 + place)) (omega (arith, within, bytes))) (same (2 * (0 + place) + 1) (omega (arith, within, bytes)))

    parity_symbols : HaveSameSymbols element 0 m first.half first.parity given.1
    parity_symbols column t below inside =
        let symbol = shard_symbol element 0 first.half first.words column in
        let parity = shard_symbol element 0 first.half first.parity column in
        let other_symbol = shard_symbol element 0 first.half given.0 column in
        let other_parity = shard_symbol element 0 first.half given.1 column in
        sym (symbol_parity k t symbol parity)
        ∙ law 4 first.levels k m symbol parity other_symbol other_parity (λ i. i) (omega arith) first.padded.enough points
        (first.columns column below) (given.3 column below)
        (record { below = λ i less. omega (arith, less); differ = λ i j i_less j_less same_shard. same_shard })
        (λ i less. symbol_data k i symbol parity less ∙ data_symbols column i below less ∙ sym (symbol_data k i other_symbol other_parity less))
        (k + t) (omega (arith, inside))
        ∙ symbol_parity k t other_symbol other_parity

    word_is_one : length one ≡ (k + m) * size → length other ≡ (k + m) * size → one ≡ other
    word_is_one =
        whole_is k m first.half first.levels first.padded size first.even one other first.words first.parity given.0 given.1 first.are given.2
        (data_symbols, parity_symbols)

-- ---- by either

module _ (changes : ChangesAreSeen) (law : ShardsDetermine) (origin : Origin) (content one other : List ℕ) (possible : IsPossible origin)
    (one_long : length one ≡ shard_total origin * origin.size) (other_long : length other ≡ shard_total origin * origin.size)
    (first : IsSplit origin content one) (second : IsSplit origin content other)
  where
    data_same : (i : ℕ) → i < stripe_width origin → get_or one i 0 ≡ get_or other i 0
    data_same i below =
        elim (cases_lt i (length content)) [
          | inl before ↦ sym (byte one first before) ∙ byte other second before
          | inr behind ↦ first.padded i behind below ∙ sym (second.padded i behind below)
        ]
      where
        byte : (whole : List ℕ) → IsSplit origin content whole → i < length content → get_or content i 0 ≡ get_or whole i 0
        byte whole split before =
            ap (λ (l : List ℕ). get_or l i 0) (sym split.begins) ∙ get_or-take (length content) whole i 0 before

    agree : AgreeWherePresent (shard_total origin) origin.size (data_flags origin.data_shards origin.parity_shards) one other
    agree i column inside below is =
        let low = only_data origin.data_shards origin.parity_shards i is in
        let room = shard_room i origin.data_shards origin.size (stripe_width origin) low refl in
        data_same (i * origin.size + column) (omega (arith, room, below))

    pub splits_are_one_law : one ≡ other
    splits_are_one_law =
        elim first.code_word [
          | inl matrix ↦ elim second.code_word [
            | inl more ↦ changes origin.data_shards (shard_total origin) origin.size (data_flags origin.data_shards origin.parity_shards) other one
                (possible.has_code.matrix matrix.0) (flags_long origin.data_shards origin.parity_shards)
                (flags_counted origin.data_shards origin.parity_shards) other_long one_long more.1 agree matrix.1
            | inr others ↦ absurd (omega (arith, matrix.0, others.0))
          ]
          | inr transform ↦ elim second.code_word [
            | inl others ↦ absurd (omega (arith, transform.0, others.0))
            | inr more ↦ word_is_one law origin.data_shards origin.parity_shards origin.size (possible.has_code.transform transform.0) one other
                transform.1 more.1 data_same one_long other_long
          ]
        ]

-- all shards of a file are those of its stripes
pub files_are_one_law : SplitsAreOne → FilesAreOne
files_are_one_law law origin content wholes others possible first second =
    ext_get_or [] wholes others (first.count_is ∙ sym second.count_is)
    (λ stripe below.
    let within : stripe < stripe_total origin = omega (arith, below, first.count_is) in
    law origin (stripe_content origin stripe content) (get_or wholes stripe []) (get_or others stripe []) possible
    (first.long stripe within) (second.long stripe within) (first.split stripe within) (second.split stripe within))
