-- Calls of the code by transforms on the words of a stripe.
use Rattle.std.proofs.Common.{◌≡◌, ◌≢◌, ◌↔◌, ◌⊎◌, inl, ℕ, ◌+◌, ◌*◌, ◌/◌, ◌^◌, ◌<◌, ◌≤◌, Bool, List, length, get_or, sym, ◌∙◌, ap, ap₂, subst, arith}
use Rattle.std.proofs.Math.Nat.{mul-div_cancel_left}
use Rattle.reed_solomon.specs.RoundTrip.{AgreeWherePresent}
use Rattle.reed_solomon.specs.Shards.{present_count}
use Rattle.reed_solomon.specs.Codes.{AreCodedColumns}
use Rattle.reed_solomon.specs.TransformSizes.{CanEncode, CanRebuild, HaveOneSize, IsPadded}
use Rattle.reed_solomon.specs.declared.transform_codec.TransformCode.{TransformCode}
use Rattle.shard_files.specs.Codes.{AreShardWords, AreTransformWords, AreWordsOf}
use Rattle.shard_files.specs.declared.code.StripeCode.{StripeCode}
use Rattle.shard_files.proofs.KnownCodes.{is_transform}
use Rattle.shard_files.proofs.PresentCounts.{few_missing}
use Rattle.shard_files.proofs.TransformWords.{coded, coded_again, data_bytes, element, one_size, points_room, words_kept}

-- words of shards of so many words are so many
pub half_is : (k half words : ℕ) → 0 < k → words ≡ k * half → words / k ≡ half
half_is k half words some is = ap (λ (n : ℕ). n / k) is ∙ mul-div_cancel_left half some

-- the words of the data, and those of all, have their bytes
pub parts : (bytes k m half : ℕ) → bytes ≡ (k + m) * (2 * half) → bytes ≡ 2 * (k * half + m * half)
parts bytes k m half is = omega (arith, is)

-- ---- what the calls need

module _ (own : TransformCode) (half words parity space : ℕ) (some : 0 < half) (points : 2 ^ own.all_levels ≤ 2 ^ 2 ^ 4)
    (whole : words ≡ own.data_shards * half) (parity_whole : parity ≡ own.parity_shards * half) (room : space ≡ 40 * 2 ^ own.all_levels)
  where
    sizes : HaveOneSize own.data_shards own.parity_shards words parity
    sizes = one_size own.data_shards own.parity_shards half words parity own.some_data own.some_parity some whole parity_whole

    needed : 2 * 2 ^ own.levels + own.parity_shards ≤ 40 * 2 ^ own.all_levels
    needed = points_room own.data_shards own.parity_shards own.levels own.all_levels own.all

    pub can_encode : CanEncode 4 own.levels own.data_shards own.parity_shards words parity (2 * 2 ^ own.levels) space
    can_encode = record { points = own.few; sizes = sizes; room = omega (arith, needed, room) }

    pub can_rebuild : (present : List Bool) → length present ≡ own.data_shards + own.parity_shards → own.data_shards ≤ present_count present
        → CanRebuild 4 own.all_levels own.data_shards own.parity_shards words parity space present
    can_rebuild present flags enough =
        record {
          flags = flags;
          points = points;
          sizes = sizes;
          enough = few_missing own.data_shards own.parity_shards present flags enough;
          room = omega (arith, room);
        }

-- words are compared where they are those of shards of one size
pub can_verify : (own : TransformCode) (words parity space : ℕ) → HaveOneSize own.data_shards own.parity_shards words parity
    → space ≡ 40 * 2 ^ own.all_levels
    → CanEncode 4 own.levels own.data_shards own.parity_shards words parity (2 * 2 ^ own.levels + own.parity_shards) space
can_verify own words parity space sizes room =
    record {
      points = own.few;
      sizes = sizes;
      room = omega (arith, points_room own.data_shards own.parity_shards own.levels own.all_levels own.all, room);
    }

-- ---- words that were restored are written

module _ (own : TransformCode) (half : ℕ) (old middle new words parity now now_parity : List ℕ) (first : ℕ) (first_is : first ≡ length words)
    (are : AreShardWords own.data_shards own.parity_shards half old words parity) (now_long : length now ≡ length words)
    (parity_long : length now_parity ≡ length parity) (written : AreWordsOf middle 0 now) (parity_written : AreWordsOf new first now_parity)
    (kept : (place : ℕ) → (place < 2 * first) ⊎ (2 * (first + length now_parity) ≤ place) → get_or new place 0 ≡ get_or middle place 0)
  where
    pub words_are : AreShardWords own.data_shards own.parity_shards half new now now_parity
    words_are =
        record {
          long = now_long ∙ are.long;
          parity_long = parity_long ∙ are.parity_long;
          are = words_kept middle new 0 (2 * first) now (omega (arith, first_is, now_long)) (λ place below. kept place (inl below)) written;
          parity_are = subst (λ (n : ℕ). AreWordsOf new n now_parity) (first_is ∙ are.long) parity_written;
        }

-- ---- what is asked for, by the counts of the code

module _ (code : StripeCode) (other : code.number ≢ 1) where
  pub is_two : code.number ≡ 2
  is_two = is_transform code.number code.data_shards code.parity_shards code.size code.has_code other

  pub even : code.size ≡ 2 * (code.size / 2)
  even = omega (arith, code.has_code.whole_words is_two)

  pub some_half : 0 < code.size / 2
  some_half = omega (arith, even, code.some_size)

  pub words_room : (bytes : ℕ) → bytes ≡ (code.data_shards + code.parity_shards) * code.size
      → bytes ≡ 2 * (code.data_shards * (code.size / 2) + code.parity_shards * (code.size / 2))
  words_room bytes long =
      parts bytes code.data_shards code.parity_shards (code.size / 2) (long ∙ ap (λ (n : ℕ). (code.data_shards + code.parity_shards) * n) even)

module _ (code : StripeCode) (own : TransformCode)
    (made : (own.data_shards ≡ code.data_shards) × (own.parity_shards ≡ code.parity_shards) × (2 ^ own.all_levels ≤ 2 ^ 2 ^ 4))
    (other : code.number ≢ 1)
  where
    pub total_is : own.data_shards + own.parity_shards ≡ code.data_shards + code.parity_shards
    total_is = ap₂ (λ (a b : ℕ). a + b) made.0 made.1

    -- all bytes are those of the words
    pub all_bytes : (bytes : ℕ) → bytes ≡ (code.data_shards + code.parity_shards) * code.size
        → bytes ≡ (own.data_shards + own.parity_shards) * (2 * (code.size / 2))
    all_bytes bytes long = long ∙ ap₂ (λ (a b : ℕ). a * b) (sym total_is) (even code other)

    padded : IsPadded code.data_shards own.levels
    padded = subst (λ (n : ℕ). IsPadded n own.levels) made.0 own.padded

    columns_of : (words parity : List ℕ)
        → AreCodedColumns element 0 4 own.levels own.data_shards own.parity_shards (code.size / 2) words parity
        → AreCodedColumns element 0 4 own.levels code.data_shards code.parity_shards (code.size / 2) words parity
    columns_of words parity columns =
        subst (λ (n : ℕ). AreCodedColumns element 0 4 own.levels code.data_shards n (code.size / 2) words parity) made.1
        (subst (λ (n : ℕ). AreCodedColumns element 0 4 own.levels n own.parity_shards (code.size / 2) words parity) made.0 columns)

    -- parity that was encoded is written behind the data
    module _ (old new words parity : List ℕ) (first : ℕ) (first_is : first ≡ length words)
        (kept : (place : ℕ) → (place < 2 * first) ⊎ (2 * (first + length parity) ≤ place) → get_or new place 0 ≡ get_or old place 0)
        (long : length words ≡ code.data_shards * (code.size / 2))
      where
        pub encoded_kept : (i : ℕ) → i < code.data_shards * code.size → get_or new i 0 ≡ get_or old i 0
        encoded_kept i below =
            let bytes = data_bytes code.data_shards code.size (code.size / 2) first (even code other) (first_is ∙ long) in
            kept i (inl (omega (arith, below, bytes)))

        pub encoded : AreWordsOf old 0 words → length parity ≡ own.parity_shards * (code.size / 2) → AreWordsOf new first parity
            → AreCodedColumns element 0 4 own.levels own.data_shards own.parity_shards (code.size / 2) words parity
            → AreTransformWords code.data_shards code.parity_shards code.size new
        encoded are parity_long written columns =
            coded code.data_shards code.parity_shards (code.size / 2) own.levels padded code.size new words parity (even code other)
            (record {
              long = long;
              parity_long = parity_long ∙ ap (λ (n : ℕ). n * (code.size / 2)) made.1;
              are = words_kept old new 0 (2 * first) words (omega (arith, first_is)) (λ place below. kept place (inl below)) are;
              parity_are = subst (λ (n : ℕ). AreWordsOf new n parity) (first_is ∙ long) written;
            })
            (columns_of words parity columns)

    -- words of shards are those by the counts of the code
    pub read_own : (shards words parity : List ℕ) → AreShardWords code.data_shards code.parity_shards (code.size / 2) shards words parity
        → AreShardWords own.data_shards own.parity_shards (code.size / 2) shards words parity
    read_own shards words parity are =
        subst (λ (n : ℕ). AreShardWords own.data_shards n (code.size / 2) shards words parity) (sym made.1)
        (subst (λ (n : ℕ). AreShardWords n code.parity_shards (code.size / 2) shards words parity) (sym made.0) are)

    -- words are compared
    pub told : (shards words parity : List ℕ) → AreShardWords code.data_shards code.parity_shards (code.size / 2) shards words parity
        → (HaveOneSize own.data_shards own.parity_shards (length words) (length parity)
        × AreCodedColumns element 0 4 own.levels own.data_shards own.parity_shards (length words / own.data_shards) words parity)
        ↔ AreTransformWords code.data_shards code.parity_shards code.size shards
    told shards words parity are = (there, back)
      where
        mine : AreShardWords own.data_shards own.parity_shards (code.size / 2) shards words parity
        mine = read_own shards words parity are

        size_is : length words / own.data_shards ≡ code.size / 2
        size_is = half_is own.data_shards (code.size / 2) (length words) own.some_data mine.long

        there : HaveOneSize own.data_shards own.parity_shards (length words) (length parity)
            × AreCodedColumns element 0 4 own.levels own.data_shards own.parity_shards (length words / own.data_shards) words parity
            → AreTransformWords code.data_shards code.parity_shards code.size shards
        there both =
            coded code.data_shards code.parity_shards (code.size / 2) own.levels padded code.size shards words parity (even code other) are
            (columns_of words parity
            (subst (λ (n : ℕ). AreCodedColumns element 0 4 own.levels own.data_shards own.parity_shards n words parity) size_is both.1))

        back : AreTransformWords code.data_shards code.parity_shards code.size shards
            → HaveOneSize own.data_shards own.parity_shards (length words) (length parity)
            × AreCodedColumns element 0 4 own.levels own.data_shards own.parity_shards (length words / own.data_shards) words parity
        back word =
            let columns = coded_again code.data_shards code.parity_shards (code.size / 2) own.levels padded code.size shards words parity (even code other) are word in (
              one_size own.data_shards own.parity_shards (code.size / 2) (length words) (length parity) own.some_data own.some_parity (some_half code other)
                  mine.long mine.parity_long,
              subst (λ (n : ℕ). AreCodedColumns element 0 4 own.levels own.data_shards own.parity_shards n words parity) (sym size_is)
                  (subst (λ (n : ℕ). AreCodedColumns element 0 4 own.levels own.data_shards n (code.size / 2) words parity) (sym made.1)
                  (subst (λ (n : ℕ). AreCodedColumns element 0 4 own.levels n code.parity_shards (code.size / 2) words parity) (sym made.0) columns)),
            )

    -- a code word of the stripe, and what agrees with it, by the counts of the code
    pub word_own : (shards : List ℕ) → AreTransformWords code.data_shards code.parity_shards code.size shards
        → AreTransformWords own.data_shards own.parity_shards code.size shards
    word_own shards word =
        subst (λ (n : ℕ). AreTransformWords own.data_shards n code.size shards) (sym made.1)
        (subst (λ (n : ℕ). AreTransformWords n code.parity_shards code.size shards) (sym made.0) word)

    pub agree_own : (present : List Bool) (one other : List ℕ) → AgreeWherePresent (code.data_shards + code.parity_shards) code.size present one other
        → AgreeWherePresent (own.data_shards + own.parity_shards) code.size present one other
    agree_own present one other agree = subst (λ (n : ℕ). AgreeWherePresent n code.size present one other) (sym total_is) agree

    pub agree_theirs : (present : List Bool) (one other : List ℕ) → AgreeWherePresent (own.data_shards + own.parity_shards) code.size present one other
        → AgreeWherePresent (code.data_shards + code.parity_shards) code.size present one other
    agree_theirs present one other agree = subst (λ (n : ℕ). AgreeWherePresent n code.size present one other) total_is agree
