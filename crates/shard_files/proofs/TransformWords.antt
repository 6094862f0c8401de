-- The code by transforms, in bytes of shards: words of 16 bits, the lower byte first.
use Rattle.std.proofs.Common.{◌≡◌, inl, inr, ℕ, zero, suc, ◌+◌, ◌-◌, ◌*◌, ◌/◌, ◌%◌, ◌^◌, ◌<◌, ◌≤◌, Bool, List, length, get_or, refl, sym, ◌∙◌, ap, subst, arith, lit<}
use Rattle.std.proofs.Math.Nat.{mul-div_cancel_left, mul-mod_right, pow-le-pow_right}
use Rattle.std.proofs.lemmas.Bool.{cases_lt}
use Rattle.std.proofs.lemmas.List.{ext_get_or}
use Rattle.std.proofs.lemmas.Nat.{div-add-mod', div_below}
use native.Mathlib.Nat.{mod-lt}
use Rattle.reed_solomon.specs.RoundTrip.{AgreeWherePresent}
use Rattle.reed_solomon.specs.Shards.{IsPresent}
use Rattle.reed_solomon.specs.Codes.{AreCodedColumns}
use Rattle.reed_solomon.specs.Determined.{AgreeAtHand, HaveSameSymbols, LostSymbolsReturn}
use Rattle.reed_solomon.specs.Restoring.{AreRestoredColumns}
use Rattle.reed_solomon.specs.TransformSizes.{HaveOneSize, IsPadded}
use Rattle.shard_files.specs.Codes.{AreShardWords, AreTransformWords, AreWordsOf, IsTransformCode, IsWordAt}
use Rattle.shard_files.proofs.ShardPlaces.{shard_room}

-- the element of a word
abbrev pub element : ℕ → ℕ
element word = word % 2 ^ 2 ^ 4

-- ---- counts

-- the least power of two that is not below a number is one
pub same_levels : (k one other : ℕ) → IsPadded k one → IsPadded k other → one ≡ other
same_levels k one other first second =
    let below = first.least other second.enough in
    let above = second.least one first.enough in
    omega (arith, below, above)

-- a code that restores missing shards is one
pub is_code : (k m own_data own_parity levels all_levels : ℕ) → own_data ≡ k → own_parity ≡ m → IsPadded own_data levels
    → IsPadded (2 ^ levels + own_parity) all_levels → 2 ^ all_levels ≤ 2 ^ 2 ^ 4 → IsTransformCode k m
is_code k m own_data own_parity levels all_levels data_is parity_is padded all points none =
    let few : 2 ^ all_levels ≤ 65536 = points in
    let far : 65536 < 2 ^ levels + m = none levels (omega (arith, padded.enough, data_is)) in
    absurd (omega (arith, few, far, all.enough, parity_is))

-- and one that restores none is not
pub no_code : (k m own_data own_parity levels all_levels : ℕ) → own_data ≡ k → own_parity ≡ m → IsPadded own_data levels
    → IsPadded (2 ^ levels + own_parity) all_levels → IsTransformCode k m → 2 ^ all_levels ≤ 2 ^ 2 ^ 4
no_code k m own_data own_parity levels all_levels data_is parity_is padded all is =
    elim (cases_lt 65536 (2 ^ all_levels)) [
      | inl above ↦ absurd (is (far above))
      | inr below ↦ below
    ]
  where
    far : 65536 < 2 ^ all_levels → (n : ℕ) → k ≤ 2 ^ n → 65536 < 2 ^ n + m
    far above n room =
        elim (cases_lt 65536 (2 ^ n + m)) [
          | inl more ↦ more
          | inr few ↦
              let power : 2 ^ levels ≤ 2 ^ n = pow-le-pow_right (lit< tt) (padded.least n (omega (arith, room, data_is))) in
              let within : 2 ^ levels + own_parity ≤ 2 ^ 16 = omega (arith, few, power, parity_is) in
              let points : 2 ^ all_levels ≤ 2 ^ 16 = pow-le-pow_right (lit< tt) (all.least 16 within) in
              absurd (omega (arith, above, points))
        ]

-- one whose points are more than there are is none either
pub no_points : (k m : ℕ) → ((n : ℕ) → k ≤ 2 ^ n → 65536 < 2 ^ n + m) → IsTransformCode k m → ⊥
no_points k m far is = is far

-- its shards are no more than the points of its field
pub few_shards : (k m : ℕ) → IsTransformCode k m → k + m ≤ 65536
few_shards k m is =
    elim (cases_lt 65536 (k + m)) [
      | inl above ↦ absurd (is (far above))
      | inr below ↦ below
    ]
  where
    far : 65536 < k + m → (n : ℕ) → k ≤ 2 ^ n → 65536 < 2 ^ n + m
    far above n room = omega (arith, above, room)

-- the space that calls take is that of all they need
pub points_room : (k m levels all_levels : ℕ) → IsPadded (2 ^ levels + m) all_levels → 2 * 2 ^ levels + m ≤ 40 * 2 ^ all_levels
points_room k m levels all_levels all = omega (arith, all.enough)

-- words of shards of so many words have one size
pub one_size : (k m half words parity : ℕ) → 0 < k → 0 < m → 0 < half → words ≡ k * half → parity ≡ m * half → HaveOneSize k m words parity
one_size k m half words parity some some_parity wide words_are parity_are =
    record {
      some = λ none. absurd (omega (arith, none, words_are, shard_room 0 k half (k * half) some refl, wide));
      whole = ap (λ (n : ℕ). n % k) words_are ∙ mul-mod_right k half;
      parity_whole = ap (λ (n : ℕ). n % m) parity_are ∙ mul-mod_right m half;
      same = ap (λ (n : ℕ). n / m) parity_are ∙ mul-div_cancel_left half some_parity
          ∙ sym (ap (λ (n : ℕ). n / k) words_are ∙ mul-div_cancel_left half some);
    }

-- ---- bytes and words

-- two words of the same bytes are one element
pub same_element : (one other : List ℕ) (place word more : ℕ) → IsWordAt one place word → IsWordAt other place more
    → get_or one place 0 ≡ get_or other place 0 → get_or one (place + 1) 0 ≡ get_or other (place + 1) 0 → element word ≡ element more
same_element one other place word more first second lower higher =
    combine word more (sym first.lower ∙ lower ∙ second.lower) (sym first.higher ∙ higher ∙ second.higher)
  where
    combine : (x y : ℕ) → x % 256 ≡ y % 256 → x / 256 % 256 ≡ y / 256 % 256 → x % 65536 ≡ y % 65536
    combine x y low high = omega (arith, low, high)

-- and words that are one element have the same bytes
same_bytes : (one other : List ℕ) (place word more : ℕ) → IsWordAt one place word → IsWordAt other place more → element word ≡ element more
    → (get_or one place 0 ≡ get_or other place 0) × (get_or one (place + 1) 0 ≡ get_or other (place + 1) 0)
same_bytes one other place word more first second same = (
  first.lower ∙ low word more same ∙ sym second.lower,
  first.higher ∙ high word more same ∙ sym second.higher,
)
  where
    low : (x y : ℕ) → x % 65536 ≡ y % 65536 → x % 256 ≡ y % 256
    low x y is = omega (arith, is)

    high : (x y : ℕ) → x % 65536 ≡ y % 65536 → x / 256 % 256 ≡ y / 256 % 256
    high x y is = omega (arith, is)

-- words stay those of bytes of which only others change
pub words_kept : (old new : List ℕ) (first bound : ℕ) (words : List ℕ) → 2 * (first + length words) ≤ bound
    → ((place : ℕ) → place < bound → get_or new place 0 ≡ get_or old place 0) → AreWordsOf old first words → AreWordsOf new first words
words_kept old new first bound words room kept are i below =
    record {
      lower = kept (2 * (first + i)) (omega (arith, room, below)) ∙ (are i below).lower;
      higher = kept (2 * (first + i) + 1) (omega (arith, room, below)) ∙ (are i below).higher;
    }

-- the shards of data are the first
pub data_bytes : (k size half first : ℕ) → size ≡ 2 * half → first ≡ k * half → k * size ≡ 2 * first
data_bytes k size half first even is =
    let width : k * size ≡ k * (2 * half) = ap (λ (n : ℕ). k * n) even in omega (arith, width, is)

-- ---- columns of shards, from shard `from` on

module _ (half : ℕ) where
  pub column_room : (i count column : ℕ) → i < count → column < half → i * half + column < count * half
  column_room i count column inside below = omega (arith, shard_room i count half (count * half) inside refl, below)

  -- byte `column` of a word of shard i, and the word
  byte_place : (from base i column byte : ℕ) → base ≡ from * half
      → (from + i) * (2 * half) + (2 * column + byte) ≡ 2 * (base + (i * half + column)) + byte
  byte_place from base i column byte is = omega (arith, is)

  module _ (from count base : ℕ) (base_is : base ≡ from * half) (one other words more : List ℕ) (long : length words ≡ count * half)
      (more_long : length more ≡ count * half) (are : AreWordsOf one base words) (more_are : AreWordsOf other base more)
    where
      -- shards at hand have the same symbols as those with the same bytes
      pub agree_at_hand : (total : ℕ) (present : List Bool) → from + count ≤ total → AgreeWherePresent total (2 * half) present one other
          → AgreeAtHand element 0 present from count half words more
      agree_at_hand total present room agree column i below inside is =
          let place = i * half + column in
          let within = column_room i count column inside below in
          same_element one other (2 * (base + place)) (get_or words place 0) (get_or more place 0)
          (are place (omega (arith, long, within))) (more_are place (omega (arith, more_long, within)))
          (subst (λ (n : ℕ). get_or one n 0 ≡ get_or other n 0) (byte_place from base i column 0 base_is ∙ no_more (2 * (base + place))) (byte 0 (omega arith)))
          (subst (λ (n : ℕ). get_or one n 0 ≡ get_or other n 0) (byte_place from base i column 1 base_is) (byte 1 (omega arith)))
        where
          no_more : (n : ℕ) → n + 0 ≡ n
          no_more n = omega arith

          byte : (b : ℕ) → b < 2 → get_or one ((from + i) * (2 * half) + (2 * column + b)) 0 ≡ get_or other ((from + i) * (2 * half) + (2 * column + b)) 0
          byte b small = agree (from + i) (2 * column + b) (omega (arith, inside, room)) (omega (arith, below, small)) is

      -- and where the symbols are the same, so are the bytes
      pub bytes_of_symbols : HaveSameSymbols element 0 count half words more → (place : ℕ) → place < count * half
          → (get_or one (2 * (base + place)) 0 ≡ get_or other (2 * (base + place)) 0)
          × (get_or one (2 * (base + place) + 1) 0 ≡ get_or other (2 * (base + place) + 1) 0)
      bytes_of_symbols same place below =
          same_bytes one other (2 * (base + place)) (get_or words place 0) (get_or more place 0)
          (are place (omega (arith, long, below))) (more_are place (omega (arith, more_long, below)))
          (subst (λ (n : ℕ). element (get_or words n 0) ≡ element (get_or more n 0)) (div-add-mod' place half)
          (same (place % half) (place / half) (mod-lt place wide) (div_below place half count wide below)))
        where
          some_size : (n : ℕ) → place < count * n → 0 < n
          some_size zero less = absurd (omega (arith, less))
          some_size (suc n) less = omega arith

          wide : 0 < half
          wide = some_size half below

      -- a shard that has the same words has the same bytes
      pub bytes_kept : (i : ℕ) → i < count → ((column : ℕ) → column < half → get_or words (i * half + column) 0 ≡ get_or more (i * half + column) 0)
          → (column : ℕ) → column < 2 * half → get_or one ((from + i) * (2 * half) + column) 0 ≡ get_or other ((from + i) * (2 * half) + column) 0
      bytes_kept i inside same column below =
          elim (cases_lt (column % 2) 1) [
            | inl even ↦ subst (λ (p : ℕ). get_or one p 0 ≡ get_or other p 0) (sym (even_place even)) both.0
            | inr odd ↦ subst (λ (p : ℕ). get_or one p 0 ≡ get_or other p 0) (sym (odd_place odd)) both.1
          ]
        where
          halved : column / 2 < half
          halved = omega (arith, below)

          both : (get_or one (2 * (base + (i * half + column / 2))) 0 ≡ get_or other (2 * (base + (i * half + column / 2))) 0)
              × (get_or one (2 * (base + (i * half + column / 2)) + 1) 0 ≡ get_or other (2 * (base + (i * half + column / 2)) + 1) 0)
          both =
              let within = column_room i count (column / 2) inside halved in
              same_bytes one other (2 * (base + (i * half + column / 2))) (get_or words (i * half + column / 2) 0) (get_or more (i * half + column / 2) 0)
              (are (i * half + column / 2) (omega (arith, long, within))) (more_are (i * half + column / 2) (omega (arith, more_long, within)))
              (ap element (same (column / 2) halved))

          even_place : column % 2 < 1 → (from + i) * (2 * half) + column ≡ 2 * (base + (i * half + column / 2))
          even_place is =
              let whole : 2 * (column / 2) + 0 ≡ column = omega (arith, is) in
              ap (λ (n : ℕ). (from + i) * (2 * half) + n) (sym whole) ∙ byte_place from base i (column / 2) 0 base_is
              ∙ no_more (2 * (base + (i * half + column / 2)))
            where
              no_more : (n : ℕ) → n + 0 ≡ n
              no_more n = omega arith

          odd_place : 1 ≤ column % 2 → (from + i) * (2 * half) + column ≡ 2 * (base + (i * half + column / 2)) + 1
          odd_place is =
              let whole : 2 * (column / 2) + 1 ≡ column = omega (arith, is) in
              ap (λ (n : ℕ). (from + i) * (2 * half) + n) (sym whole) ∙ byte_place from base i (column / 2) 1 base_is

-- shards at hand whose words are as they were have the bytes that they had
module _ (k m half levels : ℕ) (size : ℕ) (even : size ≡ 2 * half) (present : List Bool) (old new words parity now now_parity : List ℕ)
    (are : AreShardWords k m half old words parity) (now_are : AreShardWords k m half new now now_parity)
    (restored : AreRestoredColumns element 0 4 levels k m half present half words parity now now_parity)
  where
    pub restored_kept : AgreeWherePresent (k + m) size present new old
    restored_kept i column inside below is =
        subst (λ (n : ℕ). get_or new (i * n + column) 0 ≡ get_or old (i * n + column) 0) (sym even)
        (elim (cases_lt i k) [
          | inl low ↦ first i low is
          | inr above ↦
              let parted : k + (i - k) ≡ i = omega (arith, above) in
              subst (λ (n : ℕ). get_or new (n * (2 * half) + column) 0 ≡ get_or old (n * (2 * half) + column) 0) parted
              (second (i - k) (omega (arith, above, inside)) (subst (IsPresent present) (sym parted) is))
        ])
      where
        width : column < 2 * half
        width = subst (λ (n : ℕ). column < n) even below

        no_shard : 0 ≡ 0 * half
        no_shard = omega arith

        first : (t : ℕ) → t < k → IsPresent present t → get_or new (t * (2 * half) + column) 0 ≡ get_or old (t * (2 * half) + column) 0
        first t low has =
            subst (λ (n : ℕ). get_or new (n * (2 * half) + column) 0 ≡ get_or old (n * (2 * half) + column) 0) (zero_more t)
            (bytes_kept half 0 k 0 no_shard new old now words now_are.long are.long now_are.are are.are t low
            (λ c less. restored.kept t c less (inr has)) column width)
          where
            zero_more : (n : ℕ) → 0 + n ≡ n
            zero_more n = omega arith

        second : (t : ℕ) → t < m → IsPresent present (k + t)
            → get_or new ((k + t) * (2 * half) + column) 0 ≡ get_or old ((k + t) * (2 * half) + column) 0
        second t inner has =
            bytes_kept half k m (k * half) refl new old now_parity parity now_are.parity_long are.parity_long now_are.parity_are are.parity_are t inner
            (λ c less. restored.parity_kept t c less (inr has)) column width

-- ---- code words

module _ (k m half levels : ℕ) (padded : IsPadded k levels) where
  -- columns of code words are one
  pub coded : (size : ℕ) (shards words parity : List ℕ) → size ≡ 2 * half → AreShardWords k m half shards words parity
      → AreCodedColumns element 0 4 levels k m half words parity → AreTransformWords k m size shards
  coded size shards words parity even are columns =
      record {
        half = half;
        even = even;
        levels = levels;
        padded = padded;
        words = words;
        parity = parity;
        are = are;
        columns = columns;
      }

  -- the words of a code word
  abbrev pub HasWords : List ℕ → Type 0
  HasWords shards =
      (words : List ℕ) × (parity : List ℕ) × AreShardWords k m half shards words parity
      × AreCodedColumns element 0 4 levels k m half words parity

  pub words_are : (size : ℕ) (shards : List ℕ) → size ≡ 2 * half → AreTransformWords k m size shards → HasWords shards
  words_are size shards even word =
      let half_is : word.half ≡ half = omega (arith, even, word.even) in
      let levels_is : word.levels ≡ levels = same_levels k word.levels levels word.padded padded in (
        word.words,
        word.parity,
        subst (λ (n : ℕ). AreShardWords k m n shards word.words word.parity) half_is word.are,
        subst (λ (n : ℕ). AreCodedColumns element 0 4 n k m half word.words word.parity) levels_is
            (subst (λ (n : ℕ). AreCodedColumns element 0 4 word.levels k m n word.words word.parity) half_is word.columns),
      )

  -- other words of the same bytes are code words too
  pub coded_again : (size : ℕ) (shards words parity : List ℕ) → size ≡ 2 * half → AreShardWords k m half shards words parity
      → AreTransformWords k m size shards → AreCodedColumns element 0 4 levels k m half words parity
  coded_again size shards words parity even are word column below =
      let its = given.3 column below in
      record {
        coefficients = its.coefficients;
        of_data = record {
          count = its.of_data.count;
          values = λ i inside. first i inside ∙ its.of_data.values i inside;
          padding = its.of_data.padding;
        };
        of_parity = λ t inside. second t inside ∙ its.of_parity t inside;
      }
    where
      given : HasWords shards
      given = words_are size shards even word

      first : (i : ℕ) → i < k → element (get_or words (i * half + column) 0) ≡ element (get_or given.0 (i * half + column) 0)
      first i inside =
          let within = column_room half i k column inside below in
          same_element shards shards (2 * (0 + (i * half + column))) (get_or words (i * half + column) 0) (get_or given.0 (i * half + column) 0)
          (are.are (i * half + column) (omega (arith, are.long, within)))
          (given.2.are (i * half + column) (omega (arith, given.2.long, within))) refl refl

      second : (t : ℕ) → t < m → element (get_or parity (t * half + column) 0) ≡ element (get_or given.1 (t * half + column) 0)
      second t inside =
          let within = column_room half t m column inside below in
          same_element shards shards (2 * (k * half + (t * half + column))) (get_or parity (t * half + column) 0)
          (get_or given.1 (t * half + column) 0)
          (are.parity_are (t * half + column) (omega (arith, are.parity_long, within)))
          (given.2.parity_are (t * half + column) (omega (arith, given.2.parity_long, within))) refl refl

  -- shards of the same symbols have the same bytes
  module _ (size : ℕ) (even : size ≡ 2 * half) (new whole now now_parity words parity : List ℕ)
      (now_are : AreShardWords k m half new now now_parity) (are : AreShardWords k m half whole words parity)
      (same : HaveSameSymbols element 0 k half now words × HaveSameSymbols element 0 m half now_parity parity)
      (long : length new ≡ (k + m) * size) (whole_long : length whole ≡ (k + m) * size)
    where
      no_shard : 0 ≡ 0 * half
      no_shard = omega arith

      -- both bytes of a word
      word_is : (place : ℕ) → place < (k + m) * half
          → (get_or new (2 * place) 0 ≡ get_or whole (2 * place) 0) × (get_or new (2 * place + 1) 0 ≡ get_or whole (2 * place + 1) 0)
      word_is place below =
          elim (cases_lt place (k * half)) [
            | inl before ↦ subst (λ (n : ℕ). (get_or new (2 * n) 0 ≡ get_or whole (2 * n) 0) × (get_or new (2 * n + 1) 0 ≡ get_or whole (2 * n + 1) 0))
                (none_before place)
                (bytes_of_symbols half 0 k 0 no_shard new whole now words now_are.long are.long now_are.are are.are same.0 place before)
            | inr behind ↦ subst (λ (n : ℕ). (get_or new (2 * n) 0 ≡ get_or whole (2 * n) 0) × (get_or new (2 * n + 1) 0 ≡ get_or whole (2 * n + 1) 0))
                (all_before (k * half) place behind)
                (bytes_of_symbols half k m (k * half) refl new whole now_parity parity now_are.parity_long are.parity_long now_are.parity_are
                are.parity_are same.1 (place - k * half) (rest behind))
          ]
        where
          none_before : (n : ℕ) → 0 + n ≡ n
          none_before n = omega arith

          all_before : (a n : ℕ) → a ≤ n → a + (n - a) ≡ n
          all_before a n less = omega (arith, less)

          rest : k * half ≤ place → place - k * half < m * half
          rest behind =
              let parts : (k + m) * half ≡ k * half + m * half = omega arith in omega (arith, behind, below, parts)

      byte_is : (n : ℕ) → n < (k + m) * (2 * half) → get_or new n 0 ≡ get_or whole n 0
      byte_is n below =
          let within = in_words n below in
          let both = word_is (n / 2) within in
          elim (cases_lt (n % 2) 1) [
            | inl even_one ↦ subst (λ (p : ℕ). get_or new p 0 ≡ get_or whole p 0) (even_place n even_one) both.0
            | inr odd_one ↦ subst (λ (p : ℕ). get_or new p 0 ≡ get_or whole p 0) (odd_place n odd_one) both.1
          ]
        where
          in_words : (n : ℕ) → n < (k + m) * (2 * half) → n / 2 < (k + m) * half
          in_words n less =
              let twice : (k + m) * (2 * half) ≡ 2 * ((k + m) * half) = omega arith in omega (arith, less, twice)

          even_place : (n : ℕ) → n % 2 < 1 → 2 * (n / 2) ≡ n
          even_place n is = omega (arith, is)

          odd_place : (n : ℕ) → 1 ≤ n % 2 → 2 * (n / 2) + 1 ≡ n
          odd_place n is = omega (arith, is)

      pub whole_is : new ≡ whole
      whole_is =
          ext_get_or 0 new whole (long ∙ sym whole_long)
          (λ n below. byte_is n (subst (λ (s : ℕ). n < (k + m) * s) even (subst (λ (l : ℕ). n < l) long below)))

  -- what is restored from shards of a code word is that word
  module _ (law : LostSymbolsReturn element 0 4) (size : ℕ) (even : size ≡ 2 * half) (present : List Bool)
      (old new whole words parity now now_parity : List ℕ) (are : AreShardWords k m half old words parity)
      (now_are : AreShardWords k m half new now now_parity)
      (restored : AreRestoredColumns element 0 4 levels k m half present half words parity now now_parity)
      (word : AreTransformWords k m size whole) (agree : AgreeWherePresent (k + m) size present old whole)
      (long : length new ≡ (k + m) * size) (whole_long : length whole ≡ (k + m) * size)
    where
      given : HasWords whole
      given = words_are size whole even word

      agrees : AgreeWherePresent (k + m) (2 * half) present old whole
      agrees = subst (λ (n : ℕ). AgreeWherePresent (k + m) n present old whole) even agree

      no_shards : 0 ≡ 0 * half
      no_shards = omega arith

      same_symbols : HaveSameSymbols element 0 k half now given.0 × HaveSameSymbols element 0 m half now_parity given.1
      same_symbols =
          law levels k m half present given.0 given.1 words parity now now_parity given.3
          (agree_at_hand half 0 k 0 no_shards old whole words given.0 are.long given.2.long are.are given.2.are (k + m) present (omega arith) agrees)
          (agree_at_hand half k m (k * half) refl old whole parity given.1 are.parity_long given.2.parity_long are.parity_are given.2.parity_are
          (k + m) present (omega arith) agrees)
          restored

      pub restored_whole : new ≡ whole
      restored_whole = whole_is size even new whole now now_parity given.0 given.1 now_are given.2 same_symbols long whole_long
