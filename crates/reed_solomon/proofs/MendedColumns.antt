-- The missing shards of a strip that are written, one after the other.
use Rattle.std.proofs.Common.{◌≡◌, ◌≢◌, ◌⊎◌, inl, inr, ℕ, ◌+◌, ◌*◌, ◌^◌, ◌<◌, ◌≤◌, Bool, true, false, not, List, get_or, sym, ◌∙◌, ap, subst, arith}
use Rattle.std.proofs.lemmas.Bool.{cases_Bool, cases_lt, true≢false}
use Rattle.reed_solomon.specs.Columns.{ArePutWords, IsOutside}
use Rattle.reed_solomon.specs.Restoring.{AreMended, AreRestoredColumns, IsAtHand, RestoresSymbols, is_lost}
use Rattle.reed_solomon.specs.Codes.{IsCodedColumn, shard_symbol, value_at}
use Rattle.reed_solomon.specs.Determined.{LostSymbolsReturn}
use Rattle.reed_solomon.specs.declared.strips.Strip.{Strip}
use Rattle.reed_solomon.proofs.ColumnPlaces.{apart, columns_more}
use Rattle.reed_solomon.proofs.LostCounts.{lost-data, lost-parity}
use lib.Arith.{digits_lt}

module _ {W : Type 0} (zero : W) (size start width i from first : ℕ) (present : List Bool) (values old now : List W)
    (before : AreMended zero size start width i from first present values old now) where
  weaker : (j c : ℕ) → (IsOutside start width c) ⊎ ((IsAtHand present (first + j)) ⊎ (i + 1 ≤ j))
      → (IsOutside start width c) ⊎ ((IsAtHand present (first + j)) ⊎ (i ≤ j))
  weaker j c (inl outside) = inl outside
  weaker j c (inr (inl here)) = inr (inl here)
  weaker j c (inr (inr late)) = inr (inr (omega (arith, late)))

  -- one that is at hand stays
  pub mended_passed : get_or present (first + i) false ≡ true → AreMended zero size start width (i + 1) from first present values old now
  mended_passed here =
      record {
        mended = λ j c below inside absent.
            elim (cases_lt j i) [
              | inl early ↦ before.mended j c early inside absent
              | inr late ↦
                  let same : j ≡ i = omega (arith, below, late) in
                  absurd (true≢false (sym (ap (λ (s : ℕ). get_or present (first + s) false) same ∙ here) ∙ absent))
            ];
        kept = λ j c c_below side. before.kept j c c_below (weaker j c side);
      }

  -- one that is missing is written
  pub mended_wrote : (next : List W) → get_or present (first + i) false ≡ false → start + width ≤ size
      → ArePutWords zero (i * size + start) width (λ c. get_or values ((from + i) * width + c) zero) now next
      → AreMended zero size start width (i + 1) from first present values old next
  mended_wrote next absent fits put =
      record {
        mended = λ j c below inside missing.
            elim (cases_lt j i) [
              | inl early ↦
                  let under = digits_lt {q = j} {m = i} {r = (start + c)} {c = size} early (omega (arith, inside, fits)) in
                  put.kept (j * size + (start + c)) (inl (omega (arith, under))) ∙ before.mended j c early inside missing
              | inr late ↦
                  let same : i ≡ j = omega (arith, below, late) in
                  let place : i * size + (start + c) ≡ i * size + start + c = omega arith in
                  subst (λ (s : ℕ). get_or next (s * size + (start + c)) zero ≡ get_or values ((from + s) * width + c) zero) same
                  (ap (λ (p : ℕ). get_or next p zero) place ∙ put.written c inside)
            ];
        kept = λ j c c_below side.
            put.kept (j * size + c) (apart size start width i j c c_below fits (differs j c side))
            ∙ before.kept j c c_below (weaker j c side);
      }
    where
      differs : (j c : ℕ) → (IsOutside start width c) ⊎ ((IsAtHand present (first + j)) ⊎ (i + 1 ≤ j)) → (IsOutside start width c) ⊎ (j ≢ i)
      differs j c (inl outside) = inl outside
      differs j c (inr (inl here)) =
          inr (λ same. true≢false (sym here ∙ ap (λ (s : ℕ). get_or present (first + s) false) same ∙ absent))
      differs j c (inr (inr late)) = inr (λ same. absurd (omega (arith, late, same)))

-- ---- all columns

-- a strip is mended: what stands beside it or is at hand is kept, and each of its columns is restored
pub record IsMendedStrip {W : Type 0} (element : W → ℕ) (zero : W) (level n k m size : ℕ) (present : List Bool) (start width : ℕ)
    (mid mid_parity now now_parity : List W) : Type 0 where
  pub keeps : (i c : ℕ) → c < size → (IsOutside start width c) ⊎ (IsAtHand present i)
      → get_or now (i * size + c) zero ≡ get_or mid (i * size + c) zero
  pub parity_keeps : (t c : ℕ) → c < size → (IsOutside start width c) ⊎ (IsAtHand present (k + t))
      → get_or now_parity (t * size + c) zero ≡ get_or mid_parity (t * size + c) zero
  pub restores : (c : ℕ) → c < width → RestoresSymbols element zero level n k m size present (start + c) mid mid_parity now now_parity

module _ {W : Type 0} (element : W → ℕ) (zero : W) (level n k m size : ℕ) (present : List Bool) where
  -- one more strip is restored
  restored_more : (start width : ℕ) (shards parity mid mid_parity now now_parity : List W) → start + width ≤ size
      → AreRestoredColumns element zero level n k m size present start shards parity mid mid_parity
      → IsMendedStrip element zero level n k m size present start width mid mid_parity now now_parity
      → AreRestoredColumns element zero level n k m size present (start + width) shards parity now now_parity
  restored_more start width shards parity mid mid_parity now now_parity fits before mended =
      record {
        restored = columns_more start width (λ c. RestoresSymbols element zero level n k m size present c shards parity now now_parity) earlier own;
        kept = λ i c c_below side. mended.keeps i c c_below (weaken i c side) ∙ before.kept i c c_below (earlier_side i c side);
        parity_kept = λ t c c_below side.
            mended.parity_keeps t c c_below (weaken (k + t) c side) ∙ before.parity_kept t c c_below (earlier_side (k + t) c side);
      }
    where
      weaken : (i c : ℕ) → (start + width ≤ c) ⊎ (IsAtHand present i) → (IsOutside start width c) ⊎ (IsAtHand present i)
      weaken i c (inl late) = inl (inr late)
      weaken i c (inr here) = inr here

      earlier_side : (i c : ℕ) → (start + width ≤ c) ⊎ (IsAtHand present i) → (start ≤ c) ⊎ (IsAtHand present i)
      earlier_side i c (inl late) = inl (omega (arith, late))
      earlier_side i c (inr here) = inr here

      earlier : (c : ℕ) → c < start → RestoresSymbols element zero level n k m size present c shards parity now now_parity
      earlier c early symbol word_parity word data_known parity_known =
          let c_below : c < size = omega (arith, early, fits) in
          let done = before.restored c early symbol word_parity word data_known parity_known in (
            (λ i below. ap element (mended.keeps i c c_below (inl (inl early))) ∙ done.0 i below),
            λ t below. ap element (mended.parity_keeps t c c_below (inl (inl early))) ∙ done.1 t below,
          )

      own : (c : ℕ) → c < width → RestoresSymbols element zero level n k m size present (start + c) shards parity now now_parity
      own c inside symbol word_parity word data_known parity_known =
          let now_on : start ≤ start + c = omega arith in
          let c_below : start + c < size = omega (arith, inside, fits) in
          mended.restores c inside symbol word_parity word
          (λ i below here. ap element (before.kept i (start + c) c_below (inl now_on)) ∙ data_known i below here)
          (λ t below here. ap element (before.parity_kept t (start + c) c_below (inl now_on)) ∙ parity_known t below here)

-- one more strip, which begins behind the columns so far
pub next_restored : {W : Type 0} (element : W → ℕ) (zero : W) (level n k m size start : ℕ) (strip : Strip) (present : List Bool)
    (shards parity mid mid_parity now now_parity : List W) → strip.size ≡ size → strip.start ≡ start
    → AreRestoredColumns element zero level n k m size present start shards parity mid mid_parity
    → IsMendedStrip element zero level n k m strip.size present strip.start strip.width mid mid_parity now now_parity
    → (start + strip.width ≤ size) × AreRestoredColumns element zero level n k m size present (start + strip.width) shards parity now now_parity
next_restored element zero level n k m size start strip present shards parity mid mid_parity now now_parity size_is start_is before mended =
    subst (λ (s : ℕ). (start + strip.width ≤ s)
    × AreRestoredColumns element zero level n k m s present (start + strip.width) shards parity now now_parity) size_is
    (subst (λ (b : ℕ). (b + strip.width ≤ strip.size)
    × AreRestoredColumns element zero level n k m strip.size present (b + strip.width) shards parity now now_parity) start_is (
      strip.inside,
      restored_more element zero level n k m strip.size present strip.start strip.width shards parity mid mid_parity now now_parity strip.inside
          (subst (λ (s : ℕ). AreRestoredColumns element zero level n k m s present strip.start shards parity mid mid_parity) (sym size_is)
          (subst (λ (b : ℕ). AreRestoredColumns element zero level n k m size present b shards parity mid mid_parity) (sym start_is) before))
          mended,
    ))

-- ---- what a column becomes

module _ {W : Type 0} (element : W → ℕ) (zero : W) (level n k m size start width c first : ℕ) (present : List Bool)
    (shards parity now_shards now_parity values : List W) (symbol word_parity : ℕ → ℕ) (word : IsCodedColumn level n k m symbol word_parity)
    (fits : start + width ≤ size) (inside : c < width) (padded : k ≤ 2 ^ n) (first_is : first ≡ 2 ^ n)
    (values_are : (p : ℕ) → p < 2 ^ n + m → is_lost k n m present p ≡ true
    → element (get_or values (p * width + c) zero) ≡ value_at level n word.coefficients p) where
  within : start + c < size
  within = omega (arith, fits, inside)

  -- the data are those of the word
  pub data_restored : ((i : ℕ) → i < k → IsAtHand present i → shard_symbol element zero size shards (start + c) i ≡ symbol i)
      → AreMended zero size start width k 0 0 present values shards now_shards
      → (i : ℕ) → i < k → shard_symbol element zero size now_shards (start + c) i ≡ symbol i
  data_restored known done i below =
      let same : 0 + i ≡ i = omega arith in
      let flag : get_or present (0 + i) false ≡ get_or present i false = ap (λ (s : ℕ). get_or present s false) same in
      elim (cases_Bool (get_or present i false)) [
        | inl here ↦ ap element (done.kept i (start + c) within (inr (inl (flag ∙ here)))) ∙ known i below here
        | inr absent ↦
            ap element (done.mended i c below inside (flag ∙ absent))
            ∙ ap (λ (s : ℕ). element (get_or values (s * width + c) zero)) same
            ∙ values_are i (omega (arith, below, padded)) (lost-data k n m present padded i below ∙ ap not absent) ∙ sym (word.of_data.values i below)
      ]

  -- and so is the parity
  pub parity_restored : ((t : ℕ) → t < m → IsAtHand present (k + t) → shard_symbol element zero size parity (start + c) t ≡ word_parity t)
      → AreMended zero size start width m first k present values parity now_parity
      → (t : ℕ) → t < m → shard_symbol element zero size now_parity (start + c) t ≡ word_parity t
  parity_restored known done t below =
      elim (cases_Bool (get_or present (k + t) false)) [
        | inl here ↦ ap element (done.kept t (start + c) within (inr (inl here))) ∙ known t below here
        | inr absent ↦
            ap element (done.mended t c below inside absent)
            ∙ ap (λ (s : ℕ). element (get_or values ((s + t) * width + c) zero)) first_is
            ∙ values_are (2 ^ n + t) (omega (arith, below)) (lost-parity k n m present padded t below ∙ ap not absent)
            ∙ sym (word.of_parity t below)
      ]

-- ---- what was encoded and then lost

pub lost_symbols_return : {W : Type 0} (element : W → ℕ) (zero : W) (level : ℕ) → LostSymbolsReturn element zero level
lost_symbols_return element zero level n k m size present whole whole_parity damaged damaged_parity restored restored_parity coded agree
    parity_agree done = ((λ column i inside below. (come column inside).0 i below), λ column t inside below. (come column inside).1 t below)
  where
    come : (column : ℕ) → column < size
        → ((i : ℕ) → i < k → shard_symbol element zero size restored column i ≡ shard_symbol element zero size whole column i)
        × ((t : ℕ) → t < m → shard_symbol element zero size restored_parity column t ≡ shard_symbol element zero size whole_parity column t)
    come column inside =
        done.restored column inside (shard_symbol element zero size whole column) (shard_symbol element zero size whole_parity column)
        (coded column inside)
        (λ i below here.
        let first : i ≡ 0 + i = omega arith in
        agree column i inside below (subst (IsAtHand present) first here))
        (λ t below here. parity_agree column t inside below here)
