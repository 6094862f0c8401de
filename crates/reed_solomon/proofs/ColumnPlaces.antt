-- Places of strips among the words of shards, and rows that are put there one after the other.
use Rattle.std.proofs.Common.{◌≡◌, ◌≢◌, ◌⊎◌, inl, inr, ℕ, ◌+◌, ◌-◌, ◌*◌, ◌<◌, ◌≤◌, ◌++◌, Bool, List, length, get_or, set, take, drop, sym, ◌∙◌, ap, subst, arith, below_more, mul-le-mul_right}
use Rattle.std.proofs.lemmas.Bool.{cases_lt}
use Rattle.std.proofs.lemmas.List.{get_or-append-add, get_or_append_left, get_or-drop, get_or-set_other, get_or-set_same, get_or-take, length-drop, length-take-le}
use borrow.Rule.Slice.PartMut.{put_mid}
use Rattle.field_base.specs.Tower.{tower_mul}
use Rattle.reed_solomon.specs.Columns.{ArePutWords, ArePutProducts, AreRowProducts, AreScattered, HoldStrip, IsOutside}
use lib.Arith.{digits_lt}

-- words that are copied into a part of a list, with those before it and behind it as they were
pub part_copied : (W : Type 0) (zero : W) (place from count gap cut : ℕ) (old source part : List W) → gap ≡ count → cut ≡ count
    → place + count ≤ length old → from + count ≤ length source → part ≡ take cut (drop from source)
    → ArePutWords zero place count (λ c. get_or source (from + c) zero) old (put_mid place gap old part)
part_copied W zero place from count gap cut old source part gap_is cut_is room enough part_is =
    record {
      written = λ c below.
          ap (λ (n : ℕ). get_or whole (n + c) zero) (sym before) ∙ get_or-append-add (take place old) (part ++ drop gap (drop place old)) c zero
          ∙ get_or_append_left part (drop gap (drop place old)) zero c (omega (arith, below, long)) ∙ ap (λ (l : List W). get_or l c zero) part_is
          ∙ get_or-take cut (drop from source) c zero (omega (arith, below, cut_is)) ∙ get_or-drop from source c zero;
      kept = λ p side.
          elim side [
            | inl low ↦ get_or_append_left (take place old) (part ++ drop gap (drop place old)) zero p (omega (arith, low, before))
                ∙ get_or-take place old p zero low
            | inr high ↦ behind p high
          ];
    }
  where
    whole : List W
    whole = put_mid place gap old part

    before : length (take place old) ≡ place
    before = length-take-le place old (omega (arith, room))

    long : length part ≡ count
    long =
        let rest = length-drop from source in
        ap (λ (l : List W). length l) part_is ∙ length-take-le cut (drop from source) (omega (arith, rest, enough, cut_is)) ∙ cut_is

    behind : (p : ℕ) → place + count ≤ p → get_or whole p zero ≡ get_or old p zero
    behind p high =
        let far : p ≡ length (take place old) + (length part + (p - place - count)) = omega (arith, high, before, long) in
        let back : place + (gap + (p - place - count)) ≡ p = omega (arith, high, gap_is) in
        ap (λ (n : ℕ). get_or whole n zero) far
        ∙ get_or-append-add (take place old) (part ++ drop gap (drop place old)) (length part + (p - place - count)) zero
        ∙ get_or-append-add part (drop gap (drop place old)) (p - place - count) zero ∙ get_or-drop gap (drop place old) (p - place - count) zero
        ∙ get_or-drop place old (gap + (p - place - count)) zero ∙ ap (λ (n : ℕ). get_or old n zero) back

-- a strip of a shard ends within the shards
pub strip_within : (size count i start width : ℕ) → i < count → start + width ≤ size → i * size + start + width ≤ count * size
strip_within size count i start width within inside =
    let rows : (i + 1) * size ≤ count * size = mul-le-mul_right size (omega (arith, within)) in
    let next : (i + 1) * size ≡ i * size + size = omega arith in
    omega (arith, rows, next, inside)

-- a word of another shard or another column lies before a strip of shard j, or behind it
pub apart : (size start width j i c : ℕ) → c < size → start + width ≤ size → (IsOutside start width c) ⊎ (i ≢ j)
    → (i * size + c < j * size + start) ⊎ (j * size + start + width ≤ i * size + c)
apart size start width j i c c_below inside side =
    elim (cases_lt i j) [
      | inl early ↦ let below = digits_lt early c_below in inl (omega (arith, below))
      | inr late ↦ elim (cases_lt j i) [
        | inl later ↦ let ends = strip_within size i j start width later inside in inr (omega (arith, ends))
        | inr reached ↦ here (omega (arith, late, reached)) side
      ]
    ]
  where
    here : i ≡ j → (IsOutside start width c) ⊎ (i ≢ j) → (i * size + c < j * size + start) ⊎ (j * size + start + width ≤ i * size + c)
    here equal (inl (inl before)) = let at : i * size ≡ j * size = ap (λ (k : ℕ). k * size) equal in inl (omega (arith, at, before))
    here equal (inl (inr behind)) = let at : i * size ≡ j * size = ap (λ (k : ℕ). k * size) equal in inr (omega (arith, at, behind))
    here equal (inr differ) = absurd (differ equal)

-- what holds of the columns so far, and of those of a strip, holds of all these
pub columns_more : (start width : ℕ) (holds : ℕ → Type 0) → ((column : ℕ) → column < start → holds column)
    → ((c : ℕ) → c < width → holds (start + c)) → (column : ℕ) → column < start + width → holds column
columns_more start width holds before strip column below =
    elim (cases_lt column start) [
      | inl early ↦ before column early
      | inr late ↦
          let place : start + (column - start) ≡ column = omega (arith, late) in
          subst holds place (strip (column - start) (omega (arith, below, late)))
    ]

-- ---- words of one row

module _ {W : Type 0} (zero : W) (place c : ℕ) (old now : List W) (v : W) (within : place + c < length now) where
  other : (p : ℕ) → (p < place) ⊎ (place + (c + 1) ≤ p) → p ≢ place + c
  other p (inl early) same = absurd (omega (arith, early, same))
  other p (inr late) same = absurd (omega (arith, late, same))

  weaker : (p : ℕ) → (p < place) ⊎ (place + (c + 1) ≤ p) → (p < place) ⊎ (place + c ≤ p)
  weaker p (inl early) = inl early
  weaker p (inr late) = inr (omega (arith, late))

  before_it : (s : ℕ) → s < c → place + s ≢ place + c
  before_it s below same = absurd (omega (arith, below, same))

  -- one more is put
  pub put_more : (word : ℕ → W) → v ≡ word c → ArePutWords zero place c word old now → ArePutWords zero place (c + 1) word old (set now (place + c) v)
  put_more word is before =
      record {
        written = below_more _ c
            (λ s below. get_or-set_other now (place + c) (place + s) v zero (before_it s below) ∙ before.written s below)
            (get_or-set_same now (place + c) v zero within ∙ is);
        kept = λ p side. get_or-set_other now (place + c) p v zero (other p side) ∙ before.kept p (weaker p side);
      }

  -- one more is multiplied
  pub product_more : (number : W → ℕ) (level factor : ℕ) → number v ≡ tower_mul level (number (get_or now (place + c) zero)) factor
      → ArePutProducts number zero level place c factor old now
      → ArePutProducts number zero level place (c + 1) factor old (set now (place + c) v)
  product_more number level factor is before =
      let reached : place + c ≤ place + c = omega arith in
      record {
        product = below_more _ c
            (λ s below. ap number (get_or-set_other now (place + c) (place + s) v zero (before_it s below)) ∙ before.product s below)
            (ap number (get_or-set_same now (place + c) v zero within) ∙ is
            ∙ ap (λ (w : W). tower_mul level (number w) factor) (before.kept (place + c) (inr reached)));
        kept = λ p side. get_or-set_other now (place + c) p v zero (other p side) ∙ before.kept p (weaker p side);
      }

-- ---- row after row

module _ {W : Type 0} (zero : W) (size start width : ℕ) where
  -- one more row is read
  pub gathered_more : (count i : ℕ) (word : ℕ → W) (shards old now : List W)
      → (i < count → (c : ℕ) → c < width → word c ≡ get_or shards (i * size + (start + c)) zero)
      → (count ≤ i → (c : ℕ) → c < width → word c ≡ zero)
      → ArePutWords zero (i * width) width word old now
      → HoldStrip zero count size start width shards i old
      → HoldStrip zero count size start width shards (i + 1) now
  gathered_more count i word shards old now read none put before j c below inside =
      elim (cases_lt j i) [
        | inl early ↦
            let kept = put.kept (j * width + c) (inl (digits_lt early inside)) in
            ((λ within. kept ∙ (before j c early inside).0 within), λ past. kept ∙ (before j c early inside).1 past)
        | inr late ↦
            let same : i ≡ j = omega (arith, below, late) in
            subst (λ (s : ℕ). (s < count → get_or now (s * width + c) zero ≡ get_or shards (s * size + (start + c)) zero)
            × (count ≤ s → get_or now (s * width + c) zero ≡ zero)) same
            ((λ within. put.written c inside ∙ read within c inside), λ past. put.written c inside ∙ none past c inside)
      ]

  -- one more row is written
  pub scattered_more : (first t : ℕ) (values old mid now : List W) → start + width ≤ size
      → ArePutWords zero ((first + t) * size + start) width (λ c. get_or values (t * width + c) zero) mid now
      → AreScattered zero size start width first t values old mid
      → AreScattered zero size start width first (t + 1) values old now
  scattered_more first t values old mid now inside put before =
      record {
        written = λ s c below in_row.
            elim (cases_lt s t) [
              | inl early ↦
                  let under = digits_lt {q = (first + s)} {m = (first + t)} {r = (start + c)} {c = size} (omega (arith, early)) (omega (arith, in_row, inside)) in
                  put.kept ((first + s) * size + (start + c)) (inl (omega (arith, under)))
                  ∙ before.written s c early in_row
              | inr late ↦
                  let same : t ≡ s = omega (arith, below, late) in
                  let place : (first + t) * size + (start + c) ≡ (first + t) * size + start + c = omega arith in
                  subst (λ (r : ℕ). get_or now ((first + r) * size + (start + c)) zero ≡ get_or values (r * width + c) zero) same
                  (ap (λ (p : ℕ). get_or now p zero) place ∙ put.written c in_row)
            ];
        kept = λ i c c_below side.
            put.kept (i * size + c) (apart size start width (first + t) i c c_below inside (differs i c side))
            ∙ before.kept i c c_below (fewer i c side);
      }
    where
      differs : (i c : ℕ) → (IsOutside start width c) ⊎ ((i < first) ⊎ (first + (t + 1) ≤ i)) → (IsOutside start width c) ⊎ (i ≢ first + t)
      differs i c (inl outside) = inl outside
      differs i c (inr (inl early)) = inr (λ same. absurd (omega (arith, early, same)))
      differs i c (inr (inr late)) = inr (λ same. absurd (omega (arith, late, same)))

      fewer : (i c : ℕ) → (IsOutside start width c) ⊎ ((i < first) ⊎ (first + (t + 1) ≤ i)) → (IsOutside start width c) ⊎ ((i < first) ⊎ (first + t ≤ i))
      fewer i c (inl outside) = inl outside
      fewer i c (inr (inl early)) = inr (inl early)
      fewer i c (inr (inr late)) = inr (inr (omega (arith, late)))

module _ {W : Type 0} (number : W → ℕ) (zero : W) (level width p : ℕ) (lost : ℕ → Bool) (which : Bool) (factors old mid now : List W)
    (before : AreRowProducts number zero level width p lost which factors old mid)
    (others_stay : (q : ℕ) → (q < p * width) ⊎ (p * width + width ≤ q) → get_or now q zero ≡ get_or mid q zero) where
  -- one more row has what it should, and the rows before it keep it
  rows_more : (lost p ≡ which → (c : ℕ) → c < width → number (get_or now (p * width + c) zero)
      ≡ tower_mul level (number (get_or old (p * width + c) zero)) (number (get_or factors p zero)))
      → (lost p ≢ which → (c : ℕ) → c < width → get_or now (p * width + c) zero ≡ zero)
      → AreRowProducts number zero level width (p + 1) lost which factors old now
  rows_more product nothing =
      record {
        product = λ q c below inside is.
            elim (cases_lt q p) [
              | inl early ↦ ap number (stays q c early inside) ∙ before.product q c early inside is
              | inr late ↦
                  let same : p ≡ q = omega (arith, below, late) in
                  subst (λ (s : ℕ). lost s ≡ which → number (get_or now (s * width + c) zero)
                  ≡ tower_mul level (number (get_or old (s * width + c) zero)) (number (get_or factors s zero))) same (λ own. product own c inside) is
            ];
        nothing = λ q c below inside is.
            elim (cases_lt q p) [
              | inl early ↦ stays q c early inside ∙ before.nothing q c early inside is
              | inr late ↦
                  let same : p ≡ q = omega (arith, below, late) in
                  subst (λ (s : ℕ). lost s ≢ which → get_or now (s * width + c) zero ≡ zero) same (λ own. nothing own c inside) is
            ];
      }
    where
      stays : (q c : ℕ) → q < p → c < width → get_or now (q * width + c) zero ≡ get_or mid (q * width + c) zero
      stays q c early inside = let under = digits_lt early inside in others_stay (q * width + c) (inl (omega (arith, under)))

  -- a row that is multiplied
  pub row_product_more : (factor : ℕ) → lost p ≡ which → factor ≡ number (get_or factors p zero)
      → ArePutProducts number zero level (p * width) width factor mid now
      → ((q : ℕ) → p * width ≤ q → get_or mid q zero ≡ get_or old q zero)
      → AreRowProducts number zero level width (p + 1) lost which factors old now
  row_product_more factor is factor_is put rest =
      rows_more
      (λ own c inside.
      put.product c inside
      ∙ ap (λ (w : W). tower_mul level (number w) factor) (rest (p * width + c) (omega arith))
      ∙ ap (tower_mul level (number (get_or old (p * width + c) zero))) factor_is)
      (λ not c inside. absurd (not is))

  -- one that is cleared
  pub row_cleared_more : lost p ≢ which → ArePutWords zero (p * width) width (λ c. zero) mid now
      → AreRowProducts number zero level width (p + 1) lost which factors old now
  row_cleared_more not put = rows_more (λ is c inside. absurd (not is)) (λ own c inside. put.written c inside)

  -- and those behind it are left
  pub row_rest_more : ((q : ℕ) → p * width ≤ q → get_or mid q zero ≡ get_or old q zero)
      → (q : ℕ) → (p + 1) * width ≤ q → get_or now q zero ≡ get_or old q zero
  row_rest_more rest q past =
      let next : (p + 1) * width ≡ p * width + width = omega arith in
      others_stay q (inr (omega (arith, past, next))) ∙ rest q (omega (arith, past, next))
