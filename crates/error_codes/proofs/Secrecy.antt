-- Any k shares restore a secret, and k - 1 hide it.
use Rattle.std.proofs.Common.{◌≡◌, ℕ, zero, suc, ◌+◌, ◌-◌, ◌*◌, ◌/◌, ◌%◌, ◌^◌, ◌<◌, inl, inr, List, ◌∷◌, length, map, refl, sym, ◌∙◌, ap, ap₂, subst, arith, lit<}
use Rattle.std.specs.List.{range_with_len}
use Rattle.std.specs.Prelude.{bit_xor, nat_eq, not, slice_index}
use Rattle.std.proofs.lemmas.Bool.{cases_lt}
use Rattle.std.proofs.lemmas.List.{ext_get_or, get_or_past}
use Rattle.std.proofs.lemmas.List.FromFn.{get_or-map-range_with_len, length-map-range_with_len}
use Rattle.std.proofs.lemmas.Nat.{div-add-mod', div-mul-add, div_below, mod-mul-add, mul-add-lt}
use native.Mathlib.Nat.{mod-lt}
use lib.Bits.{xor_zero_r}
use Rattle.field_base.specs.PolynomialRoots.{AreDistinctBelow}
use Rattle.field_base.specs.Powers.{value_of}
use Rattle.field_base.proofs.Horner.{value_of-cons}
use Rattle.field_base.proofs.RingLemmas.{times-zero}
use Rattle.error_codes.specs.Secrets.{SharesSecret}
use Rattle.error_codes.proofs.FewerShares.{fewer_shares_are_counted}
use Rattle.error_codes.proofs.Meanings.{marks-same}
use Rattle.error_codes.proofs.Secrets.{shares_hide_secret}
use Rattle.reed_solomon.specs.ByteFields.{byte_times}
use Rattle.error_codes.specs.Refusals.{AreDistinct, AreNonzero}
use Rattle.error_codes.specs.Secrecy.{FitBytes, ByteSharesAreCounted, ChangedSharesAreFound, GiveShares, SharesHideString, SplitSharesCombine, is_changed_share}
use Rattle.error_codes.specs.Sharing.{IsThrough, bytes_at, coefficients, share_at, share_byte}
use Rattle.error_codes.specs.Wrong.{is_wrong_byte, is_wrong_share}
use Rattle.reed_solomon.specs.declared.byte_field.ByteField.{ByteField}
use Rattle.reed_solomon.proofs.ByteFields.{bytes_are_fields}

row-at : (size count : ℕ) (rows : List ℕ) (j i : ℕ) → i < count → slice_index (bytes_at size count rows j) i ≡ slice_index rows (i * size + j)
row-at size count rows j i within = get_or-map-range_with_len (λ n. slice_index rows (n * size + j)) 0 count i i 0 within (omega arith)

row-count : (size count : ℕ) (rows : List ℕ) (j : ℕ) → length (bytes_at size count rows j) ≡ count
row-count size count rows j = length-map-range_with_len (λ n. slice_index rows (n * size + j)) 0 count

-- a place in rows
inside-rows : (size count i j : ℕ) → i < count → j < size → i * size + j < count * size
inside-rows size count i j within inside = let place = mul-add-lt i size j count within inside in omega (arith, place)

-- which has rows of some bytes
positive : (size count p : ℕ) → p < count * size → 0 < size
positive zero count p below = absurd (omega (arith, below))
positive (suc n) count p below = omega arith

-- ---- what shares combine to

-- the value at 0 is the lowest coefficient
value-at_zero : (field : ByteField) (c : ℕ) (cs : List ℕ) → c < 2 ^ 8 → value_of 1 (byte_times field) (λ d. d) (c ∷ cs) 0 ≡ c
value-at_zero field c cs fits =
    value_of-cons 8 1 (byte_times field) (bytes_are_fields field).ring (λ d. d) 0 c cs fits
    ∙ ap (bit_xor c) (times-zero 8 1 (byte_times field) (bytes_are_fields field).ring (value_of 1 (byte_times field) (λ d. d) cs 0)) ∙ xor_zero_r c

pub split_shares_combine : SplitSharesCombine
split_shares_combine field others count secret draws shares indexes chosen restored fits split enough nonzero most choice = (
  λ j inside. (coefficients others secret draws j, through j inside),
  λ long combined.
      ext_get_or 0 restored secret long
      (λ j below.
      combined j (coefficients others secret draws j) below
      (subst (λ (n : ℕ). IsThrough field (others + 1) (length indexes) (slice_index indexes) (share_at n chosen j) (coefficients others secret draws j))
      (sym long) (through j (omega (arith, below, long))))
      ∙ value-at_zero field (slice_index secret j) (bytes_at (length secret) others draws j) (fits j)),
)
  where
    before : (i : ℕ) → i < length indexes → slice_index indexes i - 1 < count
    before i within = let some = nonzero i within in let last = most i within in omega (arith, some, last)

    again : (i : ℕ) → i < length indexes → slice_index indexes i - 1 + 1 ≡ slice_index indexes i
    again i within = let some = nonzero i within in omega (arith, some)

    through : (j : ℕ) → j < length secret
        → IsThrough field (others + 1) (length indexes) (slice_index indexes) (share_at (length secret) chosen j) (coefficients others secret draws j)
    through j inside = record {
      coefficient_count = let rows = row-count (length secret) others draws j in omega (arith, rows);
      at_points = λ i within.
          ap (λ (x : ℕ). share_byte field others secret draws x j) (sym (again i within)) ∙ sym (split (slice_index indexes i - 1) j (before i within) inside)
          ∙ sym (choice i j within inside);
    }

-- the shares that are changed are wrong for the polynomials of the secret, and no others
pub changed_shares_are_found : ChangedSharesAreFound
changed_shares_are_found field others count secret draws shares indexes chosen fits split nonzero most few = (
  record {
    coefficient_count = λ j inside. let rows = row-count (length secret) others draws j in omega (arith, rows);
    few_wrong =
        let same = marks-same (is_wrong_share field indexes (length secret) chosen (coefficients others secret draws))
        (is_changed_share (length secret) shares indexes chosen) (length indexes) each in
        omega (arith, few, same);
  },
  each,
  λ j inside. value-at_zero field (slice_index secret j) (bytes_at (length secret) others draws j) (fits j),
)
  where
    before : (i : ℕ) → i < length indexes → slice_index indexes i - 1 < count
    before i within = let some = nonzero i within in let last = most i within in omega (arith, some, last)

    again : (i : ℕ) → i < length indexes → slice_index indexes i - 1 + 1 ≡ slice_index indexes i
    again i within = let some = nonzero i within in omega (arith, some)

    given_byte : (i j : ℕ) → i < length indexes → j < length secret
        → share_byte field others secret draws (slice_index indexes i) j ≡ share_at (length secret) shares j (slice_index indexes i - 1)
    given_byte i j within inside =
        ap (λ (x : ℕ). share_byte field others secret draws x j) (sym (again i within))
        ∙ sym (split (slice_index indexes i - 1) j (before i within) inside)

    each : (i : ℕ) → i < length indexes
        → is_wrong_share field indexes (length secret) chosen (coefficients others secret draws) i
        ≡ is_changed_share (length secret) shares indexes chosen i
    each i within =
        ap (λ (m : ℕ). not (nat_eq m 0))
        (marks-same (is_wrong_byte field indexes (length secret) chosen (coefficients others secret draws) i)
        (λ j. not (nat_eq (share_at (length secret) chosen j i) (share_at (length secret) shares j (slice_index indexes i - 1)))) (length secret)
        (λ j inside. ap (λ (byte : ℕ). not (nat_eq (share_at (length secret) chosen j i) byte)) (given_byte i j within inside)))

-- ---- what they hide

module _ (field : ByteField) (others : ℕ) (indexes secret shares : List ℕ) (count : length indexes ≡ others)
    (nonzero : AreNonzero indexes) (distinct : AreDistinct indexes) (secret_fits : FitBytes secret) (shares_fit : FitBytes shares) where
  points : AreDistinctBelow others (2 ^ 8) (slice_index indexes)
  points = subst (λ (n : ℕ). AreDistinctBelow n (2 ^ 8) (slice_index indexes)) count distinct

  Given : ℕ → Type 0
  Given j = (cs : List ℕ) × SharesSecret 8 (byte_times field) others (slice_index indexes) (share_at (length secret) shares j) (slice_index secret j) cs
      × ((ds : List ℕ)
      → SharesSecret 8 (byte_times field) others (slice_index indexes) (share_at (length secret) shares j) (slice_index secret j) ds → ds ≡ cs)

  -- the coefficients for byte j
  given : (j : ℕ) → Given j
  unfolding Given
  given j =
      shares_hide_secret 8 (byte_times field) (lit< tt) (bytes_are_fields field) others (slice_index indexes) (share_at (length secret) shares j) points
      (λ i below. nonzero i (omega (arith, below, count))) (λ i below. shares_fit (i * length secret + j)) (slice_index secret j) (secret_fits j)

  list : ℕ → List ℕ
  unfolding Given
  list j = (given j).0

  has : (j : ℕ) → SharesSecret 8 (byte_times field) others (slice_index indexes) (share_at (length secret) shares j) (slice_index secret j) (list j)
  unfolding Given list
  has j = (given j).1

  only : (j : ℕ) (ds : List ℕ)
      → SharesSecret 8 (byte_times field) others (slice_index indexes) (share_at (length secret) shares j) (slice_index secret j) ds → ds ≡ list j
  unfolding Given list
  only j = (given j).2

  -- the drawn bytes
  entry : ℕ → ℕ
  entry p = slice_index (list (p % length secret)) (suc (p / length secret))

  made : List ℕ
  made = map entry (range_with_len 0 (others * length secret))

  made-count : length made ≡ others * length secret
  unfolding made
  made-count = length-map-range_with_len entry 0 (others * length secret)

  made-at : (p : ℕ) → p < others * length secret → slice_index made p ≡ entry p
  unfolding made
  made-at p below = get_or-map-range_with_len entry 0 (others * length secret) p p 0 below (omega arith)

  entry-at : (i j : ℕ) → j < length secret → entry (i * length secret + j) ≡ slice_index (list j) (suc i)
  unfolding entry
  entry-at i j inside =
      ap₂ (λ (m n : ℕ). slice_index (list m) (suc n)) (mod-mul-add i (length secret) j inside) (div-mul-add i (length secret) j inside)

  -- the polynomials that they make are those
  makes : (j : ℕ) → j < length secret → coefficients others secret made j ≡ list j
  makes j inside =
      ext_get_or 0 (coefficients others secret made j) (list j) (let rows = row-count (length secret) others made j in let wanted = (has j).count in omega (arith, rows, wanted))
      each
    where
      each : (i : ℕ) → i < length (coefficients others secret made j) → slice_index (coefficients others secret made j) i ≡ slice_index (list j) i
      each zero below = sym (has j).is_secret
      each (suc i) below =
          let within : i < others = (let rows = row-count (length secret) others made j in omega (arith, rows, below)) in
          row-at (length secret) others made j i within
          ∙ made-at (i * length secret + j) (inside-rows (length secret) others i j within inside) ∙ entry-at i j inside

  entry-fits : (p : ℕ) → p < others * length secret → entry p < 2 ^ 8
  unfolding entry
  entry-fits p below =
      (has (p % length secret)).fits (suc (p / length secret))
      (let row = div_below p (length secret) others (positive (length secret) others p below) below in
      let wanted = (has (p % length secret)).count in omega (arith, row, wanted))

  -- they are bytes, and so is the 0 behind them
  made-fits : FitBytes made
  made-fits p = elim (cases_lt p (others * length secret)) [
    | inl below ↦ subst (λ (z : ℕ). z < 2 ^ 8) (sym (made-at p below)) (entry-fits p below)
    | inr past ↦ subst (λ (z : ℕ). z < 2 ^ 8) (sym (get_or_past made p 0 (let long = made-count in omega (arith, past, long)))) (lit< tt)
  ]

  gives : GiveShares field others indexes secret shares made
  gives = record {
    count = made-count;
    fits = made-fits;
    at_shares = λ i j within inside.
        ap (λ (cs : List ℕ). value_of 1 (byte_times field) (λ c. c) cs (slice_index indexes i)) (makes j inside) ∙ (has j).shares i within;
  }

  -- and there are no others
  module _ (other : List ℕ) (other_gives : GiveShares field others indexes secret shares other) where
    shared : (j : ℕ) → j < length secret
        → SharesSecret 8 (byte_times field) others (slice_index indexes) (share_at (length secret) shares j) (slice_index secret j) (coefficients others secret other j)
    shared j inside = record {
      count = ap suc (row-count (length secret) others other j);
      fits = each;
      is_secret = refl;
      shares = λ i within. other_gives.at_shares i j within inside;
    }
      where
        each : (i : ℕ) → i < length (coefficients others secret other j) → slice_index (coefficients others secret other j) i < 2 ^ 8
        each zero below = secret_fits j
        each (suc i) below =
            let within : i < others = (let rows = row-count (length secret) others other j in omega (arith, rows, below)) in
            subst (λ (z : ℕ). z < 2 ^ 8) (sym (row-at (length secret) others other j i within)) (other_gives.fits (i * length secret + j))

    other-at : (i j : ℕ) → i < others → j < length secret → slice_index other (i * length secret + j) ≡ slice_index (list j) (suc i)
    other-at i j within inside =
        sym (row-at (length secret) others other j i within)
        ∙ ap (λ (cs : List ℕ). slice_index cs (suc i)) (only j (coefficients others secret other j) (shared j inside))

    same : other ≡ made
    unfolding entry
    same =
        ext_get_or 0 other made (other_gives.count ∙ sym made-count)
        (λ p below. each p (let count = other_gives.count in omega (arith, below, count)))
      where
        each : (p : ℕ) → p < others * length secret → slice_index other p ≡ slice_index made p
        each p below =
            let wide : 0 < length secret = positive (length secret) others p below in
            sym (ap (slice_index other) (div-add-mod' p (length secret)))
            ∙ other-at (p / length secret) (p % length secret) (div_below p (length secret) others wide below) (mod-lt p wide)
            ∙ sym (made-at p below)

  pub hides : (draws : List ℕ) × GiveShares field others indexes secret shares draws
      × ((other : List ℕ) → GiveShares field others indexes secret shares other → other ≡ draws)
  hides = (made, gives, same)

pub shares_hide_string : SharesHideString
shares_hide_string field = hides field

pub byte_shares_are_counted : ByteSharesAreCounted
byte_shares_are_counted field others more known indexes share sum count nonzero distinct fits secret secret_fits =
    fewer_shares_are_counted 8 (byte_times field) (lit< tt) (bytes_are_fields field) others more known (slice_index indexes) share sum
    (subst (λ (n : ℕ). AreDistinctBelow n (2 ^ 8) (slice_index indexes)) count distinct)
    (λ i below. nonzero i (omega (arith, below, count))) fits secret secret_fits
