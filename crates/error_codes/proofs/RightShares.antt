-- The shares that are not marked, one after the other, and polynomials through them.
use Rattle.std.proofs.Common.{◌≡◌, ℕ, ◌+◌, ◌*◌, ◌^◌, ◌<◌, ◌≤◌, inl, inr, List, Bool, true, false, length, set, refl, sym, ◌∙◌, ap, subst, arith, below_more}
use Rattle.std.specs.Prelude.{slice_index}
use native.Mathlib.Nat.{mul-le-mul_right}
use Rattle.std.proofs.lemmas.Bool.{cases_lt}
use Rattle.std.proofs.lemmas.List.{get_or-set_other, get_or-set_same}
use Rattle.field_base.specs.PolynomialRoots.{AreDistinctBelow}
use Rattle.field_base.specs.Powers.{value_of}
use Rattle.field_slices.specs.Marks.{marked_below}
use Rattle.error_codes.proofs.Marking.{count-more, count-none, count-same}
use Rattle.reed_solomon.specs.ByteFields.{byte_times}
use Rattle.error_codes.specs.Sharing.{IsThrough, share_at}
use Rattle.error_codes.specs.Wrong.{AreUnmarked, RowsFit, IsThroughUnmarked, listed_share}
use Rattle.reed_solomon.specs.declared.byte_field.ByteField.{ByteField}

-- ---- the list grows

module _ (marked : ℕ → Bool) where
  pub unmarked-none : (places : List ℕ) → AreUnmarked marked 0 0 places
  unmarked-none places = record {
    all = let none = count-none marked in omega (arith, none);
    inside = λ p below. absurd (omega (arith, below));
    unmarked = λ p below. absurd (omega (arith, below));
    rising = λ p q less below. absurd (omega (arith, below));
    each = λ i below is. absurd (omega (arith, below));
  }

  module _ (n count : ℕ) (places : List ℕ) (are : AreUnmarked marked n count places) where
    last : (i : ℕ) → i < n + 1 → n ≤ i → n ≡ i
    last i below above = omega (arith, below, above)

    -- a marked place is passed over
    pub unmarked-same : marked n ≡ true → AreUnmarked marked (n + 1) count places
    unmarked-same is = record {
      all = let more = count-more marked n (marked_below marked n) is refl in let all = are.all in omega (arith, more, all);
      inside = λ p below. let within = are.inside p below in omega (arith, within);
      unmarked = are.unmarked;
      rising = are.rising;
      each = λ i below free. elim (cases_lt i n) [
        | inl earlier ↦ are.each i earlier free
        | inr later ↦ let both : true ≡ false = sym is ∙ ap marked (last i below later) ∙ free in absurd (cc)
      ];
    }

    -- another one is put behind those before
    pub unmarked-more : marked n ≡ false → count < length places → AreUnmarked marked (n + 1) (count + 1) (set places count n)
    unmarked-more is room = record {
      all = let same = count-same marked n (marked_below marked n) is refl in let all = are.all in omega (arith, same, all);
      inside = λ p below. elim (cases_lt p count) [
        | inl earlier ↦ let within = are.inside p earlier in let place = old p earlier in omega (arith, within, place)
        | inr later ↦ let place = new p below later in omega (arith, place)
      ];
      unmarked = λ p below. elim (cases_lt p count) [
        | inl earlier ↦ ap marked (old p earlier) ∙ are.unmarked p earlier
        | inr later ↦ ap marked (new p below later) ∙ is
      ];
      rising = λ p q less below.
          let first = old p (omega (arith, less, below)) in
          elim (cases_lt q count) [
            | inl earlier ↦ let rises = are.rising p q less earlier in let second = old q earlier in omega (arith, rises, first, second)
            | inr later ↦ let within = are.inside p (omega (arith, less, below)) in let second = new q below later in omega (arith, within, first, second)
          ];
      each = λ i below free. elim (cases_lt i n) [
        | inl earlier ↦ let found = are.each i earlier free in
            (found.0, omega (arith, found.1), old found.0 found.1 ∙ found.2)
        | inr later ↦ (count, omega arith, new count (omega arith) (omega arith) ∙ last i below later)
      ];
    }
      where
        old : (p : ℕ) → p < count → slice_index (set places count n) p ≡ slice_index places p
        old p earlier = get_or-set_other places count p n 0 (λ e. absurd (omega (arith, e, earlier)))

        same_place : (p : ℕ) → p < count + 1 → count ≤ p → p ≡ count
        same_place p below later = omega (arith, below, later)

        new : (p : ℕ) → p < count + 1 → count ≤ p → slice_index (set places count n) p ≡ n
        new p below later =
            ap (slice_index (set places count n)) (same_place p below later) ∙ get_or-set_same places count n 0 room

-- a loop's step: another place and its index
pub unmarked-next : (marked : ℕ → Bool) (n count place next : ℕ) (places more : List ℕ) → AreUnmarked marked n count places → marked n ≡ false
    → count < length places → next ≡ count + 1 → more ≡ set places count place → place ≡ n → AreUnmarked marked (n + 1) next more
unmarked-next marked n count place next places more are free room next_is more_is place_is =
    subst (λ (m : ℕ). AreUnmarked marked (n + 1) m more) (sym next_is)
    (subst (λ (list : List ℕ). AreUnmarked marked (n + 1) (count + 1) list) (ap (set places count) (sym place_is) ∙ sym more_is)
    (unmarked-more marked n count places are free room))

-- no place
pub unmarked-left : (marked : ℕ → Bool) (n count next : ℕ) (places more : List ℕ) → AreUnmarked marked n count places → marked n ≡ true
    → next ≡ count → more ≡ places → AreUnmarked marked (n + 1) next more
unmarked-left marked n count next places more are is next_is more_is =
    subst (λ (m : ℕ). AreUnmarked marked (n + 1) m more) (sym next_is)
    (subst (λ (list : List ℕ). AreUnmarked marked (n + 1) count list) (sym more_is) (unmarked-same marked n count places are is))

-- the index of the new place behind the others
pub own-more : (count place next index : ℕ) (places own more own_more indexes : List ℕ) → count < length places → count < length own
    → next ≡ count + 1 → more ≡ set places count place → own_more ≡ set own count index → index ≡ slice_index indexes place
    → ((p : ℕ) → p < count → slice_index own p ≡ slice_index indexes (slice_index places p))
    → (p : ℕ) → p < next → slice_index own_more p ≡ slice_index indexes (slice_index more p)
own-more count place next index places own more own_more indexes room own_room next_is more_is own_is is before p below =
    ap (λ (list : List ℕ). slice_index list p) own_is
    ∙ below_more (λ p. slice_index (set own count index) p ≡ slice_index indexes (slice_index (set places count place) p)) count
    (λ p earlier.
    get_or-set_other own count p index 0 (λ e. absurd (omega (arith, e, earlier))) ∙ before p earlier
    ∙ ap (slice_index indexes) (sym (get_or-set_other places count p place 0 (λ e. absurd (omega (arith, e, earlier))))))
    (get_or-set_same own count index 0 own_room ∙ is
    ∙ ap (slice_index indexes) (sym (get_or-set_same places count place 0 room)))
    p (omega (arith, below, next_is))
    ∙ ap (λ (list : List ℕ). slice_index indexes (slice_index list p)) (sym more_is)

-- ---- polynomials through the list

module _ (marked : ℕ → Bool) (n count : ℕ) (places own indexes : List ℕ) (are : AreUnmarked marked n count places)
    (own_are : (p : ℕ) → p < count → slice_index own p ≡ slice_index indexes (slice_index places p)) where
  -- no two places are one
  one-place : (p q : ℕ) → p < count → q < count → slice_index places p ≡ slice_index places q → p ≡ q
  one-place p q p_below q_below same =
      elim (cases_lt p q) [
        | inl less ↦ let rises = are.rising p q less q_below in absurd (omega (arith, rises, same))
        | inr other ↦ elim (cases_lt q p) [
          | inl more ↦ let rises = are.rising q p more p_below in absurd (omega (arith, rises, same))
          | inr equal ↦ omega (arith, other, equal)
        ]
      ]

  pub unmarked-distinct : AreDistinctBelow n (2 ^ 8) (slice_index indexes) → AreDistinctBelow count 256 (slice_index own)
  unmarked-distinct distinct = record {
    below = λ p inside. let fits = distinct.below (slice_index places p) (are.inside p inside) in let is = own_are p inside in omega (arith, fits, is);
    differ = λ p q p_below q_below same.
        one-place p q p_below q_below
        (distinct.differ (slice_index places p) (slice_index places q) (are.inside p p_below) (are.inside q q_below)
        (sym (own_are p p_below) ∙ same ∙ own_are q q_below));
  }

  pub unmarked-rows : (size bytes : ℕ) → bytes ≡ n * size → RowsFit size bytes count places
  unmarked-rows size bytes whole p below =
      let within = are.inside p below in
      let rows : (slice_index places p + 1) * size ≤ n * size = mul-le-mul_right size (next (slice_index places p) within) in
      omega (arith, rows, whole)
    where
      next : (a : ℕ) → a < n → a + 1 ≤ n
      next a below = omega (arith, below)

  module _ (field : ByteField) (k size j : ℕ) (shares cs : List ℕ) where
    -- through all of the list is through all that are not marked
    pub through-unmarked : IsThrough field k count (slice_index own) (listed_share size shares places j) cs
        → IsThroughUnmarked field k n (slice_index indexes) (share_at size shares j) marked cs
    through-unmarked through = record {
      coefficient_count = through.coefficient_count;
      at_points = λ i below free.
          let found = are.each i below free in
          ap (value_of 1 (byte_times field) (λ c. c) cs) (sym (own_are found.0 found.1 ∙ ap (slice_index indexes) found.2))
          ∙ through.at_points found.0 found.1 ∙ ap (share_at size shares j) found.2;
    }

    -- and the other way
    pub unmarked-through : IsThroughUnmarked field k n (slice_index indexes) (share_at size shares j) marked cs
        → IsThrough field k count (slice_index own) (listed_share size shares places j) cs
    unmarked-through through = record {
      coefficient_count = through.coefficient_count;
      at_points = λ p below.
          ap (value_of 1 (byte_times field) (λ c. c) cs) (own_are p below)
          ∙ through.at_points (slice_index places p) (are.inside p below) (are.unmarked p below);
    }
