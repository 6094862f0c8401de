-- Elements as vectors: what one coefficient more makes of the coefficients so far.
use Rattle.std.proofs.Common.{◌≡◌, ◌≢◌, ℕ, suc, ◌+◌, ◌*◌, ◌-◌, ◌%◌, ◌^◌, ◌<◌, ◌≤◌, refl, sym, ◌∙◌, ap, ap₂, arith, List, [], ◌∷◌, ◌++◌, length, map, Option, Some, subst, take, get_or, replicate, set}
use Rattle.std.proofs.lemmas.Nat.{pow_pos}
use native.Mathlib.Nat.{mul-add, mul-add-mod_self_left, mod-eq_of_lt, mul-suc, mul-zero}
use native.Mathlib.Numerals.{add-one}
use Rattle.std.proofs.Math.Pow.{pow_mono}
use Rattle.std.proofs.Math.Seq.{take-suc}
use Rattle.std.proofs.lemmas.Grind.{flat_map-append}
use Rattle.std.proofs.lemmas.List.{append-nil, append_assoc, length-append, length-replicate, length-set, map-append, take_all, take_more_set}
use Rattle.std.specs.List.{flat_map}
use Rattle.std.specs.Iterator.{Yields}
use Rattle.std.specs.Array.{FillsFrom}
use Rattle.field_base.specs.Chunks.{chunk, chunks}
use Rattle.field_base.proofs.Calls.{fills_more}
use Rattle.field_base.proofs.ChunkLists.{chunks-more, chunks-next, chunks-none, more-lt, none_pushed, put-lt}

-- so that it fits the space
pub put_fits : (whole width dimension i a c x : ℕ) → whole ≡ width * dimension → i < dimension → x < 2 ^ (width * i) → c < 2 ^ width
    → a ≡ c * 2 ^ (width * i) + x → a < 2 ^ whole
put_fits whole width dimension i a c x bits place low fits is =
    let split : dimension ≡ suc i + (dimension - suc i) = omega (arith, place) in
    let wide : whole ≡ width * suc i + width * (dimension - suc i) =
    bits ∙ ap (λ (k : ℕ). width * k) split ∙ mul-add width (suc i) (dimension - suc i) in
    let more : width * suc i ≤ whole = omega (arith, wide) in
    let grows : 2 ^ (width * suc i) ≤ 2 ^ whole = pow_mono {i = width * suc i} {j = whole} more in
    omega (arith, put-lt width i a c x low fits is, grows)

-- ---- calls that give the coefficients one after the other

-- the calls of an iterator, which know no index
pub fills-yields : {S A : Type 0} (next_gives : S → Option A → S → Type 0) (s : S) (i : ℕ) (xs : List A) (t : S)
    → FillsFrom (λ p k x q. next_gives p (Some x) q) s i xs t → Yields next_gives s xs t
fills-yields next_gives s i [] t same = same
fills-yields next_gives s i (x ∷ xs) t fills = (fills.0, fills.1, fills-yields next_gives fills.0 (i + 1) xs t fills.2)

-- the element of the coefficients so far, from the state `start` to the state `now`
pub record Coefficients {S A : Type 0} (width : ℕ) (repr : A → ℕ) (step : S → ℕ → A → S → Type 0) (start : S) (i element : ℕ) (now : S)
    : Type 0 where
  pub below : element < 2 ^ (width * i)
  pub taken : List A
  pub fills : FillsFrom step start 0 taken now
  pub long : length taken ≡ i
  pub are : map repr taken ≡ chunks width i element

module _ {S A : Type 0} (width : ℕ) (repr : A → ℕ) (step : S → ℕ → A → S → Type 0) (start : S) where
  -- before the first call
  pub no_coefficients : {E : Type 0} (of : E → ℕ) (none element : E) → element ≡ none → of none ≡ 0 → Coefficients width repr step start 0 (of element) start
  no_coefficients of none element is nothing = record {
    below = subst (λ (n : ℕ). n < 2 ^ (width * 0)) (sym (ap of is ∙ nothing)) (pow_pos (width * 0));
    taken = [];
    fills = refl;
    long = refl;
    are = sym (chunks-none width (of element));
  }

  -- the element has no bit where the next coefficient goes
  pub element_below : (i element : ℕ) (now : S) → Coefficients width repr step start i element now → element < 2 ^ (width * i)
  element_below i element now begun = begun.below

  -- one more coefficient is put in its place
  pub more_coefficients : (i x a : ℕ) (now next : S) (c : A) → Coefficients width repr step start i x now
      → repr c < 2 ^ width → step now i c next → a ≡ repr c * 2 ^ (width * i) + x
      → Coefficients width repr step start (i + 1) a next
  more_coefficients i x a now next c begun fits called is = record {
    below = more-lt width i a (repr c) x begun.below fits is;
    taken = begun.taken ++ c ∷ [];
    fills = fills_more step start 0 begun.taken now next c i (omega (arith, begun.long)) begun.fills called;
    long = length-append begun.taken (c ∷ []) ∙ ap (λ (n : ℕ). n + 1) begun.long;
    are = map-append repr begun.taken (c ∷ []) ∙ ap (λ ys. ys ++ repr c ∷ []) begun.are
        ∙ sym (chunks-more width i a (repr c) x begun.below fits is);
  }

-- one item more than the index says
pub one_item_more : {S A : Type 0} (next_gives : S → Option A → S → Type 0) (s t u : S) (i : ℕ) (xs : List A) (x : A) (n : ℕ)
    → FillsFrom (λ p k y q. next_gives p (Some y) q) s i xs t → next_gives t (Some x) u → length xs ≡ n
    → (ys : List A) × Yields next_gives s ys u × (length ys ≡ suc n)
one_item_more next_gives s t u i xs x n fills last long = (
  xs ++ x ∷ [],
  fills-yields next_gives s i (xs ++ x ∷ []) u (fills_more (λ p k y q. next_gives p (Some y) q) s i xs t u x _ refl fills last),
  length-append xs (x ∷ []) ∙ add-one (length xs) ∙ ap suc long,
)

-- the representations of one element more of a list
pub map_next : {A : Type 0} (repr : A → ℕ) (xs : List A) (k : ℕ) (x : A) → k < length xs → x ≡ get_or xs k x
    → map repr (take (k + 1) xs) ≡ map repr (take k xs) ++ repr x ∷ []
map_next repr xs k x within is =
    ap (λ (n : ℕ). map repr (take n xs)) (add-one k)
    ∙ ap (map repr) (take-suc xs k x within ∙ ap (λ y. take k xs ++ y ∷ []) (sym is)) ∙ map-append repr (take k xs) (x ∷ [])

-- ---- elements that are made of a list of coefficients

module _ {E : Type 0} (width dimension : ℕ) (repr : E → ℕ) where
  -- the coefficients of one element
  abbrev of_element : E → List ℕ
  of_element y = chunks width dimension (repr y)

  -- the coefficients so far are those of whole elements and the first i of one that is being made
  pub record Joining (elements : List E) (i element place : ℕ) (coefficients : List ℕ) : Type 0 where
    pub begun : i < dimension
    pub below : element < 2 ^ (width * i)
    pub whole : place ≡ dimension * length elements + i
    pub items : flat_map (λ x. chunks width dimension (repr x)) elements ++ chunks width i element ≡ coefficients

  -- before the first coefficient
  pub joining_start : (elements : List E) (element : ℕ) → 0 < dimension → elements ≡ [] → element ≡ 0 → Joining elements 0 element 0 []
  joining_start elements element wide none nothing = record {
    begun = wide;
    below = subst (λ (n : ℕ). n < 2 ^ (width * 0)) (sym nothing) (pow_pos (width * 0));
    whole = sym (ap (λ es. dimension * length es + 0) none ∙ ap (λ (n : ℕ). n + 0) (mul-zero dimension));
    items = sym (none_pushed width element _) ∙ ap (flat_map (λ x. chunks width dimension (repr x))) none;
  }

  -- a coefficient more of the element that is being built
  joined : (elements : List E) (i x a c place : ℕ) (coefficients more : List ℕ) → Joining elements i x place coefficients
      → c < 2 ^ width → a ≡ c * 2 ^ (width * i) + x → more ≡ coefficients ++ c ∷ []
      → flat_map (λ y. chunks width dimension (repr y)) elements ++ chunks width (i + 1) a ≡ more
  joined elements i x a c place coefficients more state fits is longer =
      ap (λ ys. flat_map (λ y. chunks width dimension (repr y)) elements ++ ys) (chunks-more width i a c x state.below fits is)
      ∙ sym (append_assoc (flat_map (λ y. chunks width dimension (repr y)) elements) (chunks width i x) (c ∷ []))
      ∙ ap (λ ys. ys ++ c ∷ []) state.items ∙ sym longer

  -- and the element is not whole yet
  pub joining_more : (elements : List E) (i x a c place : ℕ) (coefficients more : List ℕ) → Joining elements i x place coefficients
      → c < 2 ^ width → a ≡ c * 2 ^ (width * i) + x → more ≡ coefficients ++ c ∷ [] → i + 1 ≢ dimension
      → Joining elements (i + 1) a (place + 1) more
  joining_more elements i x a c place coefficients more state fits is longer other = record {
    begun = omega (arith, other, state.begun);
    below = more-lt width i a c x state.below fits is;
    whole = omega (arith, state.whole);
    items = joined elements i x a c place coefficients more state fits is longer;
  }

  -- or it is whole, and joins the elements
  pub joining_whole : (elements new : List E) (e : E) (i x a c zeros place : ℕ) (coefficients more : List ℕ)
      → Joining elements i x place coefficients → c < 2 ^ width → a ≡ c * 2 ^ (width * i) + x → more ≡ coefficients ++ c ∷ []
      → i + 1 ≡ dimension → new ≡ elements ++ e ∷ [] → repr e ≡ a → zeros ≡ 0 → 0 < dimension
      → Joining new 0 zeros (place + 1) more
  joining_whole elements new e i x a c zeros place coefficients more state fits is longer full pushes made nothing wide =
      let longer_by : length new ≡ suc (length elements) =
      ap length pushes ∙ length-append elements (e ∷ []) ∙ add-one (length elements) in
      let size : dimension * length new ≡ dimension * length elements + dimension =
      ap (λ (n : ℕ). dimension * n) longer_by ∙ mul-suc dimension (length elements) ∙ omega arith in
      record {
        begun = wide;
        below = subst (λ (n : ℕ). n < 2 ^ (width * 0)) (sym nothing) (pow_pos (width * 0));
        whole = omega (arith, state.whole, full, size);
        items = sym (none_pushed width zeros (flat_map of_element new)) ∙ ap (flat_map of_element) pushes ∙ flat_map-append of_element elements (e ∷ [])
            ∙ ap (λ ys. flat_map of_element elements ++ ys) (append-nil (of_element e) ∙ ap₂ (chunks width) (sym full) made)
            ∙ joined elements i x a c place coefficients more state fits is longer;
      }

  -- at the end of a whole number of elements all are joined
  pub joining_end : (elements : List E) (i x place : ℕ) (coefficients : List ℕ) → Joining elements i x place coefficients
      → place % dimension ≡ 0 → flat_map (λ y. chunks width dimension (repr y)) elements ≡ coefficients
  joining_end elements i x place coefficients state divides =
      let none : i ≡ 0 =
      sym (mod-eq_of_lt state.begun) ∙ sym (mul-add-mod_self_left dimension (length elements) i)
      ∙ ap (λ (n : ℕ). n % dimension) (sym state.whole) ∙ divides in
      none_pushed width x (flat_map (λ y. chunks width dimension (repr y)) elements)
      ∙ ap (λ (k : ℕ). flat_map (λ y. chunks width dimension (repr y)) elements ++ chunks width k x) (sym none) ∙ state.items

-- ---- the coefficients of an element, written to an array

pub record ListedSoFar {A : Type 0} (width : ℕ) (repr : A → ℕ) (element n i : ℕ) (written : List A) : Type 0 where
  pub as_long : length written ≡ n
  pub are : map repr (take i written) ≡ chunks width i element

-- before the first place is written
pub none_written : {A : Type 0} (width : ℕ) (repr : A → ℕ) (element n : ℕ) (none : A) → ListedSoFar width repr element n 0 (replicate n none)
none_written width repr element n none = record {
  as_long = length-replicate n none;
  are = sym (chunks-none width element);
}

-- one more place is written
pub one_written : {A : Type 0} (width : ℕ) (repr : A → ℕ) (element n i : ℕ) (written : List A) (x : A) → i < n
    → ListedSoFar width repr element n i written → repr x ≡ chunk width i element
    → ListedSoFar width repr element n (i + 1) (set written i x)
one_written width repr element n i written x more so_far is =
    let long = so_far.as_long in
    record {
      as_long = length-set written i x ∙ so_far.as_long;
      are =
          ap (map repr) (take_more_set written i x (omega (arith, long)))
          ∙ map-append repr (take i written) (x ∷ [])
          ∙ ap₂ (λ xs y. xs ++ y ∷ []) so_far.are is
          ∙ sym (chunks-next width i element);
    }

-- all places are written
pub all_written : {A : Type 0} (width : ℕ) (repr : A → ℕ) (element n i : ℕ) (written : List A) → n ≤ i → i ≤ n
    → ListedSoFar width repr element n i written → map repr written ≡ chunks width n element
all_written width repr element n i written past within so_far =
    let end : i ≡ n = omega (arith, past, within) in
    let long = so_far.as_long in
    ap (map repr) (sym (take_all i written (omega (arith, long, past))))
    ∙ so_far.are ∙ ap (λ (k : ℕ). chunks width k element) end
