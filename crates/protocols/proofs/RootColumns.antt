-- Openings of columns under one root, searched for one that has another column than an earlier one at its place.
use Rattle.std.proofs.Common.{◌≡◌, ◌≢◌, ◌⊎◌, inl, inr, ℕ, zero, suc, ◌%◌, ◌*◌, ◌^◌, ◌<◌, ◌≤◌, true, false, List, [], ◌∷◌, length, take, drop, refl, sym, ◌∙◌, ap, ap₂, subst, arith}
use Rattle.std.specs.Prelude.{nat_eq, slice_index}
use Rattle.std.proofs.lemmas.Bool.{cases_lt}
use Rattle.std.proofs.lemmas.Bool.Decides.{eqb_tells}
use Rattle.std.proofs.lemmas.Nat.{pow_pos}
use Rattle.field_bytes.specs.Bytes.{number_of_bytes}
use Rattle.field_bytes.specs.Streams.{joined_bytes}
use Rattle.field_bytes.proofs.Taking.{given_back}
use Rattle.transcripts.specs.Openings.{OpeningsBind}
use Rattle.protocols.specs.RootColumns.{AreAccepted, HasSent, HaveOtherColumns, RootsHoldColumns, SentColumns, column_bytes}
use Rattle.protocols.proofs.ProofBytes.{proof-first, proof-rest}

-- ---- searches

-- each of the first n is one thing, or some is another
each-or-one : (A B : ℕ → Type 0) (n : ℕ) → ((i : ℕ) → i < n → A i ⊎ B i) → ((i : ℕ) → i < n → A i) ⊎ ((i : ℕ) × (i < n) × B i)
each-or-one A B zero each = inl (λ i below. absurd (omega (arith, below)))
each-or-one A B (suc n) each = join (each-or-one A B n (λ i below. each i (omega (arith, below)))) (each n (omega arith))
  where
    join : ((i : ℕ) → i < n → A i) ⊎ ((i : ℕ) × (i < n) × B i) → A n ⊎ B n
        → ((i : ℕ) → i < suc n → A i) ⊎ ((i : ℕ) × (i < suc n) × B i)
    join (inr found) last = let lower = found.1 in inr (found.0, omega (arith, lower), found.2)
    join (inl all) (inr other) = inr (n, omega arith, other)
    join (inl all) (inl last) = inl (λ i below. pick i below (cases_lt i n))
      where
        pick : (i : ℕ) → i < suc n → (i < n) ⊎ (n ≤ i) → A i
        pick i below (inl lower) = all i lower
        pick i below (inr upper) = let end : n ≡ i = omega (arith, below, upper) in subst A end last

-- two lists are the same, or differ
lists-tell : (xs ys : List ℕ) → (xs ≡ ys) ⊎ (xs ≢ ys)
lists-tell [] [] = inl refl
lists-tell [] (y ∷ ys) = inr (λ same. let long = ap length same in absurd (omega (arith, long)))
lists-tell (x ∷ xs) [] = inr (λ same. let long = ap length same in absurd (omega (arith, long)))
lists-tell (x ∷ xs) (y ∷ ys) = pick (eqb_tells x y) (lists-tell xs ys)
  where
    pick : ((nat_eq x y ≡ true) × (x ≡ y)) ⊎ ((nat_eq x y ≡ false) × (x ≢ y)) → (xs ≡ ys) ⊎ (xs ≢ ys)
        → (x ∷ xs ≡ y ∷ ys) ⊎ (x ∷ xs ≢ y ∷ ys)
    pick (inr differ) rest = inr (λ same. differ.1 (ap (λ l. slice_index l 0) same))
    pick (inl first) (inr differ) = inr (λ same. differ (ap (drop 1) same))
    pick (inl first) (inl rest) = inl (ap₂ (λ (z : ℕ) zs. z ∷ zs) first.1 rest)

-- ---- bytes

-- as many numbers of so many bits that have the same bytes are the same
same-numbers : (size width : ℕ) → width ≤ 8 * size → (xs ys : List ℕ) → length xs ≡ length ys
    → ((i : ℕ) → slice_index xs i < 2 ^ width) → ((i : ℕ) → slice_index ys i < 2 ^ width)
    → joined_bytes size (λ (n : ℕ). n) xs ≡ joined_bytes size (λ (n : ℕ). n) ys → xs ≡ ys
same-numbers size width room [] [] long one other is = refl
same-numbers size width room [] (y ∷ ys) long one other is = absurd (omega (arith, long))
same-numbers size width room (x ∷ xs) [] long one other is = absurd (omega (arith, long))
same-numbers size width room (x ∷ xs) (y ∷ ys) long one other is =
    ap₂ (λ (z : ℕ) zs. z ∷ zs)
    (sym (given_back size width x (one 0) room)
    ∙ ap (λ (bs : List ℕ). number_of_bytes bs % 2 ^ width)
    (sym (proof-first size (λ (n : ℕ). n) x xs) ∙ ap (take size) is ∙ proof-first size (λ (n : ℕ). n) y ys)
    ∙ given_back size width y (other 0) room)
    (same-numbers size width room xs ys (omega (arith, long)) (λ i. one (suc i)) (λ i. other (suc i))
    (sym (proof-rest size (λ (n : ℕ). n) x xs) ∙ ap (drop size) is ∙ proof-rest size (λ (n : ℕ). n) y ys))

-- ---- columns

module _ (bind : OpeningsBind) (hash : List ℕ → List ℕ) (digest : ℕ) (digests : (bytes : List ℕ) → length (hash bytes) ≡ digest)
    (size width depth height : ℕ) (root : List ℕ) (room : width ≤ 8 * size) (count : ℕ) (sent : ℕ → SentColumns)
    (accepted : (i : ℕ) → i < count → AreAccepted hash digest size width depth height root (sent i)) where
  abbrev place_of : ℕ → ℕ → ℕ
  place_of i k = slice_index (sent i).places k

  -- a place is opened in none of these, or in one
  abbrev IsMissing : ℕ → Type 0
  IsMissing p = (j : ℕ) → j < count → (l : ℕ) → l < length (sent j).places → place_of j l ≡ p → ⊥

  abbrev IsFound : ℕ → Type 0
  IsFound p = (j : ℕ) × (j < count) × ((l : ℕ) × (l < length (sent j).places) × (place_of j l ≡ p))

  lookup : (p : ℕ) → IsMissing p ⊎ IsFound p
  lookup p =
      each-or-one (λ j. (l : ℕ) → l < length (sent j).places → place_of j l ≡ p → ⊥)
      (λ j. (l : ℕ) × (l < length (sent j).places) × (place_of j l ≡ p)) count
      (λ j below.
      each-or-one (λ l. place_of j l ≡ p → ⊥) (λ l. place_of j l ≡ p) (length (sent j).places)
      (λ l inside. turned (place_of j l) (eqb_tells (place_of j l) p)))
    where
      turned : (q : ℕ) → ((nat_eq q p ≡ true) × (q ≡ p)) ⊎ ((nat_eq q p ≡ false) × (q ≢ p)) → (q ≡ p → ⊥) ⊎ (q ≡ p)
      turned q (inl same) = inr same.1
      turned q (inr other) = inl other.1

  column-of : (p : ℕ) → IsMissing p ⊎ IsFound p → List ℕ
  column-of p (inl missing) = []
  column-of p (inr found) = (sent found.0).column found.2.0

  column-fits : (p : ℕ) (s : IsMissing p ⊎ IsFound p) (i : ℕ) → slice_index (column-of p s) i < 2 ^ width
  unfolding column-of
  column-fits p (inl missing) i = pow_pos width
  column-fits p (inr found) i = (accepted found.0 found.1).fits found.2.0 found.2.1 i

  abbrev HasOther : Type 0
  HasOther = HaveOtherColumns hash size depth root count sent

  one-column : (i k : ℕ) → i < count → k < length (sent i).places → (s : IsMissing (place_of i k) ⊎ IsFound (place_of i k))
      → ((sent i).column k ≡ column-of (place_of i k) s) ⊎ HasOther
  unfolding column-of
  one-column i k below inside (inl missing) = absurd (missing i below k inside refl)
  one-column i k below inside (inr found) = pick (lists-tell ((sent i).column k) ((sent found.0).column found.2.0))
    where
      pick : ((sent i).column k ≡ (sent found.0).column found.2.0) ⊎ ((sent i).column k ≢ (sent found.0).column found.2.0)
          → ((sent i).column k ≡ (sent found.0).column found.2.0) ⊎ HasOther
      pick (inl same) = inl same
      pick (inr differ) =
          let one = accepted i below in
          let other = accepted found.0 found.1 in
          let bound =
          bind hash digest digests depth root (sent i).places (sent found.0).places (column_bytes size (sent i))
          (column_bytes size (sent found.0)) (sent i).nodes (sent found.0).nodes one.digests other.digests one.opened other.opened k found.2.0
          inside found.2.1 (sym found.2.2)
          (λ is. differ (same-numbers size width room ((sent i).column k) ((sent found.0).column found.2.0)
          (one.heights k inside ∙ sym (other.heights found.2.0 found.2.1)) (one.fits k inside) (other.fits found.2.0 found.2.1) is)) in
          inr (record {
            one = i;
            other = found.0;
            one_below = below;
            other_below = found.1;
            k = k;
            l = found.2.0;
            k_below = inside;
            l_below = found.2.1;
            place = sym found.2.2;
            path = bound.0;
            other_path = bound.1;
            leads = bound.2;
            other_leads = bound.3;
            collision = bound.4;
          })

  columns-held : ((column : ℕ → List ℕ) × ((p i : ℕ) → slice_index (column p) i < 2 ^ width)
      × HasSent count sent column) ⊎ HasOther
  columns-held =
      join (each-or-one (λ i. (k : ℕ) → k < length (sent i).places → (sent i).column k ≡ column-of (place_of i k) (lookup (place_of i k)))
      (λ i. (k : ℕ) × (k < length (sent i).places) × HasOther) count
      (λ i below.
      each-or-one (λ k. (sent i).column k ≡ column-of (place_of i k) (lookup (place_of i k))) (λ k. HasOther) (length (sent i).places)
      (λ k inside. one-column i k below inside (lookup (place_of i k)))))
    where
      join : ((i : ℕ) → i < count → (k : ℕ) → k < length (sent i).places
          → (sent i).column k ≡ column-of (place_of i k) (lookup (place_of i k)))
          ⊎ ((i : ℕ) × (i < count) × ((k : ℕ) × (k < length (sent i).places) × HasOther))
          → ((column : ℕ → List ℕ) × ((p i : ℕ) → slice_index (column p) i < 2 ^ width)
          × HasSent count sent column) ⊎ HasOther
      join (inl all) = inl ((λ p. column-of p (lookup p)), (λ p i. column-fits p (lookup p) i), λ i k below inside. all i below k inside)
      join (inr found) = inr found.2.2

pub roots_hold_columns : OpeningsBind → RootsHoldColumns
roots_hold_columns bind hash digest digests size width depth height root room count sent accepted =
    columns-held bind hash digest digests size width depth height root room count sent accepted
