-- The list of the parts of a number, and words that calls give one after the other.
use Rattle.std.proofs.Common.{◌≡◌, ◌≢◌, ℕ, ◌+◌, ◌<◌, List, [], ◌∷◌, ◌++◌, length, map, refl, sym, ap, ap₂, ◌∙◌, arith, inl, inr, ◌⊎◌}
use Rattle.std.specs.Array.{FillsFrom}
use Rattle.std.proofs.lemmas.Bool.{cases_eq}
use Rattle.std.proofs.lemmas.List.{length-append, map-append}
use Rattle.field_base.proofs.Calls.{fills_more}
use Rattle.field_base.specs.Chunks.{chunk, chunks}
use Rattle.field_base.proofs.ChunkLists.{chunks-next, chunks-none}
use Rattle.packed_lanes.specs.lemmas.Chunk.{chunks-same}
use Rattle.packed_lanes.specs.Parts.{IsWithPart, IsZipped}

-- the parts up to the one that is written
pub parts-written : (w count i n v r : ℕ) → i < count → IsWithPart w count n i v r → chunks w (i + 1) r ≡ chunks w i n ++ v ∷ []
parts-written w count i n v r inside written =
    chunks-next w i r
    ∙ ap₂ (λ (xs : List ℕ) (x : ℕ). xs ++ x ∷ [])
    (chunks-same w i r n (λ k less. written.1 k (omega arith) (λ is. absurd (omega arith)))) written.0

-- the first i words of a row are those that calls gave, from the state `start` to the state `now`
pub record Filled {S A : Type 0} (w : ℕ) (number : A → ℕ) (step : S → ℕ → A → S → Type 0) (start : S) (i row : ℕ) (now : S) : Type 0 where
  pub taken : List A
  pub fills : FillsFrom step start 0 taken now
  pub long : length taken ≡ i
  pub are : map number taken ≡ chunks w i row

module _ {S A : Type 0} (w : ℕ) (number : A → ℕ) (step : S → ℕ → A → S → Type 0) (start : S) where
  -- before the first call no word is filled
  pub nothing_filled : (row : ℕ) → Filled w number step start 0 row start
  nothing_filled row = record { taken = []; fills = refl; long = refl; are = sym (chunks-none w row) }

  -- one more call fills one more word
  pub more_filled : (count i n r : ℕ) (now next : S) (word : A) → Filled w number step start i n now → i < count
      → step now i word next → IsWithPart w count n i (number word) r → Filled w number step start (i + 1) r next
  more_filled count i n r now next word begun inside called written = record {
    taken = begun.taken ++ word ∷ [];
    fills = fills_more step start 0 begun.taken now next word i (omega (arith, begun.long)) begun.fills called;
    long = length-append begun.taken (word ∷ []) ∙ ap (λ (n : ℕ). n + 1) begun.long;
    are = map-append number begun.taken (word ∷ []) ∙ ap (λ ys. ys ++ number word ∷ []) begun.are
        ∙ sym (parts-written w count i n (number word) r inside written);
  }

-- one word more of two rows
pub more_zipped : {A : Type 0} (w count i n r left right : ℕ) (number : A → ℕ) (gives : A → A → A → Type 0) (x y z : A) → i < count
    → number x ≡ chunk w i left → number y ≡ chunk w i right → gives x y z → IsWithPart w count n i (number z) r
    → IsZipped w number gives i left right n → IsZipped w number gives (i + 1) left right r
more_zipped {A} w count i n r left right number gives x y z inside first second called written so_far k less = cases (cases_eq k i)
  where
    cases : (k ≡ i) ⊎ (k ≢ i)
        → (a b c : A) × (number a ≡ chunk w k left) × (number b ≡ chunk w k right) × gives a b c × (number c ≡ chunk w k r)
    cases (inl is) =
        (x, y, z, first ∙ ap (λ (p : ℕ). chunk w p left) (sym is), second ∙ ap (λ (p : ℕ). chunk w p right) (sym is), called, sym written.0 ∙ ap (λ (p : ℕ). chunk w p r) (sym is))
    cases (inr other) =
        let before = so_far k (grind arith) in
        (before.0, before.1, before.2, before.3, before.4, before.5, before.6 ∙ sym (written.1 k (grind arith) other))
