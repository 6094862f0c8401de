-- What is true of the definitions of Coefficients.antt.
use Rattle.std.proofs.Common.{◌≡◌, ℕ, List, [], ◌∷◌, length, map, get_or, drop, refl, sym, ◌∙◌, ap, ap₂, arith}
use Rattle.std.proofs.Math.Nat.{ℕ_set}
use Rattle.std.proofs.lemmas.List.{length-map}
use mathlib.Core.HLevel.{is_prop→PathP}
use Rattle.field_base.specs.Chunks.{chunk, chunks}
use Rattle.word_polynomial.specs.lemmas.Triple.{chunks-triple, same_number}
use Rattle.word_polynomial.specs.declared.triple.Triple.{Triple}
use Rattle.field_element.specs.Element.{repr_of}
use Rattle.field_element.specs.lemmas.Element.{same_word}
use Rattle.field_element.specs.declared.element.coefficients.Coefficients.{Coefficients}
use Rattle.field_element.specs.Coefficients.{stored_words, stored_number}

-- a list of three items is that of its items
three_items : {A : Type 0} (xs : List A) (a b c : A) → length xs ≡ 3 → get_or xs 0 a ∷ get_or xs 1 b ∷ get_or xs 2 c ∷ [] ≡ xs
three_items [] a b c three = absurd (omega (arith, three))
three_items (x ∷ []) a b c three = absurd (omega (arith, three))
three_items (x ∷ y ∷ []) a b c three = absurd (omega (arith, three))
three_items (x ∷ y ∷ z ∷ []) a b c three = refl
three_items (x ∷ y ∷ z ∷ w ∷ rest) a b c three = absurd (omega (arith, three))

module _ {C : Type 0} (number : C → ℕ) (same_law : (x y : C) → number x ≡ number y → x ≡ y) where
  -- lists of the same numbers are one
  same_lists : (xs ys : List C) → map number xs ≡ map number ys → xs ≡ ys
  same_lists [] [] same = refl
  same_lists [] (y ∷ ys) same = absurd (omega (arith, ap length same))
  same_lists (x ∷ xs) [] same = absurd (omega (arith, ap length same))
  same_lists (x ∷ xs) (y ∷ ys) same =
      ap₂ (λ (z : C) (zs : List C). z ∷ zs) (same_law x y (ap (λ (ns : List ℕ). get_or ns 0 0) same))
      (same_lists xs ys (ap (drop 1) same))

  -- lists of three items are one where their numbers agree at each place
  same_three : (xs ys : List C) → length xs ≡ 3 → length ys ≡ 3 → get_or (map number xs) 0 0 ≡ get_or (map number ys) 0 0
      → get_or (map number xs) 1 0 ≡ get_or (map number ys) 1 0 → get_or (map number xs) 2 0 ≡ get_or (map number ys) 2 0 → xs ≡ ys
  same_three xs ys three three' e0 e1 e2 =
      same_lists xs ys
      (sym (three_items (map number xs) 0 0 0 (length-map xs number ∙ three))
      ∙ (λ i. e0 i ∷ e1 i ∷ e2 i ∷ [])
      ∙ three_items (map number ys) 0 0 0 (length-map ys number ∙ three'))

-- the coefficients are the chunks of that number
pub chunks_stored : (x : Coefficients) → map repr_of x.coefficients ≡ chunks 64 3 (stored_number x)
chunks_stored x =
    let words = stored_words x in
    sym (three_items (map repr_of x.coefficients) 0 0 0 (length-map x.coefficients repr_of ∙ x.three))
    ∙ sym (chunks-triple 64 words.c0 words.c1 words.c2 words.in_range.first words.in_range.second words.in_range.third)

-- coefficients of one number are one
pub same_coefficients : (x y : Coefficients) → stored_number x ≡ stored_number y → x ≡ y
same_coefficients x y same =
    let words = same_number (stored_words x) (stored_words y) same in
    let items =
    same_three repr_of same_word x.coefficients y.coefficients x.three y.three (ap (λ (w : Triple). w.c0) words)
    (ap (λ (w : Triple). w.c1) words) (ap (λ (w : Triple). w.c2) words) in
    λ i. record {
      coefficients = items i;
      three = is_prop→PathP (λ j. length (items j) ≡ 3) (λ j. ℕ_set _ _) x.three y.three i;
    }
