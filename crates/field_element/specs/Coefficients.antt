-- Three coefficients as words, and as one number.
use Rattle.std.proofs.Common.{ℕ, zero, suc, ◌^◌, ◌<◌, List, [], ◌∷◌, map, get_or, refl}
use Rattle.std.proofs.lemmas.Nat.{pow_pos}
use Rattle.field_base.specs.Chunks.{chunk}
use Rattle.word_polynomial.specs.Triple.{triple_number}
use Rattle.word_polynomial.specs.declared.triple.Triple.{Triple}
use Rattle.field_element.specs.Element.{repr_of}
use Rattle.field_element.specs.declared.element.coefficients.Coefficients.{Coefficients}
use Rattle.field_base.proofs.ChunkLists.{chunk-lt}

module _ {C : Type 0} (number : C → ℕ) (fits : (x : C) → number x < 2 ^ 64) where
  -- the number at place i, or the 0 past the end, is below 2 ^ 64
  pub item_below : (xs : List C) (i : ℕ) → get_or (map number xs) i 0 < 2 ^ 64
  item_below [] i = pow_pos 64
  item_below (x ∷ xs) zero = fits x
  item_below (x ∷ xs) (suc i) = item_below xs i

  -- the first three items as words
  abbrev pub words_of_items : List C → Triple
  words_of_items xs = record {
    c0 = get_or (map number xs) 0 0;
    c1 = get_or (map number xs) 1 0;
    c2 = get_or (map number xs) 2 0;
    in_range = record { first = item_below xs 0; second = item_below xs 1; third = item_below xs 2 };
  }

-- the words of coefficients
abbrev pub stored_words : Coefficients → Triple
stored_words x = words_of_items repr_of (λ y. y.in_range) x.coefficients

-- and their number, the first lowest
abbrev pub stored_number : Coefficients → ℕ
stored_number x = triple_number (stored_words x)

-- the coefficients of three words
abbrev pub coefficients_of_words : (c0 c1 c2 : ℕ) → c0 < 2 ^ 64 → c1 < 2 ^ 64 → c2 < 2 ^ 64 → Coefficients
coefficients_of_words c0 c1 c2 c0_fits c1_fits c2_fits = record {
  coefficients =
      record { repr = c0; field = record {}; in_range = c0_fits }
      ∷ record { repr = c1; field = record {}; in_range = c1_fits }
      ∷ record { repr = c2; field = record {}; in_range = c2_fits }
      ∷ [];
  three = refl;
}

-- the coefficients of the low 192 bits of a number
abbrev pub coefficients_of_number : ℕ → Coefficients
coefficients_of_number n = record {
  coefficients =
      record { repr = chunk 64 0 n; field = record {}; in_range = chunk-lt 64 0 n }
      ∷ record { repr = chunk 64 1 n; field = record {}; in_range = chunk-lt 64 1 n }
      ∷ record { repr = chunk 64 2 n; field = record {}; in_range = chunk-lt 64 2 n }
      ∷ [];
  three = refl;
}
