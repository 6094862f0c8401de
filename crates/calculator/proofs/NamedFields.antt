-- What holds of each field that a line may name.
use Rattle.std.proofs.Common.{◌≡◌, ℕ, Bool, true, false, cond, List, [], ◌∷◌, drop, Option, Some, None, refl, subst}
use Rattle.std.specs.Str.{bytes_eq}
use Rattle.field_base.specs.Remainder.{aes_modulus, poly64_modulus, ghash_modulus}
use Rattle.calculator.specs.Fields.{WrittenField, tower_level, polynomials_modulo, cubic_extension, field_of_word, fields, look_up, field_named}
use Rattle.calculator.specs.Moduli.{has_field, modulus_written}

-- what holds beside each name of a table holds of what is found there
abbrev AllBeside : {A : Type 0} → (A → Type 0) → List (List ℕ × A) → Type 0
AllBeside P [] = Unit
AllBeside P (row ∷ rows) = P row.1 × AllBeside P rows

-- what holds of the first row and of what is found after it holds of what is found
found_first : {A : Type 0} (P : A → Type 0) (here : Bool) (a found : A) (later : Option A) → P a → (later ≡ Some found → P found)
    → cond here (Some a) later ≡ Some found → P found
found_first P true a found later holds more is = let same : a ≡ found = cc in subst P same holds
found_first P false a found later holds more is = more is

-- what holds beside each name of a table holds of what is found in it
found-beside : {A : Type 0} (P : A → Type 0) (word : List ℕ) (rows : List (List ℕ × A)) (found : A) → AllBeside P rows
    → look_up word rows ≡ Some found → P found
found-beside P word [] found all is = absurd (cc)
found-beside P word ((name, a) ∷ rows) found all is =
    found_first P (bytes_eq word name) a found (look_up word rows) all.0 (found-beside P word rows found all.1) is

-- what holds of each field modulo a polynomial that has one, and of each that has a name, holds of the field of a word
found-of_word : (P : WrittenField → Type 0) → ((m p : ℕ) → has_field m p ≡ true → P (polynomials_modulo m p)) → (word : List ℕ)
    (modulus : Option (ℕ × ℕ)) (found : WrittenField) → (look_up word fields ≡ Some found → P found)
    → field_of_word word modulus ≡ Some found → P found
found-of_word P chosen word None found named is = named is
found-of_word P chosen word (Some (m, p)) found named is = by (has_field m p) (chosen m p) is
  where
    by : (test : Bool) → (test ≡ true → P (polynomials_modulo m p)) → cond test (Some (polynomials_modulo m p)) None ≡ Some found → P found
    by true holds is = let same : polynomials_modulo m p ≡ found = cc in subst P same (holds refl)
    by false holds is = absurd (cc)

-- what holds of the levels of the tower, of the fields of polynomials and of the cubic extension holds of each
pub all_named : (P : WrittenField → Type 0) → ((k : ℕ) → P (tower_level k)) → P (polynomials_modulo 8 aes_modulus)
    → P (polynomials_modulo 64 poly64_modulus) → P (polynomials_modulo 128 ghash_modulus) → P cubic_extension
    → ((m p : ℕ) → has_field m p ≡ true → P (polynomials_modulo m p))
    → (name : List ℕ) (field : WrittenField) → field_named name ≡ Some field → P field
all_named P towers bytes poly64 ghash cubic chosen name field =
    let polynomials : AllBeside P (drop 8 fields) = (bytes, (poly64, (ghash, (cubic, tt)))) in
    found-of_word P chosen name (modulus_written name) field
    (found-beside P name fields field
    (towers 0, (towers 1, (towers 2, (towers 3, (towers 4, (towers 5, (towers 6, (towers 7, polynomials)))))))))
