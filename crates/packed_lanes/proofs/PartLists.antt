-- The parts of rows, one row after the other.
use Rattle.std.proofs.Common.{◌≡◌, ℕ, ◌+◌, ◌<◌, List, [], ◌∷◌, ◌++◌, length, sym, ap, ◌∙◌, get_or, take}
use Rattle.std.specs.List.{flat_map}
use Rattle.std.proofs.Math.Seq.{take-suc}
use Rattle.std.proofs.lemmas.Grind.{flat_map-append}
use Rattle.std.proofs.lemmas.List.{append-nil}
use native.Mathlib.Numerals.{add-one}

-- what all rows give, and one row more
pub row_pushed : {A B : Type 0} (f : A → List B) (rows : List A) (place : ℕ) (row : A) (all : List B) → place < length rows
    → row ≡ get_or rows place row → all ≡ flat_map f (take place rows) ++ f row → all ≡ flat_map f (take (place + 1) rows)
row_pushed f rows place row all inside is so_far =
    so_far
    ∙ sym (ap (λ (n : ℕ). flat_map f (take n rows)) (add-one place)
    ∙ ap (flat_map f) (take-suc rows place row inside ∙ ap (λ y. take place rows ++ y ∷ []) (sym is)) ∙ flat_map-append f (take place rows) (row ∷ [])
    ∙ ap (λ ys. flat_map f (take place rows) ++ ys) (append-nil (f row)))
