-- Products of matrices of bytes by forms, over fields whose products these are.
use Rattle.std.proofs.Common.{◌≡◌, ℕ, ◌*◌, ◌+◌, ◌^◌, ◌<◌, List, get_or, map, sym, subst, ◌∙◌}
use Rattle.std.specs.Prelude.{slice_index}
use Rattle.std.proofs.lemmas.List.{get_or_default, map-id}
use Rattle.field_base.proofs.BasisSums.{sum_below-same}
use Rattle.field_slices.specs.Matrices.{IsMatrixProduct}
use Rattle.bits_packed.specs.BitMatrices.{word_of}
use Rattle.bits_packed.specs.BytesAsBits.{bilinear_product}
use Rattle.many_words.specs.Fields.{WordField, itself}
use Rattle.many_words.specs.Words.{AreElements}
use Rattle.c_calls.proofs.Calls.{entries_at}

-- the product of a ring that is one by forms, of matrices
pub product-by-forms : (times : ℕ → ℕ → ℕ) (forms : List (ℕ × ℕ)) (rows inner columns : ℕ) (left right target : List ℕ)
    → ((x y : ℕ) → x < 2 ^ 8 → y < 2 ^ 8 → times x y ≡ bilinear_product forms x y) → ((p : ℕ) → slice_index left p < 2 ^ 8)
    → ((p : ℕ) → slice_index right p < 2 ^ 8)
    → IsMatrixProduct (bilinear_product forms) rows inner columns (word_of inner left) (word_of columns right) (word_of columns target)
    → IsMatrixProduct times rows inner columns (word_of inner left) (word_of columns right) (word_of columns target)
product-by-forms times forms rows inner columns left right target law lefts rights is i j inside within =
    is i j inside within
    ∙ sum_below-same (λ k. bilinear_product forms (word_of inner left i k) (word_of columns right k j))
    (λ k. times (word_of inner left i k) (word_of columns right k j)) inner
    (λ k _. sym (law (word_of inner left i k) (word_of columns right k j) (lefts (i * inner + k)) (rights (k * columns + j))))

-- the same as calls say it
pub bytes-product : (times : ℕ → ℕ → ℕ) (rows inner columns : ℕ) (left right target : List ℕ)
    → IsMatrixProduct times rows inner columns (word_of inner left) (word_of columns right) (word_of columns target)
    → IsMatrixProduct times rows inner columns (entries_at inner (map itself left)) (entries_at columns (map itself right))
    (entries_at columns (map itself target))
bytes-product times rows inner columns left right target is =
    subst
    (λ (xs : List ℕ).
    IsMatrixProduct times rows inner columns (entries_at inner xs) (entries_at columns (map itself right)) (entries_at columns (map itself target)))
    (sym (map-id left))
    (subst
    (λ (xs : List ℕ). IsMatrixProduct times rows inner columns (word_of inner left) (entries_at columns xs) (entries_at columns (map itself target)))
    (sym (map-id right))
    (subst (λ (xs : List ℕ). IsMatrixProduct times rows inner columns (word_of inner left) (word_of columns right) (entries_at columns xs))
    (sym (map-id target)) is))

-- bytes are elements of a field of 256
pub bytes-are : (field : WordField ℕ) (xs : List ℕ) → field.width ≡ 8 → ((x : ℕ) → field.number x ≡ x) → ((p : ℕ) → slice_index xs p < 2 ^ 8)
    → AreElements field xs
bytes-are field xs wide same bytes k below d =
    subst (λ (w : ℕ). field.number (get_or xs k d) < 2 ^ w) (sym wide)
    (subst (λ (x : ℕ). x < 2 ^ 8) (sym (same (get_or xs k d) ∙ get_or_default xs k d 0 below)) (bytes k))
