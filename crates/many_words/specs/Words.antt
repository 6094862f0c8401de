-- Slices of words of a field, place by place.
use Rattle.std.specs.Prelude.{ℕ, ◌^◌, ◌<◌, List, length, get_or}
use Rattle.field_base.specs.Field.{IsInverseOrZero}
use Rattle.many_words.specs.Fields.{WordField}

module _ {W : Type 0} (field : WordField W) where
  -- a word is an element of the field
  abbrev pub IsElement : W → Type 0
  IsElement x = field.number x < 2 ^ field.width

  -- every word is
  abbrev pub AreElements : List W → Type 0
  AreElements xs = (k : ℕ) → k < length xs → (d : _) → field.number (get_or xs k d) < 2 ^ field.width

  -- each word of `ys` is related to the word of `xs` at its place
  abbrev pub Each : (ℕ → ℕ → Type 0) → List W → List W → Type 0
  Each relates xs ys =
      (k : ℕ) → k < length ys → (d : _) → relates (field.number (get_or xs k d)) (field.number (get_or ys k d))

  -- each word of `zs` is related to the words of `xs` and of `ys` at its place
  abbrev pub EachOfTwo : (ℕ → ℕ → ℕ → Type 0) → List W → List W → List W → Type 0
  EachOfTwo relates xs ys zs =
      (k : ℕ) → k < length zs → (d : _)
      → relates (field.number (get_or xs k d)) (field.number (get_or ys k d)) (field.number (get_or zs k d))

  -- the words of `ys` are the inverses of those of `xs`, 0 for 0, and elements
  abbrev pub HoldInverses : List W → List W → Type 0
  HoldInverses xs ys = Each (λ x y. (y < 2 ^ field.width) × IsInverseOrZero field.times x y) xs ys
