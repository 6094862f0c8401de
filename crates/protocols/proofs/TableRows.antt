-- Rows of lists, of their bytes, and of lists that are made of them.
use Rattle.std.proofs.Common.{◌≡◌, inl, inr, ℕ, ◌+◌, ◌*◌, ◌<◌, ◌≤◌, List, [], ◌∷◌, ◌++◌, length, map, take, drop, sym, ◌∙◌, ap, ap₂, subst, arith}
use Rattle.std.specs.List.{flat_map}
use Rattle.std.proofs.Math.Seq.{drop-append_seam}
use Rattle.std.proofs.lemmas.Bool.{cases_lt}
use Rattle.std.proofs.lemmas.Grind.{flat_map-append}
use Rattle.std.proofs.lemmas.List.{drop-map, length-append, length-drop, length-take-le, take-append-drop, take-map, take_at}
use native.Mathlib.Nat.{mul_assoc}
use Rattle.transcripts.specs.Commitments.{row_at}

-- what holds of each place before n, and of n, holds of each before n + 1
pub each-more : (P : ℕ → Type 0) (n : ℕ) → ((i : ℕ) → i < n → P i) → P n → (i : ℕ) → i < n + 1 → P i
each-more P n each here i below =
    elim (cases_lt i n) [
      | inl lower ↦ each i lower
      | inr upper ↦ let end : n ≡ i = omega (arith, below, upper) in subst P end here
    ]

-- the values of a row are the row of the values
pub row-map : {X : Type 0} (f : X → ℕ) (size : ℕ) (rows : List X) (i : ℕ) → row_at size (map f rows) i ≡ map f (row_at size rows i)
row-map f size rows i = ap (take size) (drop-map f (i * size) rows) ∙ take-map f size (drop (i * size) rows)

module _ {X : Type 0} (f : X → List ℕ) (size : ℕ) (each : (x : X) → length (f x) ≡ size) where
  -- as many bytes as elements, times their size
  pub bytes-length : (xs : List X) → length (flat_map f xs) ≡ length xs * size
  bytes-length [] = let none : 0 ≡ 0 * size = omega arith in none
  bytes-length (x ∷ xs) = length-append (f x) (flat_map f xs) ∙ ap₂ (λ (a b : ℕ). a + b) (each x) (bytes-length xs) ∙ omega arith

  -- the bytes of a row are a row of the bytes
  pub row-bytes : (height : ℕ) (xs : List X) (i : ℕ) → i * height + height ≤ length xs
      → row_at (height * size) (flat_map f xs) i ≡ flat_map f (row_at height xs i)
  row-bytes height xs i room =
      ap (λ l. take (height * size) (drop (i * (height * size)) l)) split
      ∙ ap (take (height * size))
      (ap (λ (n : ℕ). drop n (flat_map f before ++ flat_map f rest)) (sym front) ∙ drop-append_seam (flat_map f before) (flat_map f rest))
      ∙ ap (take (height * size)) behind
      ∙ take_at (flat_map f row) (flat_map f (drop height rest)) (height * size) long
    where
      before : List X
      before = take (i * height) xs

      rest : List X
      rest = drop (i * height) xs

      row : List X
      row = take height rest

      split : flat_map f xs ≡ flat_map f before ++ flat_map f rest
      split = ap (flat_map f) (sym (take-append-drop (i * height) xs)) ∙ flat_map-append f before rest

      front : length (flat_map f before) ≡ i * (height * size)
      front =
          bytes-length before ∙ ap (λ (n : ℕ). n * size) (length-take-le (i * height) xs (omega (arith, room))) ∙ mul_assoc i height size

      behind : flat_map f rest ≡ flat_map f row ++ flat_map f (drop height rest)
      behind = ap (flat_map f) (sym (take-append-drop height rest)) ∙ flat_map-append f row (drop height rest)

      long : length (flat_map f row) ≡ height * size
      long =
          let left = length-drop (i * height) xs in
          bytes-length row ∙ ap (λ (n : ℕ). n * size) (length-take-le height rest (omega (arith, room, left)))
