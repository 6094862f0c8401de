-- Sums of products of words by their numbers.
use Rattle.std.proofs.Common.{◌≡◌, ℕ, ◌+◌, ◌<◌, ◌^◌, List, [], ◌∷◌, ◌++◌, drop, get_or, length, map, refl, sym, ◌∙◌, ap, ap₂, arith}
use Rattle.std.specs.Int.Bits.{xor_zero_l}
use Rattle.std.specs.Prelude.{bit_xor}
use lib.Bits.{xor_assoc}
use Rattle.std.proofs.lemmas.List.{get_or_default, length-map}
use Rattle.std.proofs.lemmas.Nat.{pow_pos, xor_lt}
use Rattle.field_base.specs.Powers.{dot_of}
use Rattle.field_base.specs.Ring.{IsRing}
use Rattle.field_base.proofs.DotLemmas.{dot_of-drop, dot_step}

-- as many words as places, where their numbers are the same
pub same_long : {A B : Type 0} (f : A → ℕ) (g : B → ℕ) (xs : List A) (ys : List B) → map f xs ≡ map g ys → length xs ≡ length ys
same_long f g xs ys same = sym (length-map xs f) ∙ ap length same ∙ length-map ys g

module _ {A : Type 0} (times : ℕ → ℕ → ℕ) (value : A → ℕ) where
  -- the sum over words is that over their numbers
  pub dot_of-map : (xs ys : List A) → dot_of times (λ n. n) (map value xs) (map value ys) ≡ dot_of times value xs ys
  dot_of-map [] ys = refl
  dot_of-map (x ∷ xs) [] = refl
  dot_of-map (x ∷ xs) (y ∷ ys) = ap (bit_xor (times (value x) (value y))) (dot_of-map xs ys)

  -- over lists in two parts it is that over the first parts and that over the last
  pub dot_of-append : (a b c d : List A) → length a ≡ length b
      → dot_of times value (a ++ c) (b ++ d) ≡ bit_xor (dot_of times value a b) (dot_of times value c d)
  dot_of-append [] [] c d same = sym (xor_zero_l (dot_of times value c d))
  dot_of-append [] (y ∷ b) c d same = absurd (omega (arith, same))
  dot_of-append (x ∷ a) [] c d same = absurd (omega (arith, same))
  dot_of-append (x ∷ a) (y ∷ b) c d same =
      ap (bit_xor (times (value x) (value y))) (dot_of-append a b c d (omega (arith, same)))
      ∙ sym (xor_assoc (times (value x) (value y)) (dot_of times value a b) (dot_of times value c d))

  -- the sum over the first parts is added
  pub dot_of-parts : (xs ys a b c d : List A) (sum sum' whole : ℕ) → length a ≡ length b → xs ≡ a ++ c → ys ≡ b ++ d
      → bit_xor sum (dot_of times value xs ys) ≡ whole → sum' ≡ bit_xor sum (dot_of times value a b)
      → bit_xor sum' (dot_of times value c d) ≡ whole
  dot_of-parts xs ys a b c d sum sum' whole same left right so_far added =
      dot_step times value whole sum sum' (dot_of times value a b) (dot_of times value xs ys) (dot_of times value c d) so_far
      (ap₂ (dot_of times value) left right ∙ dot_of-append a b c d same) added

  -- one product is added, that of the place k
  pub dot_of-place : (xs ys : List A) (k : ℕ) (r : A) (sum sum' whole : ℕ) → k < length xs → k < length ys
      → value r ≡ times (value (get_or xs k r)) (value (get_or ys k r)) → bit_xor sum (dot_of times value (drop k xs) (drop k ys)) ≡ whole
      → sum' ≡ bit_xor sum (value r) → bit_xor sum' (dot_of times value (drop (k + 1) xs) (drop (k + 1) ys)) ≡ whole
  dot_of-place xs ys k r sum sum' whole left right is so_far added =
      let x : A = get_or xs k r in
      let y : A = get_or ys k r in
      dot_step times value whole sum sum' (times (value x) (value y)) _ _ so_far
      (dot_of-drop times value xs ys k x y left right (get_or_default xs k r x left) (get_or_default ys k r y right))
      (added ∙ ap (bit_xor sum) is)

-- a sum of products of a ring is one of its elements
pub dot_of-below : {A : Type 0} → (width unit : ℕ) (times : ℕ → ℕ → ℕ) → IsRing width unit times → (repr : A → ℕ) (xs ys : List A)
    → dot_of times repr xs ys < 2 ^ width
dot_of-below width unit times ring repr [] ys = pow_pos width
dot_of-below width unit times ring repr (x ∷ xs) [] = pow_pos width
dot_of-below width unit times ring repr (x ∷ xs) (y ∷ ys) =
    xor_lt width (times (repr x) (repr y)) (dot_of times repr xs ys) (ring.below (repr x) (repr y))
    (dot_of-below width unit times ring repr xs ys)
