-- An honest prover is accepted: by induction on the challenges.
use Rattle.std.proofs.Common.{◌≡◌, ℕ, suc, ◌+◌, ◌/◌, ◌^◌, ◌<◌, List, [], ◌∷◌, ◌++◌, length, take, drop, refl, sym, ◌∙◌, ap, ap₂, subst, arith}
use Rattle.std.specs.Prelude.{bit_xor, slice_index}
use Rattle.std.proofs.lemmas.List.{ext_get_or, take-append-drop}
use lib.Bits.{xor_assoc, xor_zero_r}
use Rattle.field_base.specs.Ring.{IsRing}
use Rattle.field_slices.specs.Multilinear.{AreCornerValues, folded, multilinear_value, on_line}
use Rattle.field_slices.proofs.CubeLaws.{folded-at, folded-corners, folded-length, line-one, line-zero, lower-at, lower-length, one-value, upper-at, upper-length, value-alone, value-folded}
use Rattle.field_slices.specs.Sumcheck.{Accepts, AreHonest, IsRound, Quadratic, quadratic_at, sum_of_products}

module _ {width : ℕ} {times : ℕ → ℕ → ℕ} (ring : IsRing width 1 times) (wide : 0 < width) where
  -- folding leaves the half whose places are on the lines through both halves
  folded-half : (m r : ℕ) (values half : List ℕ) → AreCornerValues width (suc m) values → length half ≡ 2 ^ m
      → ((i : ℕ) → i < 2 ^ m → on_line times r (slice_index values i) (slice_index values (2 ^ m + i)) ≡ slice_index half i)
      → folded times r values ≡ half
  folded-half m r values half are count at =
      ext_get_or 0 (folded times r values) half (folded-length m values are.count times r ∙ sym count)
      (λ i inside.
      let below : i < 2 ^ m = subst (λ (n : ℕ). i < n) (folded-length m values are.count times r) inside in
      folded-at m values are.count times r i below ∙ at i below)

  -- by 0 it is the lower half
  folded-zero : (m : ℕ) (values : List ℕ) → AreCornerValues width (suc m) values → folded times 0 values ≡ take (length values / 2) values
  folded-zero m values are =
      folded-half m 0 values (take (length values / 2) values) are (lower-length m values are.count)
      (λ i below.
      line-zero width times ring wide (slice_index values i) (slice_index values (2 ^ m + i)) ∙ sym (lower-at m values are.count i below))

  -- and by 1 the upper half
  folded-one : (m : ℕ) (values : List ℕ) → AreCornerValues width (suc m) values → folded times 1 values ≡ drop (length values / 2) values
  folded-one m values are =
      folded-half m 1 values (drop (length values / 2) values) are (upper-length m values are.count)
      (λ i below.
      line-one width times ring wide (slice_index values i) (slice_index values (2 ^ m + i)) (are.each_fits i) (are.each_fits (2 ^ m + i))
      ∙ sym (upper-at m values are.count i))

  -- a sum over two parts
  products-append : (ls ks us vs : List ℕ) → length ls ≡ length ks
      → sum_of_products times (ls ++ us) (ks ++ vs) ≡ bit_xor (sum_of_products times ls ks) (sum_of_products times us vs)
  products-append [] [] us vs same = refl
  products-append [] (k ∷ ks) us vs same = absurd (omega (arith, same))
  products-append (l ∷ ls) [] us vs same = absurd (omega (arith, same))
  products-append (l ∷ ls) (k ∷ ks) us vs same =
      ap (bit_xor (times l k)) (products-append ls ks us vs (omega (arith, same)))
      ∙ sym (xor_assoc (times l k) (sum_of_products times ls ks) (sum_of_products times us vs))

  -- the values of a round's message at 0 and 1 have the claim as their sum
  round-claim : (m : ℕ) (left right : List ℕ) (g : Quadratic) → AreCornerValues width (suc m) left → AreCornerValues width (suc m) right
      → IsRound times left right g → bit_xor (quadratic_at times g 0) (quadratic_at times g 1) ≡ sum_of_products times left right
  round-claim m left right g is_left is_right is_round =
      ap₂ bit_xor (is_round 0 ∙ ap₂ (sum_of_products times) (folded-zero m left is_left) (folded-zero m right is_right))
      (is_round 1 ∙ ap₂ (sum_of_products times) (folded-one m left is_left) (folded-one m right is_right))
      ∙ sym (products-append (take (length left / 2) left) (take (length right / 2) right) (drop (length left / 2) left)
      (drop (length right / 2) right) (lower-length m left is_left.count ∙ sym (lower-length m right is_right.count)))
      ∙ ap₂ (sum_of_products times) (take-append-drop (length left / 2) left) (take-append-drop (length right / 2) right)

  -- the last claim is the product of the two values that are left
  last-claim : (left right : List ℕ) → AreCornerValues width 0 left → AreCornerValues width 0 right
      → sum_of_products times left right ≡ times (multilinear_value times left []) (multilinear_value times right [])
  last-claim left right is_left is_right =
      ap₂ (sum_of_products times) (one-value width times ring left is_left.count) (one-value width times ring right is_right.count)
      ∙ xor_zero_r (times (slice_index left 0) (slice_index right 0))
      ∙ sym (ap₂ times (value-alone width times ring left (is_left.each_fits 0)) (value-alone width times ring right (is_right.each_fits 0)))

  pub honest-accepted : (challenges : List ℕ) (messages : List Quadratic) (left right : List ℕ)
      → AreCornerValues width (length challenges) left → AreCornerValues width (length challenges) right
      → AreHonest times left right messages challenges
      → Accepts times (sum_of_products times left right) messages challenges
      (times (multilinear_value times left challenges) (multilinear_value times right challenges))
  unfolding AreHonest Accepts
  honest-accepted [] [] left right is_left is_right honest = last-claim left right is_left is_right
  honest-accepted [] (g ∷ gs) left right is_left is_right honest = absurd honest
  honest-accepted (r ∷ rs) [] left right is_left is_right honest = absurd honest
  honest-accepted (r ∷ rs) (g ∷ gs) left right is_left is_right honest =
      let sum = sum_of_products times (folded times r left) (folded times r right) in (
        round-claim (length rs) left right g is_left is_right honest.0,
        subst (λ (claim : ℕ). Accepts times claim gs rs (times (multilinear_value times left (r ∷ rs)) (multilinear_value times right (r ∷ rs))))
            (sym (honest.0 r))
            (subst (λ (value : ℕ). Accepts times sum gs rs value)
            (sym (ap₂ times (value-folded width times ring r rs left is_left.count) (value-folded width times ring r rs right is_right.count)))
            (honest-accepted rs gs (folded times r left) (folded times r right) (folded-corners width times ring (length rs) r left is_left)
            (folded-corners width times ring (length rs) r right is_right) honest.1)),
      )
