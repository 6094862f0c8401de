-- The sum of products of two lists, from one place to the next.
use Rattle.std.proofs.Common.{◌≡◌, ℕ, ◌+◌, ◌<◌, ◌≤◌, List, ◌∷◌, length, drop, get_or, refl, sym, ◌∙◌, ap, ap₂, suc, arith}
use Rattle.std.specs.Prelude.{bit_xor}
use Rattle.std.proofs.Math.Seq.{drop-cons}
use Rattle.std.proofs.lemmas.List.{drop_all}
use native.Mathlib.Numerals.{add-one}
use lib.Bits.{xor_assoc, xor_zero_r}
use Rattle.field_base.specs.Powers.{dot_of}

module _ {A : Type 0} (times : ℕ → ℕ → ℕ) (repr : A → ℕ) where
  -- at a place of both lists the sum from there on is that place's product and the sum behind it
  pub dot_of-drop : (xs ys : List A) (k : ℕ) (x y : A) → k < length xs → k < length ys
      → x ≡ get_or xs k x → y ≡ get_or ys k y
      → dot_of times repr (drop k xs) (drop k ys)
      ≡ bit_xor (times (repr x) (repr y)) (dot_of times repr (drop (k + 1) xs) (drop (k + 1) ys))
  dot_of-drop xs ys k x y left right x_is y_is =
      ap₂ (dot_of times repr) (at_place xs x left x_is) (at_place ys y right y_is)
    where
      at_place : (zs : List A) (z : A) → k < length zs → z ≡ get_or zs k z → drop k zs ≡ z ∷ drop (k + 1) zs
      at_place zs z within z_is =
          drop-cons zs k z within ∙ ap (λ (w : A). w ∷ drop (suc k) zs) (sym z_is)
          ∙ ap (λ (n : ℕ). z ∷ drop n zs) (sym (add-one k))

  -- the sum so far with one product more
  pub dot_step : (whole sum sum' product xs_rest next : ℕ) → bit_xor sum xs_rest ≡ whole → xs_rest ≡ bit_xor product next
      → sum' ≡ bit_xor sum product → bit_xor sum' next ≡ whole
  dot_step whole sum sum' product xs_rest next so_far splits added =
      ap (λ (s : ℕ). bit_xor s next) added ∙ xor_assoc sum product next ∙ ap (bit_xor sum) (sym splits) ∙ so_far

  -- two products more, those of the places k and k + 1
  pub dot_two_steps : (xs ys : List A) (k m : ℕ) (a b p q : A) (whole sum sum' : ℕ) → m ≡ k + 2 → k + 1 < length xs → k + 1 < length ys
      → a ≡ get_or xs k a → b ≡ get_or xs (k + 1) b → p ≡ get_or ys k p → q ≡ get_or ys (k + 1) q
      → bit_xor sum (dot_of times repr (drop k xs) (drop k ys)) ≡ whole
      → sum' ≡ bit_xor (bit_xor sum (times (repr a) (repr p))) (times (repr b) (repr q))
      → bit_xor sum' (dot_of times repr (drop m xs) (drop m ys)) ≡ whole
  dot_two_steps xs ys k m a b p q whole sum sum' next left right a_is b_is p_is q_is so_far added =
      let first = times (repr a) (repr p) in
      let last : m ≡ k + 1 + 1 = omega arith in
      ap (λ (n : ℕ). bit_xor sum' (dot_of times repr (drop n xs) (drop n ys))) last
      ∙ dot_step whole (bit_xor sum first) sum' (times (repr b) (repr q)) _ _
      (dot_step whole sum (bit_xor sum first) first _ _ so_far (dot_of-drop xs ys k a p (omega arith) (omega arith) a_is p_is) refl)
      (dot_of-drop xs ys (k + 1) b q left right b_is q_is) added

  -- behind the last place nothing is left
  pub dot_end : (xs ys : List A) (k whole sum : ℕ) → length xs ≤ k
      → bit_xor sum (dot_of times repr (drop k xs) (drop k ys)) ≡ whole → sum ≡ whole
  dot_end xs ys k whole sum past so_far =
      sym (xor_zero_r sum) ∙ ap (λ (zs : List A). bit_xor sum (dot_of times repr zs (drop k ys))) (sym (drop_all k xs past))
      ∙ so_far
