-- What holds at each place of both parts of a slice holds at each place of the whole, and back.
use Rattle.std.proofs.Common.{◌≡◌, ◌⊎◌, inl, inr, ℕ, ◌+◌, ◌-◌, ◌<◌, ◌≤◌, List, ◌++◌, length, get_or, refl, sym, ◌∙◌, ap, subst, arith}
use Rattle.std.proofs.lemmas.Bool.{cases_lt}
use Rattle.std.proofs.lemmas.List.{get_or_append_left, get_or-append_right, length-append}

-- three lists in two parts each, whose first parts have n words
module _ {W : Type 0} (Relates : W → W → W → Type 0) (n : ℕ) (a more_a b more_b c more_c : List W) (long_a : length a ≡ n)
    (long_b : length b ≡ n) (long_c : length c ≡ n) where
  both_parts : ((k : ℕ) → k < length c → (d : W) → Relates (get_or a k d) (get_or b k d) (get_or c k d))
      → ((k : ℕ) → k < length more_c → (d : W) → Relates (get_or more_a k d) (get_or more_b k d) (get_or more_c k d))
      → (k : ℕ) → k < length (c ++ more_c) → (d : W)
      → Relates (get_or (a ++ more_a) k d) (get_or (b ++ more_b) k d) (get_or (c ++ more_c) k d)
  both_parts first last k inside d = at (cases_lt k n)
    where
      -- from words that are the same
      moved : (x y z p q r : W) → p ≡ x → q ≡ y → r ≡ z → Relates x y z → Relates p q r
      moved x y z p q r e f g is =
          subst (λ (v : W). Relates v q r) (sym e) (subst (λ (v : W). Relates x v r) (sym f) (subst (λ (v : W). Relates x y v) (sym g) is))

      at : (k < n) ⊎ (n ≤ k) → Relates (get_or (a ++ more_a) k d) (get_or (b ++ more_b) k d) (get_or (c ++ more_c) k d)
      at (inl below) =
          moved (get_or a k d) (get_or b k d) (get_or c k d) (get_or (a ++ more_a) k d) (get_or (b ++ more_b) k d) (get_or (c ++ more_c) k d)
          (get_or_append_left a more_a d k (omega (arith, below, long_a))) (get_or_append_left b more_b d k (omega (arith, below, long_b)))
          (get_or_append_left c more_c d k (omega (arith, below, long_c))) (first k (omega (arith, below, long_c)) d)
      at (inr past) =
          let whole = length-append c more_c in
          moved (get_or more_a (k - n) d) (get_or more_b (k - n) d) (get_or more_c (k - n) d) (get_or (a ++ more_a) k d)
          (get_or (b ++ more_b) k d) (get_or (c ++ more_c) k d) (get_or-append_right a more_a n k d long_a past)
          (get_or-append_right b more_b n k d long_b past) (get_or-append_right c more_c n k d long_c past)
          (last (k - n) (omega (arith, inside, whole, long_c, past)) d)

  -- where two of the lists are known otherwise
  pub both_parts_of : (xs ys : List W) → xs ≡ a ++ more_a → ys ≡ b ++ more_b
      → ((k : ℕ) → k < length c → (d : W) → Relates (get_or a k d) (get_or b k d) (get_or c k d))
      → ((k : ℕ) → k < length more_c → (d : W) → Relates (get_or more_a k d) (get_or more_b k d) (get_or more_c k d))
      → (k : ℕ) → k < length (c ++ more_c) → (d : W) → Relates (get_or xs k d) (get_or ys k d) (get_or (c ++ more_c) k d)
  both_parts_of xs ys is also first last k inside d =
      subst (λ (l : List W). Relates (get_or l k d) (get_or ys k d) (get_or (c ++ more_c) k d)) (sym is)
      (subst (λ (l : List W). Relates (get_or (a ++ more_a) k d) (get_or l k d) (get_or (c ++ more_c) k d)) (sym also)
      (both_parts first last k inside d))

-- a list in two parts, at whose places this holds
module _ {W : Type 0} (Holds : W → Type 0) (xs a b : List W) (is : xs ≡ a ++ b)
    (each : (k : ℕ) → k < length xs → (d : W) → Holds (get_or xs k d)) where
  -- it holds at those of the first part
  pub first_part : (k : ℕ) → k < length a → (d : W) → Holds (get_or a k d)
  first_part k inside d =
      let whole = length-append a b in
      let same : length xs ≡ length (a ++ b) = ap length is in
      subst Holds (ap (λ (l : List W). get_or l k d) is ∙ get_or_append_left a b d k inside) (each k (omega (arith, inside, whole, same)) d)

  -- and at those of the last
  pub last_part : (k : ℕ) → k < length b → (d : W) → Holds (get_or b k d)
  last_part k inside d =
      let whole = length-append a b in
      let same : length xs ≡ length (a ++ b) = ap length is in
      let back : length a + k - length a ≡ k = omega arith in
      subst Holds
      (ap (λ (l : List W). get_or l (length a + k) d) is
      ∙ get_or-append_right a b (length a) (length a + k) d refl (omega arith)
      ∙ ap (λ (i : ℕ). get_or b i d) back)
      (each (length a + k) (omega (arith, inside, whole, same)) d)
