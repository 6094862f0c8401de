-- The value of a polynomial in lanes: sum k starts as coefficient k of the last block, and for each block before it every sum is
-- multiplied by x^B and gets a coefficient more, so that the value of the sums is always that of the coefficients from there on.
use Rattle.std.proofs.Common.{◌≡◌, ℕ, zero, suc, ◌+◌, ◌-◌, ◌^◌, ◌<◌, ◌≤◌, List, [], ◌∷◌, ◌++◌, length, map, replicate, take, drop, refl, sym, ◌∙◌, ap, ap₂, arith}
use Rattle.std.specs.Prelude.{bit_xor}
use Rattle.std.specs.Simd.Lanes.{zip2}
use Rattle.std.proofs.Math.Nat.{add-zero, add-suc}
use Rattle.std.proofs.lemmas.List.{append_assoc, drop-drop, drop-replicate, length-map, take-append-drop}
use Rattle.std.proofs.lemmas.Nat.{xor_comm}
use lib.Bits.{xor_assoc, xor_zero_r}
use lib.LanesLaws.{map-replicate}
use Rattle.field_base.specs.Powers.{power, terms_from, value_of}
use Rattle.field_base.specs.Ring.{IsRing}
use Rattle.field_base.proofs.PowerLemmas.{power-add}
use Rattle.field_base.proofs.RingLemmas.{sum_times, times_left_comm, times-zero, xor_left_comm, zero-times}

module _ (width unit : ℕ) (times : ℕ → ℕ → ℕ) (ring : IsRing width unit times) (a : ℕ) where
  -- ---- lists of numbers

  -- the terms of a list of numbers
  abbrev terms : ℕ → List ℕ → ℕ
  terms n cs = terms_from unit times (λ (c : ℕ). c) a n cs

  -- of sums place by place the terms are the sums of both
  terms-sums : (n : ℕ) (xs ys : List ℕ) → length xs ≡ length ys → terms n (zip2 bit_xor xs ys) ≡ bit_xor (terms n xs) (terms n ys)
  unfolding terms_from
  terms-sums n [] [] same = refl
  terms-sums n [] (y ∷ ys) same = absurd (omega (arith, same))
  terms-sums n (x ∷ xs) [] same = absurd (omega (arith, same))
  terms-sums n (x ∷ xs) (y ∷ ys) same =
      let p = power unit times a n in
      let u = terms (suc n) xs in
      let v = terms (suc n) ys in
      ap₂ bit_xor (sum_times width unit times ring x y p) (terms-sums (suc n) xs ys (omega (arith, same)))
      ∙ xor_assoc (times x p) (times y p) (bit_xor u v)
      ∙ ap (bit_xor (times x p)) (xor_left_comm (times y p) u v)
      ∙ sym (xor_assoc (times x p) u (bit_xor (times y p) v))

  -- of multiples by one scalar the terms are the scalar times those before
  terms-multiples : (s n : ℕ) (xs : List ℕ) → terms n (map (λ x. times s x) xs) ≡ times s (terms n xs)
  unfolding terms_from
  terms-multiples s n [] = sym (times-zero width unit times ring s)
  terms-multiples s n (x ∷ xs) =
      let p = power unit times a n in
      ap₂ bit_xor (ring.assoc s x p) (terms-multiples s (suc n) xs)
      ∙ sym (ring.over_sum s (times x p) (terms (suc n) xs))

  -- zeros have no terms
  terms-zeros : (n m : ℕ) → terms n (replicate m 0) ≡ 0
  unfolding terms_from
  terms-zeros n zero = refl
  terms-zeros n (suc m) = ap₂ bit_xor (zero-times width unit times ring (power unit times a n)) (terms-zeros (suc n) m)

  -- ---- lists of elements

  module _ {A : Type 0} (repr : A → ℕ) where
    -- the terms of a list are those of its numbers
    terms-numbers : (n : ℕ) (cs : List A) → terms n (map repr cs) ≡ terms_from unit times repr a n cs
    unfolding terms_from
    terms-numbers n [] = refl
    terms-numbers n (c ∷ cs) = ap (bit_xor (times (repr c) (power unit times a n))) (terms-numbers (suc n) cs)

    -- the terms of a list followed by another are those of both, the second so much higher as the first is long
    terms-append : (n : ℕ) (xs ys : List A) → terms_from unit times repr a n (xs ++ ys)
        ≡ bit_xor (terms_from unit times repr a n xs) (terms_from unit times repr a (n + length xs) ys)
    unfolding terms_from
    terms-append n [] ys = ap (λ (m : ℕ). terms_from unit times repr a m ys) (sym (add-zero n))
    terms-append n (x ∷ xs) ys =
        let t = times (repr x) (power unit times a n) in
        ap (bit_xor t)
        (terms-append (suc n) xs ys
        ∙ ap (λ (m : ℕ). bit_xor (terms_from unit times repr a (suc n) xs) (terms_from unit times repr a m ys)) (omega arith))
        ∙ sym (xor_assoc t (terms_from unit times repr a (suc n) xs) (terms_from unit times repr a (n + length (x ∷ xs)) ys))

    module _ (fits : unit < 2 ^ width) where
      -- k places higher is a factor a^k
      terms-higher : (k n : ℕ) (cs : List A)
          → terms_from unit times repr a (k + n) cs ≡ times (power unit times a k) (terms_from unit times repr a n cs)
      unfolding terms_from
      terms-higher k n [] = sym (times-zero width unit times ring (power unit times a k))
      terms-higher k n (c ∷ cs) =
          let high = power unit times a k in
          let p = power unit times a n in
          ap₂ bit_xor
          (ap (times (repr c)) (power-add width unit times ring fits a k n) ∙ times_left_comm width unit times ring (repr c) high p)
          (ap (λ (m : ℕ). terms_from unit times repr a m cs) (sym (add-suc k n)) ∙ terms-higher k (suc n) cs)
          ∙ sym (ring.over_sum high (times (repr c) p) (terms_from unit times repr a (suc n) cs))

      -- the value of a list followed by another: that of the first, and the second's times a^k, where the first has k coefficients
      value-append : (k : ℕ) (xs ys : List A) → length xs ≡ k → value_of unit times repr (xs ++ ys) a
          ≡ bit_xor (value_of unit times repr xs a) (times (power unit times a k) (value_of unit times repr ys a))
      value-append k xs ys long =
          terms-append 0 xs ys
          ∙ ap (λ (m : ℕ). bit_xor (value_of unit times repr xs a) (terms_from unit times repr a m ys)) (omega (arith, long))
          ∙ ap (bit_xor (value_of unit times repr xs a)) (terms-higher k 0 ys)

      -- zeros behind the coefficients change nothing
      pub value-zeros : (nil : A) (m : ℕ) (xs : List A) → repr nil ≡ 0
          → value_of unit times repr (xs ++ replicate m nil) a ≡ value_of unit times repr xs a
      value-zeros nil m xs is =
          terms-append 0 xs (replicate m nil)
          ∙ ap (bit_xor (value_of unit times repr xs a))
          (sym (terms-numbers (0 + length xs) (replicate m nil))
          ∙ ap (terms (0 + length xs)) (map-replicate repr m nil ∙ ap (replicate m) is)
          ∙ terms-zeros (0 + length xs) m)
          ∙ xor_zero_r (value_of unit times repr xs a)

      -- the blocks, what is behind them, and zeros are the coefficients with zeros behind
      pub value_of_blocks : (nil : A) (n m : ℕ) (cs blocks last first : List A) → blocks ≡ take n cs → last ≡ drop n cs → first ≡ last
          → repr nil ≡ 0
          → value_of unit times repr (blocks ++ (first ++ drop (length last) (replicate m nil))) a ≡ value_of unit times repr cs a
      value_of_blocks nil n m cs blocks last first front back same is =
          let v = λ (xs : List A). value_of unit times repr xs a in
          let zeros = replicate (m - length last) nil in
          ap₂ (λ (xs ys : List A). v (xs ++ (ys ++ drop (length last) (replicate m nil)))) front (same ∙ back)
          ∙ ap (λ (zs : List A). v (take n cs ++ (drop n cs ++ zs))) (drop-replicate (length last) m nil)
          ∙ ap v (sym (append_assoc (take n cs) (drop n cs) zeros) ∙ ap (λ (xs : List A). xs ++ zeros) (take-append-drop n cs))
          ∙ value-zeros nil (m - length last) cs is

      -- a block more: the sums times a^k, and the block's coefficients
      pub block-before : (k high : ℕ) (sums scaled next block rest : List A) → high ≡ power unit times a k
          → length sums ≡ k → length block ≡ k
          → map repr scaled ≡ map (λ x. times high x) (map repr sums)
          → map repr next ≡ zip2 bit_xor (map repr scaled) (map repr block)
          → value_of unit times repr sums a ≡ value_of unit times repr rest a
          → value_of unit times repr next a ≡ value_of unit times repr (block ++ rest) a
      block-before k high sums scaled next block rest high_is long long_too scaled_is next_is so_far =
          let v = λ (xs : List A). value_of unit times repr xs a in
          sym (terms-numbers 0 next)
          ∙ ap (terms 0) (next_is ∙ ap (λ (ns : List ℕ). zip2 bit_xor ns (map repr block)) scaled_is)
          ∙ terms-sums 0 (map (λ x. times high x) (map repr sums)) (map repr block)
          (length-map (map repr sums) (λ x. times high x) ∙ length-map sums repr ∙ long ∙ sym (length-map block repr ∙ long_too))
          ∙ ap₂ bit_xor (terms-multiples high 0 (map repr sums) ∙ ap₂ times high_is (terms-numbers 0 sums ∙ so_far)) (terms-numbers 0 block)
          ∙ xor_comm (times (power unit times a k) (v rest)) (v block)
          ∙ sym (value-append k block rest long_too)

  -- the value depends on the numbers of the coefficients alone
  pub value_of-numbers : {A : Type 0} (f g : A → ℕ) (cs : List A) → map f cs ≡ map g cs → value_of unit times f cs a ≡ value_of unit times g cs a
  value_of-numbers f g cs same = sym (terms-numbers f 0 cs) ∙ ap (terms 0) same ∙ terms-numbers g 0 cs

-- a block, what is behind it, and a tail are the coefficients from the block on and the tail
pub block_joined : {A : Type 0} (k start size : ℕ) (cs tail : List A) → size ≡ k → k ≤ start
    → take size (drop (start - k) cs) ++ (drop start cs ++ tail) ≡ drop (start - k) cs ++ tail
block_joined {A = A} k start size cs tail size_is below =
    let before = drop (start - k) cs in
    let behind : drop size before ≡ drop start cs =
    drop-drop size (start - k) cs ∙ ap (λ (n : ℕ). drop n cs) (omega (arith, size_is, below)) in
    sym (append_assoc (take size before) (drop start cs) tail)
    ∙ ap (λ (xs : List A). xs ++ tail) (ap (λ (xs : List A). take size before ++ xs) (sym behind) ∙ take-append-drop size before)
