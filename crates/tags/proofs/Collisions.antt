-- The difference of the hashes of two messages is a polynomial in the key, and one that is not 0 has few roots.
use Rattle.std.proofs.Common.{◌≡◌, ℕ, zero, suc, ◌-◌, ◌%◌, ◌^◌, ◌<◌, ◌≤◌, inl, inr, List, [], ◌∷◌, length, get_or, refl, sym, ◌∙◌, ap, ap₂, subst, arith}
use Rattle.std.specs.Prelude.{bit_xor, reverse}
use Rattle.std.proofs.lemmas.Bool.{cases_lt}
use Rattle.std.proofs.lemmas.Grind.{same_number_lists}
use Rattle.std.proofs.lemmas.List.{get_or-reverse, length-reverse, reverse-append, reverse-reverse}
use Rattle.std.proofs.lemmas.List.Sums.{fold-append}
use Rattle.std.proofs.lemmas.Nat.{xor_comm, xor_lt, pow_pos}
use native.Mathlib.Nat.{mod-eq_of_lt}
use lib.Bits.{xor_self, xor_zero_r, xor_zero_l}
use Rattle.field_base.specs.Field.{IsField}
use Rattle.field_base.specs.Ring.{IsRing}
use Rattle.field_base.specs.Powers.{terms_from, value_of}
use Rattle.field_base.proofs.RingLemmas.{times-mod, times-zero, xor_nothing, xor_exchange}
use Rattle.field_base.specs.PolynomialRoots.{AreDistinctBelow}
use Rattle.field_base.proofs.Codewords.{many_roots_mean_zero}
use Rattle.field_base.proofs.PolynomialCoefficients.{value_of-cons}
use Rattle.tags.specs.Collisions.{AtMostCollide, IsMessage, LastBlockDiffers, PolynomialHashCollides, SameLengthIsSame}
use Rattle.tags.specs.Hash.{polynomial_hash}

-- ---- two lists of coefficients, added

-- the sum of two polynomials, by their coefficients
added : List ℕ → List ℕ → List ℕ
added [] ds = ds
added (c ∷ cs) [] = c ∷ cs
added (c ∷ cs) (d ∷ ds) = bit_xor c d ∷ added cs ds

length-added : (cs ds : List ℕ) (n : ℕ) → length cs ≤ n → length ds ≤ n → length (added cs ds) ≤ n
unfolding added
length-added [] ds n c_fits d_fits = d_fits
length-added (c ∷ cs) [] n c_fits d_fits = c_fits
length-added (c ∷ cs) (d ∷ ds) zero c_fits d_fits = absurd (omega (arith, c_fits))
length-added (c ∷ cs) (d ∷ ds) (suc n) c_fits d_fits =
    let rest : length (added cs ds) ≤ n = length-added cs ds n (omega (arith, c_fits)) (omega (arith, d_fits)) in
    omega (arith, rest)

get_or-nil : (i : ℕ) → get_or {A = ℕ} [] i 0 ≡ 0
get_or-nil zero = refl
get_or-nil (suc i) = refl

get_or-added : (cs ds : List ℕ) (i : ℕ) → get_or (added cs ds) i 0 ≡ bit_xor (get_or cs i 0) (get_or ds i 0)
unfolding added
get_or-added [] ds i = sym (ap (λ (z : ℕ). bit_xor z (get_or ds i 0)) (get_or-nil i) ∙ xor_zero_l (get_or ds i 0))
get_or-added (c ∷ cs) [] i =
    sym (ap (bit_xor (get_or (c ∷ cs) i 0)) (get_or-nil i) ∙ xor_zero_r (get_or (c ∷ cs) i 0))
get_or-added (c ∷ cs) (d ∷ ds) zero = refl
get_or-added (c ∷ cs) (d ∷ ds) (suc i) = get_or-added cs ds i

-- past its end a list has only zeros
get_or-past : (xs : List ℕ) (i : ℕ) → length xs ≤ i → get_or xs i 0 ≡ 0
get_or-past [] i past = get_or-nil i
get_or-past (x ∷ xs) zero past = absurd (omega (arith, past))
get_or-past (x ∷ xs) (suc i) past = get_or-past xs i (omega (arith, past))

module _ (width : ℕ) (times : ℕ → ℕ → ℕ) (ring : IsRing width 1 times) where
  -- the value of a polynomial, by its coefficients
  abbrev value : List ℕ → ℕ → ℕ
  value cs a = value_of 1 times (λ c. c) cs a

  value-nil : (a : ℕ) → value [] a ≡ 0
  unfolding terms_from
  value-nil a = refl

  value-added : (cs ds : List ℕ) (a : ℕ) → value (added cs ds) a ≡ bit_xor (value cs a) (value ds a)
  unfolding added
  value-added [] ds a = sym (ap (λ (z : ℕ). bit_xor z (value ds a)) (value-nil a) ∙ xor_zero_l (value ds a))
  value-added (c ∷ cs) [] a = sym (ap (bit_xor (value (c ∷ cs) a)) (value-nil a) ∙ xor_zero_r (value (c ∷ cs) a))
  value-added (c ∷ cs) (d ∷ ds) a =
      value_of-cons width times ring (bit_xor c d) (added cs ds) a
      ∙ ap₂ bit_xor (ring.over_sum 1 c d) (ap (times a) (value-added cs ds a) ∙ ring.over_sum a (value cs a) (value ds a))
      ∙ xor_exchange (times 1 c) (times 1 d) (times a (value cs a)) (times a (value ds a))
      ∙ sym (ap₂ bit_xor (value_of-cons width times ring c cs a) (value_of-cons width times ring d ds a))

  -- the hash of a message is the key times the polynomial whose coefficients are the blocks, the last one lowest
  hash-value : (cs : List ℕ) (key : ℕ) → polynomial_hash times key (reverse cs) ≡ times key (value cs key)
  hash-value [] key = sym (ap (times key) (value-nil key) ∙ times-zero width 1 times ring key)
  hash-value (c ∷ cs) key =
      let h : ℕ = polynomial_hash times key (reverse cs) in
      let v : ℕ = value cs key in
      ap (polynomial_hash times key) (reverse-append (c ∷ []) cs)
      ∙ fold-append (λ y x. times (bit_xor y x) key) 0 (reverse cs) (c ∷ [])
      ∙ ring.comm (bit_xor h c) key
      ∙ ap (times key) (xor_comm h c ∙ ap (bit_xor c) (hash-value cs key))
      ∙ ring.over_sum key c (times key v)
      ∙ ap (λ (z : ℕ). bit_xor z (times key (times key v)))
      (sym (ap (times key) (ring.one c) ∙ times-mod width 1 times ring key c))
      ∙ sym (ap (times key) (value_of-cons width times ring c cs key) ∙ ring.over_sum key (times 1 c) (times key v))

module _ (width : ℕ) (times : ℕ → ℕ → ℕ) (wide : 0 < width) (field : IsField width times) where
  -- messages of at most n blocks, the last block first, that collide under more than n keys have the same blocks
  pub same-blocks : (n count difference : ℕ) (cs ds : List ℕ) (key : ℕ → ℕ) → length cs ≤ n → length ds ≤ n → n < count
      → ((i : ℕ) → get_or cs i 0 < 2 ^ width) → ((i : ℕ) → get_or ds i 0 < 2 ^ width)
      → AreDistinctBelow count (2 ^ width) key
      → ((i : ℕ) → i < count
      → bit_xor (polynomial_hash times (key i) (reverse cs)) (polynomial_hash times (key i) (reverse ds)) ≡ difference)
      → (i : ℕ) → get_or cs i 0 ≡ get_or ds i 0
  same-blocks n count difference cs ds key c_few d_few many c_fits d_fits distinct collide i =
      let es : List ℕ = added cs ds in
      let few : length es ≤ n = length-added cs ds n c_few d_few in
      let at_key : (k : ℕ) → bit_xor (polynomial_hash times k (reverse cs)) (polynomial_hash times k (reverse ds)) ≡ times k (value width times field.ring es k) =
      λ k.
      ap₂ bit_xor (hash-value width times field.ring cs k) (hash-value width times field.ring ds k)
      ∙ sym (ap (times k) (value-added width times field.ring cs ds k)
      ∙ field.ring.over_sum k (value width times field.ring cs k) (value width times field.ring ds k)) in
      let fits : difference < 2 ^ width =
      subst (λ (z : ℕ). z < 2 ^ width) (sym (at_key (key 0)) ∙ collide 0 (omega (arith, many)))
      (field.ring.below (key 0) (value width times field.ring es (key 0))) in
      let root : (j : ℕ) → j < suc n → value width times field.ring (difference ∷ es) (key j) ≡ 0 =
      λ j below.
      value_of-cons width times field.ring difference es (key j)
      ∙ ap₂ bit_xor (field.ring.one difference ∙ mod-eq_of_lt fits)
      (sym (at_key (key j)) ∙ collide j (omega (arith, below, many)))
      ∙ xor_self difference in
      let fewer : AreDistinctBelow (suc n) (2 ^ width) key =
      record {
        below = λ j below. distinct.below j (omega (arith, below, many));
        differ = λ j k j_below k_below same. distinct.differ j k (omega (arith, j_below, many)) (omega (arith, k_below, many)) same;
      } in
      let nothing : (j : ℕ) → j < length es → get_or es j 0 % 2 ^ width ≡ 0 =
      λ j within.
      (many_roots_mean_zero width times (suc n) (difference ∷ es) key wide field (omega (arith, few)) fewer root).each_coefficient
      (suc j) (omega (arith, within)) in
      xor_nothing (get_or cs i 0) (get_or ds i 0)
      (sym (get_or-added cs ds i)
      ∙ elim (cases_lt i (length es)) [
        | inl within ↦ sym (mod-eq_of_lt (subst (λ (z : ℕ). z < 2 ^ width) (sym (get_or-added cs ds i))
            (xor_lt width (get_or cs i 0) (get_or ds i 0) (c_fits i) (d_fits i)))) ∙ nothing i within
        | inr past ↦ get_or-past es i past
      ])

-- a block of a reversed message is one of the message
pub reversed-fits : (width : ℕ) (n : ℕ) (message : List ℕ) → IsMessage width n message → (i : ℕ) → get_or (reverse message) i 0 < 2 ^ width
reversed-fits width n message is i =
    elim (cases_lt i (length message)) [
      | inl within ↦ subst (λ (z : ℕ). z < 2 ^ width) (sym (get_or-reverse message i 0 within))
          (is.1 (length message - 1 - i) 0 (omega (arith, within)))
      | inr past ↦ subst (λ (z : ℕ). z < 2 ^ width)
          (sym (get_or-past (reverse message) i (omega (arith, past, length-reverse message)))) (pow_pos width)
    ]

pub polynomial_hash_collides : PolynomialHashCollides
unfolding AtMostCollide
polynomial_hash_collides width times wide field n count difference left right key of_left of_right differ distinct collide =
    elim (cases_lt n count) [
      | inr few ↦ few
      | inl many ↦ absurd (differ
          (same-blocks width times wide field n count difference (reverse left) (reverse right) key
          (omega (arith, length-reverse left, of_left.0)) (omega (arith, length-reverse right, of_right.0)) many
          (reversed-fits width n left of_left) (reversed-fits width n right of_right) distinct
          (λ j below.
          ap₂ (λ (x y : List ℕ). bit_xor (polynomial_hash times (key j) x) (polynomial_hash times (key j) y))
          (reverse-reverse left) (reverse-reverse right) ∙ collide j below)))
    ]

-- messages of one length with the same blocks, counted from the end, are one
pub same_length_is_same : SameLengthIsSame
same_length_is_same left right same_length same =
    sym (reverse-reverse left)
    ∙ ap reverse (same_number_lists (reverse left) (reverse right)
    (length-reverse left ∙ same_length ∙ sym (length-reverse right)) (λ i within. same i))
    ∙ reverse-reverse right

-- the last block is the first one from the end
pub last_block_differs : LastBlockDiffers
last_block_differs left right x y differ same =
    differ (sym (ap (λ (xs : List ℕ). get_or xs 0 0) (reverse-append left (x ∷ []))) ∙ same 0
    ∙ ap (λ (xs : List ℕ). get_or xs 0 0) (reverse-append right (y ∷ [])))
