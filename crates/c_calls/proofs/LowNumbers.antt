-- Words as the elements that their low bits are.
use Rattle.std.proofs.Common.{◌≡◌, ℕ, suc, ◌%◌, ◌^◌, ◌<◌, List, [], ◌∷◌, length, get_or, map, refl, sym, ◌∙◌, ap, ap₂, subst, arith}
use Rattle.std.specs.Prelude.{bit_xor, slice_index}
use Rattle.std.proofs.lemmas.List.{get_or-map, length-map}
use Rattle.std.proofs.lemmas.Nat.{xor_mod}
use native.Mathlib.Nat.{mod-eq_of_lt}
use Rattle.field_base.specs.Field.{AreInverses, IsInverseOrZero}
use Rattle.field_base.specs.Ring.{IsRing}
use Rattle.field_base.proofs.RingLemmas.{mod-times, times-mod}
use Rattle.field_slices.specs.Matrices.{AreScaledSums}
use Rattle.many_words.specs.Words.{AreElements, Each, EachOfTwo, HoldInverses}
use Rattle.many_words.specs.Fields.{WordField}
use Rattle.c_calls.specs.Low.{low_number}
use Rattle.c_calls.specs.lemmas.Low.{low_number-lt}

-- lists that have the same numbers at each place have the same numbers
pub same_numbers : {W : Type 0} (f g : W → ℕ) (xs ys : List W) → length ys ≡ length xs
    → ((k : ℕ) → k < length xs → (d : W) → f (get_or ys k d) ≡ g (get_or xs k d)) → map f ys ≡ map g xs
same_numbers f g [] [] long same = refl
same_numbers f g [] (y ∷ ys) long same = absurd (omega (arith, long))
same_numbers f g (x ∷ xs) [] long same = absurd (omega (arith, long))
same_numbers f g (x ∷ xs) (y ∷ ys) long same =
    ap₂ (λ (n : ℕ) (ns : List ℕ). n ∷ ns) (same 0 (omega arith) x)
    (same_numbers f g xs ys (omega (arith, long)) (λ k below d. same (suc k) (omega (arith, below)) d))

module _ {W : Type 0} (number : W → ℕ) (width : ℕ) where
  -- a word that is an element is its low bits
  pub low-is : (word : W) (n : ℕ) → number word ≡ n → n < 2 ^ width → low_number number width word ≡ n
  low-is word n is fits = ap (λ (m : ℕ). m % 2 ^ width) is ∙ mod-eq_of_lt fits

  -- low bits are few
  pub truncated-lt : (word : W) {n : ℕ} → n ≡ number word % 2 ^ width → n < 2 ^ width
  truncated-lt word is = subst (λ (m : ℕ). m < 2 ^ width) (sym is) (low_number-lt number width word)

  -- sums
  pub low-sum : (x y sum : W) → number sum ≡ bit_xor (number x) (number y)
      → low_number number width sum ≡ bit_xor (low_number number width x) (low_number number width y)
  low-sum x y sum is = ap (λ (m : ℕ). m % 2 ^ width) is ∙ xor_mod (number x) (number y) width

  module _ (times : ℕ → ℕ → ℕ) (ring : IsRing width 1 times) where
    -- a product reads the low bits
    pub low-factors : (a b : ℕ) → times (a % 2 ^ width) (b % 2 ^ width) ≡ times a b
    low-factors a b = mod-times width 1 times ring a (b % 2 ^ width) ∙ times-mod width 1 times ring a b

    -- products
    pub low-product : (x y product : W) → number product ≡ times (number x) (number y)
        → low_number number width product ≡ times (low_number number width x) (low_number number width y)
    low-product x y product is =
        low-is product (times (number x) (number y)) is (ring.below (number x) (number y)) ∙ sym (low-factors (number x) (number y))

    -- sums with a multiple
    pub low-scaled : (a s x n : ℕ) → n ≡ bit_xor a (times s x)
        → n % 2 ^ width ≡ bit_xor (a % 2 ^ width) (times (s % 2 ^ width) (x % 2 ^ width))
    low-scaled a s x n is =
        ap (λ (m : ℕ). m % 2 ^ width) is
        ∙ xor_mod a (times s x) width
        ∙ ap (bit_xor (a % 2 ^ width)) (mod-eq_of_lt (ring.below s x) ∙ sym (low-factors s x))

-- a word of which only the low bits were left has them still
pub low_again : {W : Type 0} (number : W → ℕ) (width : ℕ) (old new : W) → number new ≡ low_number number width old
    → low_number number width new ≡ low_number number width old
low_again number width old new is = ap (λ (n : ℕ). n % 2 ^ width) is ∙ mod-eq_of_lt (low_number-lt number width old)

module _ {W : Type 0} (field : WordField W) where
  abbrev low : W → ℕ
  low = low_number field.number field.width

  -- words that are elements are their low bits
  pub low_elements : (words : List W) → AreElements field words → map low words ≡ map field.number words
  low_elements words fits =
      same_numbers low field.number words words refl (λ k below d. mod-eq_of_lt (fits k below d))

  -- words of which only the low bits were left
  module _ (old new : List W) (long : length new ≡ length old)
      (left : (k : ℕ) → k < length old → (d : W) → field.number (get_or new k d) ≡ low (get_or old k d)) where
    pub now_elements : AreElements field new
    now_elements k below d =
        subst (λ (n : ℕ). n < 2 ^ field.width) (sym (left k (omega (arith, below, long)) d))
        (low_number-lt field.number field.width (get_or old k d))

    pub now_numbers : map field.number new ≡ map low old
    now_numbers = same_numbers field.number low old new long left

    -- and their low bits are the ones that were left
    pub now_low : map low new ≡ map low old
    now_low = low_elements new now_elements ∙ now_numbers

  -- inverses of which only the low bits were left
  pub held_inverses : (xs mid ys : List W) → length ys ≡ length mid → AreElements field xs
      → AreInverses field.times (map low xs) (map low mid)
      → ((k : ℕ) → k < length mid → (d : W) → field.number (get_or ys k d) ≡ low (get_or mid k d))
      → HoldInverses field xs ys
  held_inverses xs mid ys long fits inverses left k below d =
      let count = length-map xs low in
      let counted = sym (length-map mid low) ∙ inverses.count ∙ count in
      let inside : k < length xs = omega (arith, below, long, counted) in
      let there : k < length mid = omega (arith, below, long) in
      let is = left k there d in (
        now_elements mid ys long left k below d,
        subst (λ (n : ℕ). IsInverseOrZero field.times (field.number (get_or xs k d)) n) (get_or-map low mid k d 0 there ∙ sym is)
            (subst (λ (n : ℕ). IsInverseOrZero field.times n (slice_index (map low mid) k))
            (get_or-map low xs k d 0 inside ∙ mod-eq_of_lt (fits k inside d))
            (inverses.each k (omega (arith, inside, count)))),
      )

  -- what calls over many words give, by their low bits
  module _ (ring : IsRing field.width 1 field.times) where
    -- products by a scalar
    pub low_multiples : (scalar : W) (xs ys : List W) → length ys ≡ length xs
        → Each field (λ x y. y ≡ field.times x (field.number scalar)) xs ys
        → map low ys ≡ map (λ x. field.times (low scalar) x) (map low xs)
    low_multiples scalar [] [] long each = refl
    low_multiples scalar [] (y ∷ ys) long each = absurd (omega (arith, long))
    low_multiples scalar (x ∷ xs) [] long each = absurd (omega (arith, long))
    low_multiples scalar (x ∷ xs) (y ∷ ys) long each =
        ap₂ (λ (n : ℕ) (ns : List ℕ). n ∷ ns)
        (low-is field.number field.width y _ (each 0 (omega arith) y) (ring.below (field.number x) (field.number scalar))
        ∙ sym (low-factors field.number field.width field.times ring (field.number x) (field.number scalar))
        ∙ ring.comm (low x) (low scalar))
        (low_multiples scalar xs ys (omega (arith, long)) (λ k below d. each (suc k) (omega (arith, below)) d))

    -- sums with multiples
    pub low_sums : (scalar : W) (values old new : List W) → length values ≡ length old → length new ≡ length old
        → EachOfTwo field (λ sum x next. next ≡ bit_xor sum (field.times (field.number scalar) x)) old values new
        → AreScaledSums field.times (low scalar) (map low values) (map low old) (map low new)
    low_sums scalar values old new same long sums k below =
        let count = length-map old low in
        let inside : k < length old = omega (arith, below, count) in
        get_or-map low new k scalar 0 (omega (arith, inside, long))
        ∙ low-scaled field.number field.width field.times ring (field.number (get_or old k scalar)) (field.number scalar)
        (field.number (get_or values k scalar)) (field.number (get_or new k scalar)) (sums k (omega (arith, inside, long)) scalar)
        ∙ sym (ap₂ (λ (x y : ℕ). bit_xor x (field.times (low scalar) y)) (get_or-map low old k scalar 0 inside)
        (get_or-map low values k scalar 0 (omega (arith, inside, same))))

    -- inverses
    pub low_inverses : (xs ys : List W) → length ys ≡ length xs → AreElements field xs → HoldInverses field xs ys
        → AreInverses field.times (map low xs) (map low ys)
    low_inverses xs ys long fits hold = record {
      count = length-map ys low ∙ long ∙ sym (length-map xs low);
      each = λ i below. let count = length-map xs low in at xs refl i (omega (arith, below, count));
    }
      where
        at : (zs : List W) → zs ≡ xs → (i : ℕ) → i < length zs
            → IsInverseOrZero field.times (slice_index (map low xs) i) (slice_index (map low ys) i)
        at [] is i below = absurd (omega (arith, below))
        at (z ∷ zs) is i below =
            let same : length (z ∷ zs) ≡ length xs = ap (λ (l : List W). length l) is in
            let inside : i < length xs = omega (arith, below, same) in
            let there : i < length ys = omega (arith, inside, long) in
            let held = hold i there z in
            let left = get_or-map low xs i z 0 inside ∙ mod-eq_of_lt (fits i inside z) in
            let right = get_or-map low ys i z 0 there ∙ mod-eq_of_lt held.0 in
            subst (λ (n : ℕ). IsInverseOrZero field.times n (slice_index (map low ys) i)) (sym left)
            (subst (λ (n : ℕ). IsInverseOrZero field.times (field.number (get_or xs i z)) n) (sym right) held.1)
