-- A word is the sum of its four classes, and the low half of a carryless product is the sum of the masked products of
-- the classes.
use Rattle.std.proofs.Common.{◌≡◌, ℕ, ◌+◌, ◌*◌, ◌%◌, ◌^◌, ◌<◌, refl, sym, ◌∙◌, ap, ap₂, lit<}
use Rattle.std.specs.Prelude.{bit_xor, bit_and, min}
use Rattle.std.specs.Int.{bit_at}
use Rattle.std.proofs.lemmas.Nat.{and_mask, and_comm, xor_comm, xor_mod}
use Rattle.std.proofs.lemmas.Nat.Bits.{bit_at_and, bit_at_xor, bit_at-lt, same_from_bits}
use native.Mathlib.Nat.{mod-eq_of_lt}
use lib.Bits.{xor_assoc}
use Rattle.field_base.specs.Carryless.{carryless}
use Rattle.field_base.proofs.RingLemmas.{xor_left_comm}
use Rattle.field_base.specs.lemmas.BitRing.{two_cases}
use Rattle.field_base.proofs.CarrylessProduct.{carryless_sum, sum_carryless}
use Rattle.word_carryless.specs.Masked.{class_mask}
use Rattle.word_carryless.proofs.ClassMasks.{class-mask}
use Rattle.word_carryless.proofs.CarryIsolation.{carry_isolation}

-- ---- a mask of a sum

-- for bits, the minimum with m is a product, so it distributes over sums modulo 2
bit_sum : (a : ℕ) → a < 2 → (b : ℕ) → b < 2 → (m : ℕ) → m < 2 → min ((a + b) % 2) m ≡ (min a m + min b m) % 2
bit_sum =
    two_cases (λ a. (b : ℕ) → b < 2 → (m : ℕ) → m < 2 → min ((a + b) % 2) m ≡ (min a m + min b m) % 2)
    (two_cases (λ b. (m : ℕ) → m < 2 → min ((0 + b) % 2) m ≡ (min 0 m + min b m) % 2)
    (two_cases (λ m. min ((0 + 0) % 2) m ≡ (min 0 m + min 0 m) % 2) refl refl)
    (two_cases (λ m. min ((0 + 1) % 2) m ≡ (min 0 m + min 1 m) % 2) refl refl))
    (two_cases (λ b. (m : ℕ) → m < 2 → min ((1 + b) % 2) m ≡ (min 1 m + min b m) % 2)
    (two_cases (λ m. min ((1 + 0) % 2) m ≡ (min 1 m + min 0 m) % 2) refl refl)
    (two_cases (λ m. min ((1 + 1) % 2) m ≡ (min 1 m + min 1 m) % 2) refl refl))

-- (a + b) & m = (a & m) + (b & m)
pub xor_and : (a b m : ℕ) → bit_and (bit_xor a b) m ≡ bit_xor (bit_and a m) (bit_and b m)
xor_and a b m =
    same_from_bits (bit_and (bit_xor a b) m) (bit_xor (bit_and a m) (bit_and b m))
    (λ i. bit_at_and (bit_xor a b) m i ∙ ap (λ (x : ℕ). min x (bit_at m i)) (bit_at_xor a b i)
    ∙ bit_sum (bit_at a i) (bit_at-lt a i) (bit_at b i) (bit_at-lt b i) (bit_at m i) (bit_at-lt m i)
    ∙ sym (bit_at_xor (bit_and a m) (bit_and b m) i
    ∙ ap₂ (λ (x y : ℕ). (x + y) % 2) (bit_at_and a m i) (bit_at_and b m i)))

-- ---- the four classes

-- the masked product of two classes of words
part : (i j x y : ℕ) → i < 4 → j < 4
    → bit_and (bit_and x (class_mask i) * bit_and y (class_mask j) % 2 ^ 64) (class_mask ((i + j) % 4))
    ≡ carryless (bit_and x (class_mask i)) (bit_and y (class_mask j)) % 2 ^ 64
part i j x y i_small j_small =
    carry_isolation i j (bit_and x (class_mask i)) (bit_and y (class_mask j)) i_small j_small (class-mask i x)
    (class-mask j y)

-- the sum of the four classes
abbrev classes : ℕ → ℕ
classes x =
    bit_xor (bit_xor (bit_xor (bit_and x (class_mask 0)) (bit_and x (class_mask 1))) (bit_and x (class_mask 2)))
    (bit_and x (class_mask 3))

-- x & (a + b) = (x & a) + (x & b)
and_sum : (x a b : ℕ) → bit_and x (bit_xor a b) ≡ bit_xor (bit_and x a) (bit_and x b)
and_sum x a b = and_comm x (bit_xor a b) ∙ xor_and a b x ∙ ap₂ bit_xor (and_comm a x) (and_comm b x)

-- the sum of the four classes of a word is the word
classes-word : (x : ℕ) → x < 2 ^ 64 → classes x ≡ x
classes-word x fits =
    sym (and_sum x (bit_xor (bit_xor (class_mask 0) (class_mask 1)) (class_mask 2)) (class_mask 3)
    ∙ ap (λ (z : ℕ). bit_xor z (bit_and x (class_mask 3)))
    (and_sum x (bit_xor (class_mask 0) (class_mask 1)) (class_mask 2)
    ∙ ap (λ (z : ℕ). bit_xor z (bit_and x (class_mask 2))) (and_sum x (class_mask 0) (class_mask 1))))
    ∙ and_mask x 64 ∙ mod-eq_of_lt fits

-- ---- the low half of a product

-- the low 64 bits of a sum are the sum of the low 64 bits
xor_mod_64 : (a b : ℕ) → bit_xor a b % 2 ^ 64 ≡ bit_xor (a % 2 ^ 64) (b % 2 ^ 64)
xor_mod_64 a b = xor_mod a b 64

-- four sums of four products, a line for each class of the product
joined : (x0 x1 x2 x3 y0 y1 y2 y3 : ℕ)
    → carryless (bit_xor (bit_xor (bit_xor x0 x1) x2) x3) (bit_xor (bit_xor (bit_xor y0 y1) y2) y3)
    ≡ bit_xor
    (bit_xor
    (bit_xor (bit_xor (bit_xor (bit_xor (carryless x0 y0) (carryless x1 y3)) (carryless x2 y2)) (carryless x3 y1))
    (bit_xor (bit_xor (bit_xor (carryless x0 y1) (carryless x1 y0)) (carryless x2 y3)) (carryless x3 y2)))
    (bit_xor (bit_xor (bit_xor (carryless x0 y2) (carryless x1 y1)) (carryless x2 y0)) (carryless x3 y3)))
    (bit_xor (bit_xor (bit_xor (carryless x0 y3) (carryless x1 y2)) (carryless x2 y1)) (carryless x3 y0))
joined x0 x1 x2 x3 y0 y1 y2 y3 = simp (sum_carryless, carryless_sum, xor_assoc, xor_comm, xor_left_comm)

-- four integer products under one mask, if each is a carryless product modulo 2 ^ 64
masked_sum : (p q r s p' q' r' s' m : ℕ) → bit_and p m ≡ p' % 2 ^ 64 → bit_and q m ≡ q' % 2 ^ 64
    → bit_and r m ≡ r' % 2 ^ 64 → bit_and s m ≡ s' % 2 ^ 64
    → bit_and (bit_xor (bit_xor (bit_xor p q) r) s) m ≡ bit_xor (bit_xor (bit_xor p' q') r') s' % 2 ^ 64
masked_sum p q r s p' q' r' s' m of_p of_q of_r of_s =
    xor_and (bit_xor (bit_xor p q) r) s m
    ∙ ap₂ bit_xor
    (xor_and (bit_xor p q) r m
    ∙ ap₂ bit_xor (xor_and p q m ∙ ap₂ bit_xor of_p of_q ∙ sym (xor_mod_64 p' q')) of_r
    ∙ sym (xor_mod_64 (bit_xor p' q') r')) of_s
    ∙ sym (xor_mod_64 (bit_xor (bit_xor p' q') r') s')

-- the integer product of class i of x and class j of y
abbrev part_product : ℕ → ℕ → ℕ → ℕ → ℕ
part_product x y i j = bit_and x (class_mask i) * bit_and y (class_mask j) % 2 ^ 64

-- the carryless product of class i of x and class j of y
abbrev part_carryless : ℕ → ℕ → ℕ → ℕ → ℕ
part_carryless x y i j = carryless (bit_and x (class_mask i)) (bit_and y (class_mask j))

module _ (x y : ℕ) where
  -- the classes of y that meet those of x from 0 to 3 in one class of the product
  class_line : (k j0 j1 j2 j3 : ℕ) → j0 < 4 → j1 < 4 → j2 < 4 → j3 < 4
      → (0 + j0) % 4 ≡ k → (1 + j1) % 4 ≡ k → (2 + j2) % 4 ≡ k → (3 + j3) % 4 ≡ k
      → bit_and
      (bit_xor (bit_xor (bit_xor (part_product x y 0 j0) (part_product x y 1 j1)) (part_product x y 2 j2))
      (part_product x y 3 j3)) (class_mask k)
      ≡ bit_xor (bit_xor (bit_xor (part_carryless x y 0 j0) (part_carryless x y 1 j1)) (part_carryless x y 2 j2)) (part_carryless x y 3 j3)
      % 2 ^ 64
  class_line k j0 j1 j2 j3 small0 small1 small2 small3 e0 e1 e2 e3 =
      masked_sum _ _ _ _ (part_carryless x y 0 j0) (part_carryless x y 1 j1) (part_carryless x y 2 j2) (part_carryless x y 3 j3)
      (class_mask k) (at 0 j0 (lit< tt) small0 e0) (at 1 j1 (lit< tt) small1 e1) (at 2 j2 (lit< tt) small2 e2)
      (at 3 j3 (lit< tt) small3 e3)
    where
      at : (i j : ℕ) → i < 4 → j < 4 → (i + j) % 4 ≡ k
          → bit_and (part_product x y i j) (class_mask k) ≡ part_carryless x y i j % 2 ^ 64
      at i j i_small j_small e =
          ap (λ (m : ℕ). bit_and (part_product x y i j) (class_mask m)) (sym e) ∙ part i j x y i_small j_small

  -- the low half of the product as the code computes it
  pub low_carryless : x < 2 ^ 64 → y < 2 ^ 64
      → bit_xor
      (bit_xor
      (bit_xor
      (bit_and
      (bit_xor (bit_xor (bit_xor (part_product x y 0 0) (part_product x y 1 3)) (part_product x y 2 2))
      (part_product x y 3 1)) (class_mask 0))
      (bit_and
      (bit_xor (bit_xor (bit_xor (part_product x y 0 1) (part_product x y 1 0)) (part_product x y 2 3))
      (part_product x y 3 2)) (class_mask 1)))
      (bit_and
      (bit_xor (bit_xor (bit_xor (part_product x y 0 2) (part_product x y 1 1)) (part_product x y 2 0))
      (part_product x y 3 3)) (class_mask 2)))
      (bit_and
      (bit_xor (bit_xor (bit_xor (part_product x y 0 3) (part_product x y 1 2)) (part_product x y 2 1))
      (part_product x y 3 0)) (class_mask 3))
      ≡ carryless x y % 2 ^ 64
  low_carryless x_fits y_fits =
      ap₂ bit_xor
      (ap₂ bit_xor
      (ap₂ bit_xor
      (class_line 0 0 3 2 1 (lit< tt) (lit< tt) (lit< tt) (lit< tt) refl refl refl refl)
      (class_line 1 1 0 3 2 (lit< tt) (lit< tt) (lit< tt) (lit< tt) refl refl refl refl)
      ∙ sym (xor_mod_64 _ _))
      (class_line 2 2 1 0 3 (lit< tt) (lit< tt) (lit< tt) (lit< tt) refl refl refl refl)
      ∙ sym (xor_mod_64 _ _))
      (class_line 3 3 2 1 0 (lit< tt) (lit< tt) (lit< tt) (lit< tt) refl refl refl refl)
      ∙ sym (xor_mod_64 _ _)
      ∙ ap (λ (z : ℕ). z % 2 ^ 64)
      (sym (joined _ _ _ _ _ _ _ _) ∙ ap₂ carryless (classes-word x x_fits) (classes-word y y_fits))
