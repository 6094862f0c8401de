-- Sums and products of the conjugates of an element over a subfield: they are in it.
use Rattle.std.proofs.Common.{◌≡◌, ◌≢◌, inl, inr, ℕ, zero, suc, ◌+◌, ◌*◌, ◌/◌, ◌%◌, ◌^◌, ◌<◌, refl, sym, ◌∙◌, ap, ap₂, arith}
use Rattle.std.specs.Prelude.{bit_xor}
use Rattle.std.specs.Int.Bits.{xor_assoc}
use Rattle.std.proofs.lemmas.Bool.{cases_eq}
use Rattle.std.proofs.lemmas.Nat.{pow_below, xor_comm, xor_lt}
use Rattle.std.proofs.lemmas.Nat.Gcd.{dvd_of_mod-eq-zero}
use native.Mathlib.Nat.{div-mul_cancel, suc-mul, zero-mul}
use lib.Bits.{xor_self}
use Rattle.field_base.specs.Basis.{product_below, sum_below}
use Rattle.field_base.specs.Field.{IsField}
use Rattle.field_base.specs.Powers.{repeated_square}
use Rattle.field_base.specs.Ring.{IsRing}
use Rattle.field_base.proofs.FieldLemmas.{no_zero_divisors}
use Rattle.field_base.proofs.PowerLemmas.{one-times, repeated_square-add, repeated_square-lt, repeated_square_times, repeated_square_xor}
use Rattle.field_base.proofs.RingLemmas.{sum_times, times-zero, xor_cancel, xor_nothing}
use Rattle.any_field.proofs.Products.{repeated_square-zero}

-- a map that keeps an operation, along a sequence in which each is the image of the one before it, moves what they are combined to by one
-- place
module _ (op : ℕ → ℕ → ℕ) (comm : (a b : ℕ) → op a b ≡ op b a) (assoc : (a b c : ℕ) → op (op a b) c ≡ op a (op b c)) (map : ℕ → ℕ)
    (keeps : (a b : ℕ) → map (op a b) ≡ op (map a) (map b)) (g : ℕ → ℕ) (moves : (i : ℕ) → map (g i) ≡ g (suc i)) (all : ℕ → ℕ)
    (start : map (all 0) ≡ all 0) (more : (n : ℕ) → all (suc n) ≡ op (all n) (g n)) where
  pub moved : (n : ℕ) → op (map (all n)) (g 0) ≡ op (all n) (g n)
  moved zero = ap (λ (z : ℕ). op z (g 0)) start
  moved (suc n) =
      ap (λ (z : ℕ). op z (g 0)) (ap map (more n) ∙ keeps (all n) (g n) ∙ ap (op (map (all n))) (moves n))
      ∙ assoc (map (all n)) (g (suc n)) (g 0) ∙ ap (op (map (all n))) (comm (g (suc n)) (g 0)) ∙ sym (assoc (map (all n)) (g 0) (g (suc n)))
      ∙ ap (λ (z : ℕ). op z (g (suc n))) (moved n ∙ sym (more n))

module _ (width : ℕ) (times : ℕ → ℕ → ℕ) (wide : 0 < width) (field : IsField width times) (d x : ℕ) where
  ring : IsRing width 1 times
  ring = field.ring

  abbrev conjugate : ℕ → ℕ
  conjugate i = repeated_square 1 times (i * d) x

  -- d squarings give the next
  next-is : (i : ℕ) → repeated_square 1 times d (conjugate i) ≡ conjugate (suc i)
  next-is i =
      let more : suc i * d ≡ d + i * d = omega (arith, suc-mul i d) in
      sym (ap (λ (n : ℕ). repeated_square 1 times n x) more ∙ repeated_square-add width 1 times ring d (i * d) x)

  -- the first is the element
  no-squarings : repeated_square 1 times 0 x ≡ x % 2 ^ width
  unfolding repeated_square
  no-squarings = ring.one x

  conjugate-none : conjugate 0 ≡ x % 2 ^ width
  conjugate-none = ap (λ (n : ℕ). repeated_square 1 times n x) (zero-mul d) ∙ no-squarings

  pub next-place : (i moved next : ℕ) → moved ≡ conjugate i → next ≡ repeated_square 1 times d moved → next ≡ conjugate (i + 1)
  next-place i moved next is next_is = next_is ∙ ap (repeated_square 1 times d) is ∙ next-is i ∙ ap conjugate (plus i)
    where
      plus : (i : ℕ) → suc i ≡ i + 1
      plus i = omega arith

  pub first-place : (low : ℕ) → low ≡ x % 2 ^ width → low ≡ conjugate 0
  first-place low is = is ∙ sym conjugate-none

  -- as many squarings as the width return the element
  around : width % d ≡ 0 → conjugate (width / d) ≡ conjugate 0
  around by =
      ap (λ (n : ℕ). repeated_square 1 times n x) (div-mul_cancel d (dvd_of_mod-eq-zero d by)) ∙ field.squarings_return x ∙ sym conjugate-none

  zero-stays : repeated_square 1 times d 0 ≡ 0
  zero-stays = repeated_square-zero width 1 times ring d

  sum-more : (n : ℕ) → sum_below conjugate (suc n) ≡ bit_xor (sum_below conjugate n) (conjugate n)
  unfolding sum_below
  sum-more n = refl

  sum-none : sum_below conjugate 0 ≡ 0
  unfolding sum_below
  sum-none = refl

  pub sum-start : 0 ≡ sum_below conjugate 0
  sum-start = sym sum-none

  pub sum-next : (n sum moved : ℕ) → sum ≡ sum_below conjugate n → moved ≡ conjugate n → bit_xor sum moved ≡ sum_below conjugate (n + 1)
  sum-next n sum moved sum_is moved_is = ap₂ bit_xor sum_is moved_is ∙ sym (sum-more n) ∙ ap (sum_below conjugate) (plus n)
    where
      plus : (n : ℕ) → suc n ≡ n + 1
      plus n = omega arith

  -- the trace is in the subfield
  pub sum-stays : width % d ≡ 0 → (t : ℕ) → t ≡ sum_below conjugate (width / d) → repeated_square 1 times d t ≡ t
  sum-stays by t is =
      ap (repeated_square 1 times d) is
      ∙ cancel (repeated_square 1 times d (sum_below conjugate (width / d))) (sum_below conjugate (width / d)) (conjugate 0)
      (moved bit_xor xor_comm xor_assoc (repeated_square 1 times d) (repeated_square_xor width 1 times ring d) conjugate next-is (sum_below conjugate)
      (ap (repeated_square 1 times d) sum-none ∙ zero-stays ∙ sym sum-none) sum-more (width / d)
      ∙ ap (bit_xor (sum_below conjugate (width / d))) (around by))
      ∙ sym is
    where
      cancel : (a b c : ℕ) → bit_xor a c ≡ bit_xor b c → a ≡ b
      cancel a b c e = sym (xor_cancel c a) ∙ ap (bit_xor c) (xor_comm c a ∙ e ∙ xor_comm b c) ∙ xor_cancel c b

  product-more : (n : ℕ) → product_below times conjugate (suc n) ≡ times (product_below times conjugate n) (conjugate n)
  unfolding product_below
  product-more n = refl

  product-none : product_below times conjugate 0 ≡ 1
  unfolding product_below
  product-none = refl

  pub product-start : 1 ≡ product_below times conjugate 0
  product-start = sym product-none

  pub product-next : (n product moved next : ℕ) → product ≡ product_below times conjugate n → moved ≡ conjugate n → next ≡ times product moved
      → next ≡ product_below times conjugate (n + 1)
  product-next n product moved next product_is moved_is next_is =
      next_is ∙ ap₂ times product_is moved_is ∙ sym (product-more n) ∙ ap (product_below times conjugate) (plus n)
    where
      plus : (n : ℕ) → suc n ≡ n + 1
      plus n = omega arith

  one-stays : (n : ℕ) → repeated_square 1 times n 1 ≡ 1
  unfolding repeated_square
  one-stays zero = one-times width 1 times ring 1 (pow_below 0 width wide)
  one-stays (suc n) = ap (λ (z : ℕ). times z z) (one-stays n) ∙ one-times width 1 times ring 1 (pow_below 0 width wide)

  product-lt : (n : ℕ) → product_below times conjugate n < 2 ^ width
  unfolding product_below
  product-lt zero = pow_below 0 width wide
  product-lt (suc n) = ring.below (product_below times conjugate n) (conjugate n)

  -- the product of conjugates of 0 is 0
  product-zero : (n : ℕ) → 0 < n → conjugate 0 ≡ 0 → product_below times conjugate n ≡ 0
  product-zero zero some none = absurd (omega (arith, some))
  product-zero (suc n) some none =
      product-more n ∙ ap (times (product_below times conjugate n)) (each n) ∙ times-zero width 1 times ring (product_below times conjugate n)
    where
      each : (i : ℕ) → conjugate i ≡ 0
      each zero = none
      each (suc i) = sym (next-is i) ∙ ap (repeated_square 1 times d) (each i) ∙ zero-stays

  -- and the norm is in the subfield
  pub product-stays : 0 < d → width % d ≡ 0 → (t : ℕ) → t ≡ product_below times conjugate (width / d) → repeated_square 1 times d t ≡ t
  product-stays d_some by t is =
      elim (cases_eq (conjugate 0) 0) [
        | inl none ↦
            let nothing = is ∙ product-zero (width / d) (places (width / d) d width (div-mul_cancel d (dvd_of_mod-eq-zero d by)) wide) none in
            ap (repeated_square 1 times d) nothing ∙ zero-stays ∙ sym nothing
        | inr some ↦
            ap (repeated_square 1 times d) is
            ∙ cancel (repeated_square 1 times d (product_below times conjugate (width / d))) (product_below times conjugate (width / d)) (conjugate 0)
            (repeated_square-lt width 1 times ring d (product_below times conjugate (width / d))) (product-lt (width / d))
            (repeated_square-lt width 1 times ring (0 * d) x) some
            (moved times ring.comm ring.assoc (repeated_square 1 times d) (repeated_square_times width 1 times ring d) conjugate next-is
            (product_below times conjugate) (ap (repeated_square 1 times d) product-none ∙ one-stays d ∙ sym product-none) product-more (width / d)
            ∙ ap (times (product_below times conjugate (width / d))) (around by))
            ∙ sym is
      ]
    where
      places : (n d w : ℕ) → n * d ≡ w → 0 < w → 0 < n
      places zero d w parts some = absurd (omega (arith, sym (zero-mul d) ∙ parts, some))
      places (suc n) d w parts some = omega arith

      cancel : (a b c : ℕ) → a < 2 ^ width → b < 2 ^ width → c < 2 ^ width → c ≢ 0 → times a c ≡ times b c → a ≡ b
      cancel a b c a_fits b_fits c_fits some e =
          elim (no_zero_divisors width times ring field.inverses (bit_xor a b) c (xor_lt width a b a_fits b_fits) c_fits
          (sum_times width 1 times ring a b c ∙ ap (λ (z : ℕ). bit_xor z (times b c)) e ∙ xor_self (times b c))) [
            | inl same ↦ xor_nothing a b same
            | inr none ↦ absurd (some none)
          ]
