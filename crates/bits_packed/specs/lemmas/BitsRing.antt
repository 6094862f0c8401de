-- Packed bits are a ring: the numbers below 2 ^ w under exclusive or and the lanes that are 1 in both. These lemmas stand here since
-- the implementations of the traits cite them.
use Rattle.std.proofs.Common.{◌≡◌, ℕ, ◌+◌, ◌-◌, ◌%◌, ◌^◌, ◌<◌, ◌↔◌, Bool, true, sym, ◌∙◌, ap, ap₂, arith}
use Rattle.std.specs.Prelude.{bit_and, bit_xor, min}
use Rattle.std.specs.Int.{bit_at}
use Rattle.std.proofs.lemmas.Nat.{and_comm, and_assoc, and_mask, and_mod, pow_pos, xor_lt}
use Rattle.std.proofs.lemmas.Nat.Bits.{bit_at_and, bit_at_xor, bit_at-lt, same_from_bits_below}
use native.Mathlib.Nat.{mod-lt, mod-eq_of_lt}
use Rattle.field_base.specs.Ring.{IsRing}
use Rattle.bits_packed.specs.Lanes.{bitwise_product}
use Rattle.field_base.proofs.BasisSums.{bit_at-mod}

-- of three bits, the first taken from the sum of the others
min_over_sum : (a b c : ℕ) → a < 2 → b < 2 → c < 2 → min a ((b + c) % 2) ≡ (min a b + min a c) % 2
min_over_sum a b c p q r = omega arith

module _ (w : ℕ) where
  -- a product is below 2 ^ w
  product-lt : (a b : ℕ) → bitwise_product w a b < 2 ^ w
  product-lt a b = mod-lt (bit_and a b) (pow_pos w)

  -- a product reads the low bits alone
  mod-product : (a b : ℕ) → bitwise_product w (a % 2 ^ w) b ≡ bitwise_product w a b
  mod-product a b =
      and_mod (a % 2 ^ w) b w
      ∙ ap (λ (x : ℕ). bit_and x (b % 2 ^ w)) (mod-eq_of_lt (mod-lt a (pow_pos w)))
      ∙ sym (and_mod a b w)

  -- the product is commutative
  product_comm : (a b : ℕ) → bitwise_product w a b ≡ bitwise_product w b a
  product_comm a b = ap (λ (x : ℕ). x % 2 ^ w) (and_comm a b)

  -- the product distributes over sums
  over_sum : (a b c : ℕ) → bitwise_product w a (bit_xor b c) ≡ bit_xor (bitwise_product w a b) (bitwise_product w a c)
  over_sum a b c =
      same_from_bits_below w (bitwise_product w a (bit_xor b c)) (bit_xor (bitwise_product w a b) (bitwise_product w a c))
      (product-lt a (bit_xor b c)) (xor_lt w (bitwise_product w a b) (bitwise_product w a c) (product-lt a b) (product-lt a c)) each
    where
      bit_of : (x y j : ℕ) → j < w → bit_at (bitwise_product w x y) j ≡ min (bit_at x j) (bit_at y j)
      bit_of x y j less = bit_at-mod (bit_and x y) w j less ∙ bit_at_and x y j

      each : (j : ℕ) → j < w → bit_at (bitwise_product w a (bit_xor b c)) j ≡ bit_at (bit_xor (bitwise_product w a b) (bitwise_product w a c)) j
      each j less =
          bit_of a (bit_xor b c) j less ∙ ap (min (bit_at a j)) (bit_at_xor b c j)
          ∙ min_over_sum (bit_at a j) (bit_at b j) (bit_at c j) (bit_at-lt a j) (bit_at-lt b j) (bit_at-lt c j)
          ∙ sym (bit_at_xor (bitwise_product w a b) (bitwise_product w a c) j
          ∙ ap₂ (λ (x y : ℕ). (x + y) % 2) (bit_of a b j less) (bit_of a c j less))

  -- the numbers below 2 ^ w are a ring, with 2 ^ w - 1 as its one
  pub bits_ring : IsRing w (2 ^ w - 1) (bitwise_product w)
  bits_ring = record {
    below = product-lt;
    comm = product_comm;
    assoc = λ a b c.
        mod-product (bit_and a b) c ∙ ap (λ (x : ℕ). x % 2 ^ w) (and_assoc c a b)
        ∙ product_comm a (bit_and b c) ∙ sym (mod-product (bit_and b c) a) ∙ product_comm (bit_and b c % 2 ^ w) a;
    over_sum = over_sum;
    one = λ a. ap (λ (x : ℕ). x % 2 ^ w) (and_comm (2 ^ w - 1) a ∙ and_mask a w) ∙ mod-eq_of_lt (mod-lt a (pow_pos w));
  }

  -- 2 ^ w - 1 is below 2 ^ w
  pub ones_fit : 2 ^ w - 1 < 2 ^ w
  ones_fit = let some = pow_pos w in omega (arith, some)

-- the test of packed bits for equality, from the one of rows
pub equal_numbers : {A : Type 0} (number : A → ℕ) (equal : A → A → Bool) (x y : A) → (equal x y ≡ true) ↔ (x ≡ y)
    → (number x ≡ number y → x ≡ y) → (equal x y ≡ true) ↔ (number x ≡ number y)
equal_numbers number equal x y decides same = (λ h. ap number (decides.0 h), λ e. decides.1 (same e))
