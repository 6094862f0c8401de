-- Tables of powers and of logarithms of a generator of a field of bytes, of inverses and of square roots. Each is checked whole by
-- one computation, a Bool; from the Bool follows what holds at each entry.
use Rattle.std.proofs.Common.{◌≡◌, ◌≢◌, ℕ, zero, suc, ◌+◌, ◌-◌, ◌<◌, ◌≤◌, Bool, true, ◌&&◌, eqb, ltb, List, length, take, drop, get_or, sym, ◌∙◌, ap, ap₂, subst, arith, lit<}
use Rattle.std.proofs.lemmas.Bool.{and_parts, eqb-true, ltb-true}
use Rattle.std.proofs.lemmas.List.{get_or-drop, get_or-take, length-drop, length-take-le}
use native.Mathlib.Nat.{zero-add}
use Rattle.field_base.specs.LogTables.{AreLogTables}
use Rattle.field_base.specs.Powers.{power}
use Rattle.field_base.specs.Ring.{IsRing}
use Rattle.field_base.proofs.PowerLemmas.{one-times, power-add}
use Rattle.field_base.proofs.RingLemmas.{times-zero, zero-times}
use Rattle.field_base.proofs.TableChecks.{passes, passes_at, repeats, repeats_at}

-- ---- what one entry must pass

-- y is below 255, and the table of powers has x there
unfoldable pub is_logarithm : List ℕ → ℕ → ℕ → Bool
is_logarithm powers x y = ltb y 255 && eqb (get_or powers y 0) x

-- y is 0
unfoldable pub is_nothing : ℕ → ℕ → Bool
is_nothing x y = eqb y 0

-- the product of the place x and of y is 1
unfoldable pub is_inverse : (ℕ → ℕ → ℕ) → ℕ → ℕ → Bool
is_inverse times x y = eqb (times x y) 1

-- y is a square root of the place x
unfoldable pub is_root : (ℕ → ℕ → ℕ) → ℕ → ℕ → Bool
is_root times x y = eqb (times y y) x

-- ---- inverses and roots

module _ (times : ℕ → ℕ → ℕ) (table : List ℕ) (long : length table ≡ 256) where
  -- for a other than 0 the product of a by its entry is 1
  pub inverse_at : passes (is_inverse times) 1 (drop 1 table) ≡ true → (a : ℕ) → a < 256 → a ≢ 0 → times a (get_or table a 0) ≡ 1
  unfolding is_inverse
  inverse_at pass a inside nonzero =
      let place : 1 + (a - 1) ≡ a = omega (arith, nonzero) in
      let rest = length-drop 1 table in
      subst (λ (x : ℕ). times x (get_or table x 0) ≡ 1) place
      (ap (times (1 + (a - 1))) (sym (get_or-drop 1 table (a - 1) 0))
      ∙ eqb-true (times (1 + (a - 1)) (get_or (drop 1 table) (a - 1) 0)) 1
      (passes_at (is_inverse times) 1 (drop 1 table) (a - 1) pass (omega (arith, rest, long, inside, nonzero))))

  -- the square of the entry at a is a
  pub root_at : passes (is_root times) 0 table ≡ true → (a : ℕ) → a < 256 → times (get_or table a 0) (get_or table a 0) ≡ a
  unfolding is_root
  root_at pass a inside =
      eqb-true (times (get_or table a 0) (get_or table a 0)) (0 + a) (passes_at (is_root times) 0 table a pass (omega (arith, inside, long)))
      ∙ zero-add a

-- ---- powers and logarithms

module _ (times : ℕ → ℕ → ℕ) (ring : IsRing 8 1 times) (generator : ℕ) (powers logarithms : List ℕ) (all : 511 ≤ length powers)
    (long : length logarithms ≡ 256) (powers_pass : repeats (λ x. times x generator) 1 (take 511 powers) ≡ true)
    (logarithms_pass : passes (is_logarithm powers) 1 (drop 1 logarithms) ≡ true) where
  -- entry e of the table of powers is the generator to the power e
  pub power_at : (e : ℕ) → e < 511 → get_or powers e 0 ≡ power 1 times generator e
  power_at e inside =
      let taken = length-take-le 511 powers all in
      sym (get_or-take 511 powers e 0 inside) ∙ repeats_at times generator (take 511 powers) e powers_pass (omega (arith, taken, inside))

  -- the check of the logarithm of x
  logarithm_passes : (x : ℕ) → 0 < x → x < 256 → is_logarithm powers x (get_or logarithms x 0) ≡ true
  logarithm_passes x some inside =
      let place : 1 + (x - 1) ≡ x = omega (arith, some) in
      let rest = length-drop 1 logarithms in
      subst (λ (n : ℕ). is_logarithm powers n (get_or logarithms n 0) ≡ true) place
      (ap (is_logarithm powers (1 + (x - 1))) (sym (get_or-drop 1 logarithms (x - 1) 0))
      ∙ passes_at (is_logarithm powers) 1 (drop 1 logarithms) (x - 1) logarithms_pass (omega (arith, rest, long, inside, some)))

  -- for x other than 0 the logarithm of x is below 255, and the generator to its power is x
  pub logarithm_at : (x : ℕ) → 0 < x → x < 256
      → (get_or logarithms x 0 < 255) × (power 1 times generator (get_or logarithms x 0) ≡ x)
  unfolding is_logarithm
  logarithm_at x some inside =
      let parts = and_parts (ltb (get_or logarithms x 0) 255) (eqb (get_or powers (get_or logarithms x 0) 0) x) (logarithm_passes x some inside) in
      let low : get_or logarithms x 0 < 255 = ltb-true (get_or logarithms x 0) 255 parts.0 in
      (low, sym (power_at (get_or logarithms x 0) (omega (arith, low))) ∙ eqb-true (get_or powers (get_or logarithms x 0) 0) x parts.1)

  -- the entry at the sum of two logarithms is the product
  pub product_at : (a b : ℕ) → 0 < a → 0 < b → a < 256 → b < 256 → get_or powers (get_or logarithms a 0 + get_or logarithms b 0) 0 ≡ times a b
  product_at a b a_some b_some a_fits b_fits =
      let of_a = logarithm_at a a_some a_fits in
      let of_b = logarithm_at b b_some b_fits in
      power_at (get_or logarithms a 0 + get_or logarithms b 0) (omega (arith, of_a.0, of_b.0))
      ∙ power-add 8 1 times ring (lit< tt) generator (get_or logarithms a 0) (get_or logarithms b 0)
      ∙ ap₂ times of_a.1 of_b.1

  -- where the order of the generator divides 255, the entry at the difference of two logarithms and 255 is the quotient
  pub quotient_at : power 1 times generator 255 ≡ 1 → (a d : ℕ) → 0 < a → 0 < d → a < 256 → d < 256
      → times d (get_or powers (get_or logarithms a 0 + (255 - get_or logarithms d 0)) 0) ≡ a
  quotient_at order a d a_some d_some a_fits d_fits =
      let of_a = logarithm_at a a_some a_fits in
      let of_d = logarithm_at d d_some d_fits in
      let difference = get_or logarithms a 0 + (255 - get_or logarithms d 0) in
      let whole : get_or logarithms d 0 + difference ≡ 255 + get_or logarithms a 0 = omega (arith, of_d.0) in
      let sum_of = power-add 8 1 times ring (lit< tt) generator in
      ap₂ times (sym of_d.1) (power_at difference (omega (arith, of_a.0)))
      ∙ sym (sum_of (get_or logarithms d 0) difference)
      ∙ ap (power 1 times generator) whole
      ∙ sum_of 255 (get_or logarithms a 0)
      ∙ ap₂ times order of_a.1
      ∙ one-times 8 1 times ring a a_fits

  -- with zeros from 511 on, at which the logarithm of 0 stands, they give all products
  module _ (whole : length powers ≡ 1023) (none : get_or logarithms 0 0 ≡ 511) (zeros_pass : passes is_nothing 0 (drop 511 powers) ≡ true) where
    zero_at : (e : ℕ) → 511 ≤ e → e < 1023 → get_or powers e 0 ≡ 0
    unfolding is_nothing
    zero_at e above inside =
        let place : 511 + (e - 511) ≡ e = omega (arith, above) in
        let rest = length-drop 511 powers in
        ap (λ (i : ℕ). get_or powers i 0) (sym place) ∙ sym (get_or-drop 511 powers (e - 511) 0)
        ∙ eqb-true (get_or (drop 511 powers) (e - 511) 0) 0
        (passes_at is_nothing 0 (drop 511 powers) (e - 511) zeros_pass (omega (arith, rest, whole, above, inside)))

    logarithm_fits : (x : ℕ) → x < 256 → get_or logarithms x 0 ≤ 511
    logarithm_fits zero inside = omega (arith, none)
    logarithm_fits (suc x) inside = let low = (logarithm_at (suc x) (omega arith) inside).0 in omega (arith, low)

    every_product : (a b : ℕ) → a < 256 → b < 256 → get_or powers (get_or logarithms a 0 + get_or logarithms b 0) 0 ≡ times a b
    every_product zero b a_fits b_fits =
        let few = logarithm_fits b b_fits in
        zero_at (get_or logarithms 0 0 + get_or logarithms b 0) (omega (arith, none)) (omega (arith, none, few))
        ∙ sym (zero-times 8 1 times ring b)
    every_product (suc a) zero a_fits b_fits =
        let few = logarithm_fits (suc a) a_fits in
        zero_at (get_or logarithms (suc a) 0 + get_or logarithms 0 0) (omega (arith, none)) (omega (arith, none, few))
        ∙ sym (times-zero 8 1 times ring (suc a))
    every_product (suc a) (suc b) a_fits b_fits = product_at (suc a) (suc b) (omega arith) (omega arith) a_fits b_fits

    pub log_tables : AreLogTables times powers logarithms
    log_tables = record { fits = logarithm_fits; product = every_product }
