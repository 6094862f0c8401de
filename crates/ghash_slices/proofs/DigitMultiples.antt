-- The multiples of a scalar by the digits of a byte to base 16.
use Rattle.std.proofs.Common.{◌≡◌, ◌≢◌, ℕ, zero, suc, ◌+◌, ◌*◌, ◌^◌, ◌<◌, ◌≤◌, ◌⊎◌, inl, inr, List, [], ◌∷◌, length, get_or, get_or-set_other, get_or-set_same, sym, ◌∙◌, ap, subst, arith, lit<}
use Rattle.std.specs.Prelude.{bit_xor}
use Rattle.std.proofs.Math.ListN.{length-set, set}
use Rattle.std.proofs.lemmas.Bool.{cases_lt}
use native.Mathlib.Nat.{mod-eq_of_lt}
use lib.Bits.{xor_shifted}
use Rattle.field_base.proofs.RemainderRing.{ghash_ring}
use Rattle.field_base.proofs.RingLemmas.{times-zero}
use Rattle.ghash_slices.specs.LowStages.{ghash_product}
use Rattle.ghash_slices.proofs.ShiftedBytes.{only_shifted}

-- ---- multiples by digits

-- an even multiple, and the odd one behind it
pub even_multiple : (s n : ℕ) → n < 16 → ghash_product (ghash_product s n) 2 ≡ ghash_product s (2 * n)
even_multiple s n small =
    let doubled : n * 2 ≡ 2 * n = omega arith in
    ghash_ring.assoc s n 2 ∙ ap (ghash_product s) (only_shifted n 1 (omega arith) (lit< tt) (omega arith) ∙ doubled)

pub odd_multiple : (s n : ℕ) → s < 2 ^ 128 → bit_xor (ghash_product s (2 * n)) s ≡ ghash_product s (2 * n + 1)
odd_multiple s n fits =
    let doubled : 2 * n ≡ n * 2 = omega arith in
    let sum : n * 2 + 1 ≡ 2 * n + 1 = omega arith in
    ap (bit_xor (ghash_product s (2 * n))) (sym (by_one s fits)) ∙ sym (ghash_ring.over_sum s (2 * n) 1)
    ∙ ap (ghash_product s) (ap (λ (m : ℕ). bit_xor m 1) doubled ∙ xor_shifted n 1 1 (lit< tt) ∙ sum)
  where
    by_one : (a : ℕ) → a < 2 ^ 128 → ghash_product a 1 ≡ a
    by_one a a_fits = ghash_ring.comm a 1 ∙ ghash_ring.one a ∙ mod-eq_of_lt a_fits

-- the multiples of 16 times the scalar
pub high_multiple : (s t n : ℕ) → n < 16 → t ≡ ghash_product s 16 → ghash_product t n ≡ ghash_product s (n * 16)
high_multiple s t n small is =
    ap (λ (x : ℕ). ghash_product x n) is ∙ ghash_ring.assoc s 16 n
    ∙ ap (ghash_product s) (ghash_ring.comm 16 n ∙ only_shifted n 4 (omega arith) (lit< tt) (omega arith))

-- the multiples by 0 and 1
pub first_multiples : (s : ℕ) → s < 2 ^ 128 → (n : ℕ) → n < 2
    → get_or (0 ∷ s ∷ 0 ∷ 0 ∷ 0 ∷ 0 ∷ 0 ∷ 0 ∷ 0 ∷ 0 ∷ 0 ∷ 0 ∷ 0 ∷ 0 ∷ 0 ∷ 0 ∷ []) n 0 ≡ ghash_product s n
first_multiples s fits zero below = sym (times-zero 128 1 ghash_product ghash_ring s)
first_multiples s fits (suc zero) below = sym (ghash_ring.comm s 1 ∙ ghash_ring.one s ∙ mod-eq_of_lt fits)
first_multiples s fits (suc (suc n)) below = absurd (omega arith)

-- the next two
pub next_multiples : (s half : ℕ) (products : List ℕ) (even : ℕ) → s < 2 ^ 128 → 1 ≤ half → half < 8 → length products ≡ 16
    → ((n : ℕ) → n < 2 * half → get_or products n 0 ≡ ghash_product s n) → even ≡ ghash_product (get_or products half 0) 2
    → (length (set (set products (2 * half) even) (2 * half + 1) (bit_xor even s)) ≡ 16)
    × ((n : ℕ) → n < 2 * (half + 1) → get_or (set (set products (2 * half) even) (2 * half + 1) (bit_xor even s)) n 0 ≡ ghash_product s n)
next_multiples s half products even fits some few long before is =
    (length-set (set products (2 * half) even) (2 * half + 1) (bit_xor even s) ∙ first_long, λ n below. pick n below (cases_lt n (2 * half + 1)))
  where
    first_long : length (set products (2 * half) even) ≡ 16
    first_long = length-set products (2 * half) even ∙ long

    even_is : even ≡ ghash_product s (2 * half)
    even_is =
        is ∙ ap (λ (x : ℕ). ghash_product x 2) (before half (omega arith)) ∙ even_multiple s half (omega arith)

    earlier : (n : ℕ) → n < 2 * half + 1 → (n < 2 * half) ⊎ (2 * half ≤ n) → get_or (set products (2 * half) even) n 0 ≡ ghash_product s n
    earlier n below (inl done) = let other : n ≢ 2 * half = omega arith in rw get_or-set_other (before n done)
    earlier n below (inr here) =
        let same : 2 * half ≡ n = omega arith in
        let inside : 2 * half < length products = omega (arith, long) in
        subst (λ (m : ℕ). get_or (set products (2 * half) even) m 0 ≡ ghash_product s m) same (rw get_or-set_same even_is)

    pick : (n : ℕ) → n < 2 * (half + 1) → (n < 2 * half + 1) ⊎ (2 * half + 1 ≤ n)
        → get_or (set (set products (2 * half) even) (2 * half + 1) (bit_xor even s)) n 0 ≡ ghash_product s n
    pick n below (inl done) =
        let other : n ≢ 2 * half + 1 = omega arith in rw get_or-set_other (earlier n done (cases_lt n (2 * half)))
    pick n below (inr last) =
        let same : 2 * half + 1 ≡ n = omega arith in
        let inside : 2 * half + 1 < length (set products (2 * half) even) = omega (arith, first_long) in
        subst (λ (m : ℕ). get_or (set (set products (2 * half) even) (2 * half + 1) (bit_xor even s)) m 0 ≡ ghash_product s m) same
        (rw get_or-set_same (ap (λ (x : ℕ). bit_xor x s) even_is ∙ odd_multiple s half fits))
