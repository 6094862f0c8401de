-- Tables of the values at a root, which are a linear map: the one that takes the powers of x to those of the root.
use Rattle.std.proofs.Common.{◌≡◌, ℕ, zero, suc, ◌+◌, ◌*◌, ◌^◌, ◌≤◌, ◌<◌, List, length, replicate, refl, sym, ◌∙◌, ap, subst, arith}
use Rattle.std.proofs.Math.ListN.{set}
use Rattle.std.proofs.Math.Pow.{pow_mono}
use Rattle.std.proofs.lemmas.List.{length-replicate, length-set}
use native.Mathlib.Nat.{lt_of_lt_of_le, mod-eq_of_lt}
use Rattle.std.specs.Prelude.{slice_index}
use Rattle.field_base.specs.LinearMaps.{linear_image}
use Rattle.field_base.specs.Powers.{power}
use Rattle.field_base.specs.Ring.{IsRing}
use Rattle.field_base.proofs.LinearMapLemmas.{the_linear_map}
use Rattle.word_tables.specs.LinearMap.{sum_of_values}
use Rattle.word_tables.proofs.DigitMaps.{sum_of_values_is}
use Rattle.word_tables.proofs.TabledMaps.{Hold, digit_value}
use Rattle.any_field.specs.Values.{binary_value}
use Rattle.any_field.proofs.RootValues.{values_are_linear}
use Rattle.any_field.proofs.ScalarMaps.{written-next}

-- the sum of the values at the digits of a polynomial is its value at the root
pub values-by-digits : (w : ℕ) (times : ℕ → ℕ → ℕ) → 0 < w → IsRing w 1 times → (root d digits : ℕ) (powers values : List ℕ) → d ≤ 128
    → d ≤ 4 * digits → length powers ≡ 128 → ((j : ℕ) → j < 128 → slice_index powers j ≡ power 1 times root j)
    → Hold (digit_value powers) (16 * digits) values → (x : ℕ) → x < 2 ^ d → sum_of_values digits values x ≡ binary_value times root x
values-by-digits w times wide ring root d digits powers values narrow enough long each held x fits =
    let map = the_linear_map powers in
    let are = λ (j : ℕ) (within : j < length powers). each j (subst (λ (n : ℕ). j < n) long within) in
    let inside : x < 2 ^ length powers = subst (λ (n : ℕ). x < 2 ^ n) (sym long) (lt_of_lt_of_le fits (pow_mono narrow)) in
    sum_of_values_is powers values digits x held
    ∙ ap (linear_image powers) (mod-eq_of_lt (lt_of_lt_of_le fits (pow_mono enough)))
    ∙ (values_are_linear w times root powers wide ring are).only (linear_image powers) map.of_sum map.of_bit x inside

-- the powers before a place stand there, and the next one is known
pub record ArePowers (times : ℕ → ℕ → ℕ) (root place : ℕ) (powers : List ℕ) (now : ℕ) : Type 0 where
  pub long : length powers ≡ 128
  pub each : (j : ℕ) → j < place → slice_index powers j ≡ power 1 times root j
  pub next : now ≡ power 1 times root place

module _ (times : ℕ → ℕ → ℕ) (root : ℕ) where
  pub powers-start : ArePowers times root 0 (replicate {A = ℕ} 128 0) 1
  unfolding power
  powers-start = record {
    long = length-replicate {A = ℕ} 128 0;
    each = λ j below. absurd (omega (arith, below));
    next = refl;
  }

  power-suc : (e : ℕ) → times (power 1 times root e) root ≡ power 1 times root (suc e)
  unfolding power
  power-suc e = refl

  pub powers-next : (place now moved : ℕ) (powers : List ℕ) → place < 128 → ArePowers times root place powers now → moved ≡ times now root
      → ArePowers times root (place + 1) (set powers place now) moved
  powers-next place now moved powers less are moved_is = record {
    long = length-set powers place now ∙ are.long;
    each = written-next (power 1 times root) powers place now (subst (λ (n : ℕ). place < n) (sym are.long) less) are.each are.next;
    next = moved_is ∙ ap (λ (z : ℕ). times z root) are.next ∙ one-more place;
  }
    where
      plus : (e : ℕ) → suc e ≡ e + 1
      plus e = omega arith

      one-more : (e : ℕ) → times (power 1 times root e) root ≡ power 1 times root (e + 1)
      one-more e = power-suc e ∙ ap (power 1 times root) (plus e)
