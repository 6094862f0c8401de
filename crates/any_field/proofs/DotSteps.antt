-- The sum of products of two slices, which is reduced at its end.
use Rattle.std.proofs.Common.{◌≡◌, ℕ, ◌+◌, ◌*◌, ◌%◌, ◌^◌, ◌<◌, ◌≤◌, List, length, drop, get_or, sym, ◌∙◌, ap, subst}
use Rattle.std.specs.Prelude.{bit_xor}
use Rattle.std.proofs.lemmas.Nat.{pow_pos, xor_block, xor_lt}
use native.Mathlib.Nat.{mod-lt}
use lib.Bits.{xor_zero_l}
use Rattle.field_base.specs.Carryless.{carryless}
use Rattle.field_base.specs.Powers.{dot_of}
use Rattle.field_base.specs.Remainder.{rem}
use Rattle.field_base.proofs.CarrylessProduct.{carryless_lt}
use Rattle.field_base.proofs.DotLemmas.{dot_of-drop, dot_end}
use Rattle.field_base.proofs.RemainderDot.{rem_dot_step}
use Rattle.field_base.proofs.RemainderLaws.{rem_small}
use Rattle.any_field.specs.Contexts.{IsContext, field_product, with_top}
use Rattle.any_field.proofs.ContextFields.{low-product}
use Rattle.any_field.proofs.WordRemainders.{top-degree}

-- what is left of the sum so far, and the sum from this place on, are the whole
pub record IsDotSoFar {W : Type 0} (number : W → ℕ) (w t : ℕ) (xs ys : List W) (i total : ℕ) : Type 0 where
  pub sum : bit_xor (rem w (with_top w t) total) (dot_of (field_product w t) number (drop i xs) (drop i ys))
      ≡ dot_of (field_product w t) number xs ys
  pub fits : total < 2 ^ (w + w)

module _ {W : Type 0} (number : W → ℕ) (w t r : ℕ) (context : IsContext w t r) (xs ys : List W) where
  pub dot-start : IsDotSoFar number w t xs ys 0 0
  dot-start = record {
    sum =
        ap (λ (z : ℕ). bit_xor z (dot_of (field_product w t) number xs ys))
        (rem_small w (with_top w t) (top-degree w t context.tail_below) 0 (pow_pos w))
        ∙ xor_zero_l (dot_of (field_product w t) number xs ys);
    fits = pow_pos (w + w);
  }

  -- the product at one place more
  pub dot-more : (i total added : ℕ) (x y : W) (u v : ℕ) → i < length xs → i < length ys → x ≡ get_or xs i x → y ≡ get_or ys i y
      → u ≡ number x % 2 ^ w → v ≡ number y % 2 ^ w → added ≡ bit_xor total (carryless u v)
      → IsDotSoFar number w t xs ys i total → IsDotSoFar number w t xs ys (i + 1) added
  dot-more i total added x y u v within within_other x_is y_is u_is v_is added_is so_far =
      let degree = top-degree w t context.tail_below in
      let u_fits : u < 2 ^ w = subst (λ (z : ℕ). z < 2 ^ w) (sym u_is) (mod-lt (number x) (pow_pos w)) in
      let v_fits : v < 2 ^ w = subst (λ (z : ℕ). z < 2 ^ w) (sym v_is) (mod-lt (number y) (pow_pos w)) in
      let all = dot_of (field_product w t) number in
      record {
        sum =
            rem_dot_step w (with_top w t) degree total added u v
            (all (drop i xs) (drop i ys)) (all (drop (i + 1) xs) (drop (i + 1) ys)) (all xs ys) u_fits v_fits so_far.sum
            (dot_of-drop (field_product w t) number xs ys i x y within within_other x_is y_is
            ∙ ap (λ (z : ℕ). bit_xor z (all (drop (i + 1) xs) (drop (i + 1) ys)))
            (sym (low-product w t r (number x) (number y) u v context u_is v_is)))
            added_is;
        fits =
            subst (λ (z : ℕ). z < 2 ^ (w + w)) (sym added_is)
            (xor_lt (w + w) total (carryless u v) so_far.fits (carryless_lt w w u v u_fits v_fits));
      }

  pub dot-done : (i total : ℕ) → length xs ≤ i → IsDotSoFar number w t xs ys i total
      → rem w (with_top w t) total ≡ dot_of (field_product w t) number xs ys
  dot-done i total past so_far = dot_end (field_product w t) number xs ys i _ (rem w (with_top w t) total) past so_far.sum

-- the sum of two double words, half by half
pub double-sum : (low high product_low product_high product : ℕ) → low < 2 ^ 128 → product_low < 2 ^ 128
    → product ≡ product_high * 2 ^ 128 + product_low
    → bit_xor high product_high * 2 ^ 128 + bit_xor low product_low ≡ bit_xor (high * 2 ^ 128 + low) product
double-sum low high product_low product_high product low_fits product_fits splits =
    sym (xor_block 128 high product_high low product_low low_fits product_fits) ∙ ap (bit_xor (high * 2 ^ 128 + low)) (sym splits)
