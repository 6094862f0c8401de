-- Sums of entries of tables by the digits of a number to base 16.
use Rattle.std.proofs.Common.{◌≡◌, ℕ, zero, suc, ◌+◌, ◌*◌, ◌/◌, ◌%◌, ◌^◌, ◌<◌, ◌≤◌, List, length, get_or, take, drop, refl, sym, ◌∙◌, ap, ap₂, arith, lit<}
use Rattle.std.specs.Prelude.{bit_xor}
use Rattle.std.proofs.Math.Nat.{mul_assoc, mul_comm, pow-succ'}
use Rattle.std.proofs.lemmas.List.{get_or-drop, get_or-take}
use Rattle.std.proofs.lemmas.Nat.{pow-add}
use native.Mathlib.Nat.{mod-lt}
use lib.Bits.{xor_assoc}
use Rattle.additive_transforms.specs.Rows.{level_of}
use Rattle.many_words.specs.Maps.{AreTables}
use Rattle.many_words.proofs.NumberParts.{two_parts_at}

-- ---- images of digits

-- so many digits have the bits of an element
pub digits_bits : (d : ℕ) → 4 * (2 * 2 ^ d) ≡ 2 ^ level_of d
digits_bits zero = refl
digits_bits (suc d) =
    let next = pow-succ' 2 d in
    let more = pow-succ' 2 (level_of d) in
    let before = digits_bits d in
    omega (arith, next, more, before)

module _ {S : Type 0} (entry : S → ℕ → ℕ) (f : ℕ → ℕ) (from : ℕ) (tables : List S) (are : AreTables entry f from tables) where
  -- the images of a low and of a high part, which are added one after the other
  pub two_images : (k low high old : ℕ) → low < 2 ^ k
      → bit_xor (bit_xor old (f (low * 2 ^ from))) (f (high * 2 ^ (from + k))) ≡ bit_xor old (f ((high * 2 ^ k + low) * 2 ^ from))
  two_images k low high old fits =
      xor_assoc old (f (low * 2 ^ from)) (f (high * 2 ^ (from + k)))
      ∙ ap (bit_xor old)
      (sym (are.keeps (low * 2 ^ from) (high * 2 ^ (from + k)))
      ∙ ap f (ap (λ (x : ℕ). bit_xor (low * 2 ^ from) x) moved ∙ two_parts_at from k low high fits))
    where
      moved : high * 2 ^ (from + k) ≡ high * 2 ^ k * 2 ^ from
      moved = ap (λ (p : ℕ). high * p) (pow-add 2 from k ∙ mul_comm (2 ^ from) (2 ^ k)) ∙ sym (mul_assoc high (2 ^ k) (2 ^ from))

  -- those of the halves of a byte, which two tables have
  pub byte_images : (byte old low high mid new : ℕ) → byte < 256 → low ≡ f (byte % 16 * 2 ^ (from + 4 * 0)) → high ≡ f (byte / 16 * 2 ^ (from + 4 * 1))
      → mid ≡ bit_xor old low → new ≡ bit_xor mid high → new ≡ bit_xor old (f (byte % 2 ^ 8 * 2 ^ from))
  byte_images byte old low high mid new fits low_is high_is mid_is new_is =
      let first : from + 4 * 0 ≡ from = omega arith in
      let whole : byte / 16 * 16 + byte % 16 ≡ byte % 256 = omega (arith, fits) in
      new_is
      ∙ ap₂ bit_xor (mid_is ∙ ap (bit_xor old) (low_is ∙ ap (λ (e : ℕ). f (byte % 16 * 2 ^ e)) first)) high_is
      ∙ two_images 4 (byte % 16) (byte / 16) old (mod-lt byte (lit< tt)) ∙ ap (λ (x : ℕ). bit_xor old (f (x * 2 ^ from))) whole

  -- the tables of the low half
  pub first_tables : (half : ℕ) (front : List S) → front ≡ take half tables → length front ≡ half → half ≤ length tables
      → AreTables entry f from front
  first_tables half front is long room =
      record {
        keeps = are.keeps;
        entries =
            λ n v inside few d.
            ap (λ (l : List S). entry (get_or l n d) v) is
            ∙ ap (λ (t : S). entry t v) (get_or-take half tables n d (omega (arith, inside, long)))
            ∙ are.entries n v (omega (arith, inside, long, room)) few d;
      }

  -- and of the high half
  pub second_tables : (half step : ℕ) (back : List S) → back ≡ drop half tables → length back + half ≡ length tables → 4 * half ≡ step
      → AreTables entry f (from + step) back
  second_tables half step back is long up =
      record {
        keeps = are.keeps;
        entries =
            λ n v inside few d.
            let place : from + 4 * (half + n) ≡ from + step + 4 * n = omega (arith, up) in
            ap (λ (l : List S). entry (get_or l n d) v) is
            ∙ ap (λ (t : S). entry t v) (get_or-drop half tables n d)
            ∙ are.entries (half + n) v (omega (arith, inside, long)) few d
            ∙ ap (λ (p : ℕ). f (v * 2 ^ p)) place;
      }
