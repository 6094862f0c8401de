-- The table of products that are looked up by halves, checked whole by computation.
use Rattle.std.proofs.Common.{◌≡◌, ℕ, ◌+◌, ◌-◌, ◌*◌, ◌/◌, ◌%◌, ◌<◌, true, length, refl, ◌∙◌, ap, arith}
use Rattle.std.specs.Prelude.{slice_index}
use Rattle.field_base.specs.Carryless.{carryless, carryless_in}
use Rattle.field_base.specs.Remainder.{mul_mod, rem, rem_in}
use Rattle.field_base.proofs.TableChecks.{passes, tabulates, tabulates_at}
use Rattle.reed_solomon.specs.ByteFields.{byte_times}
use Rattle.reed_solomon.specs.declared.byte_field.ByteField.TheVariants.{Qr}
use Rattle.reed_solomon.specs.Tables.{IsEntry}
use Rattle.reed_solomon.specs.declared.byte_field.literals.TheConstants.{PRODUCTS}

-- the product of s by n, or by 16 n
abbrev product_of : ℕ → ℕ → ℕ → ℕ
product_of s n high = byte_times Qr s (n * (1 + 15 * high))

-- that which stands at a place
abbrev product_at : ℕ → ℕ
product_at p = product_of (p / 32) (p % 16) (p / 16 % 2)

-- PRODUCTS has these (computed)
products_pass : tabulates product_at PRODUCTS ≡ true
unfolding mul_mod rem rem_in carryless carryless_in tabulates passes
products_pass = refl

-- the entry at a place, by its digits
entry_is : (p s n high : ℕ) → p < 8192 → p / 32 ≡ s → p % 16 ≡ n → p / 16 % 2 ≡ high → slice_index PRODUCTS p ≡ product_of s n high
entry_is p s n high inside of_s of_n of_high =
    tabulates_at product_at PRODUCTS p products_pass inside
    ∙ ap (λ (x : ℕ). product_of x (p % 16) (p / 16 % 2)) of_s
    ∙ ap (λ (x : ℕ). product_of s x (p / 16 % 2)) of_n
    ∙ ap (product_of s n) of_high

pub products_long : length PRODUCTS ≡ 8192
products_long = refl

-- from 32 s on it has the entries of s
pub products_at : (s n : ℕ) → s < 256 → n < 32 → IsEntry s n (slice_index PRODUCTS (32 * s + n))
products_at s n byte inside =
    record {
      low =
          λ below.
          let single : n * (1 + 15 * 0) ≡ n = omega arith in
          entry_is (32 * s + n) s n 0 (omega (arith, byte, inside)) (omega (arith, inside)) (omega (arith, below)) (omega (arith, below))
          ∙ ap (byte_times Qr s) single;
      high =
          λ above.
          let times : (n - 16) * (1 + 15 * 1) ≡ 16 * (n - 16) = omega arith in
          entry_is (32 * s + n) s (n - 16) 1 (omega (arith, byte, inside)) (omega (arith, inside)) (omega (arith, above, inside))
          (omega (arith, above, inside))
          ∙ ap (byte_times Qr s) times;
    }
