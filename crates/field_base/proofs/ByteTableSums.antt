-- The sum of the entries of a byte table is the map whose values the table holds.
use Rattle.std.proofs.Common.{◌≡◌, ℕ, zero, suc, ◌+◌, ◌*◌, ◌/◌, ◌%◌, ◌^◌, ◌<◌, Bool, eqb, true, List, length, get_or, refl, sym, ◌∙◌, ap, ap₂, arith, lit<}
use Rattle.std.specs.Prelude.{bit_xor, slice_index}
use Rattle.std.proofs.lemmas.Bool.{eqb-true}
use Rattle.std.proofs.lemmas.Nat.{xor_comm, pow_pos, mod-pow-add}
use native.Mathlib.Nat.{mod-lt, zero-add}
use native.Mathlib.Numerals.{add-one}
use lib.Bits.{xor_shifted}
use Rattle.field_base.specs.ByteTables.{sum_of_entries}
use Rattle.field_base.proofs.AdditiveMaps.{KeepsSums, keeps_zero}
use Rattle.field_base.proofs.TableChecks.{passes, passes_at}

-- g of each of the first n entries of a table is h of b * 256 ^ j, where the entry stands at 256 j + b
abbrev pub HoldValues : (ℕ → ℕ) → (ℕ → ℕ) → ℕ → List ℕ → Type 0
HoldValues g h n table = (p : ℕ) → p < n → g (get_or table p 0) ≡ h (p % 256 * 2 ^ (8 * (p / 256)))

-- whether the entry y at the place p is such a one
unfoldable pub entry_passes : (ℕ → ℕ) → (ℕ → ℕ) → ℕ → ℕ → Bool
entry_passes g h p y = eqb (g y) (h (p % 256 * 2 ^ (8 * (p / 256))))

-- a table whose check passes holds the values
pub entries_hold : (g h : ℕ → ℕ) (table : List ℕ) → passes (entry_passes g h) 0 table ≡ true → HoldValues g h (length table) table
unfolding entry_passes
entries_hold g h table pass p inside =
    eqb-true (g (get_or table p 0)) _ (passes_at (entry_passes g h) 0 table p pass inside)
    ∙ ap (λ (q : ℕ). h (q % 256 * 2 ^ (8 * (q / 256)))) (zero-add p)

-- place 256 j + b is that of the byte b
byte_of_place : (j b : ℕ) → b < 256 → (256 * j + b) % 256 ≡ b
byte_of_place j b low = omega arith

-- place 256 j + b is in row j
row_of_place : (j b : ℕ) → b < 256 → (256 * j + b) / 256 ≡ j
row_of_place j b low = omega arith

module _ (g h : ℕ → ℕ) (g_keeps : KeepsSums g) (h_keeps : KeepsSums h) (table : List ℕ) where
  -- the sum of the entries at the low n bytes is one whose g is the h of these bytes
  pub sum_of_entries_is : (n x : ℕ) → HoldValues g h (256 * n) table → g (sum_of_entries n table x) ≡ h (x % 2 ^ (8 * n))
  unfolding sum_of_entries
  sum_of_entries_is zero x values =
      let nothing : 0 ≡ x % 1 = omega arith in
      keeps_zero g g_keeps ∙ sym (keeps_zero h h_keeps) ∙ ap h nothing
  sum_of_entries_is (suc n) x values =
      let byte = x / 2 ^ (8 * n) % 256 in
      let low : byte < 256 = mod-lt (x / 2 ^ (8 * n)) (lit< tt) in
      let inside : 256 * n + byte < 256 * suc n = omega (arith, low) in
      let rest : x % 2 ^ (8 * n) < 2 ^ (8 * n) = mod-lt x (pow_pos (8 * n)) in
      let bits : 8 + 8 * n ≡ 8 * suc n = omega arith in
      g_keeps (sum_of_entries n table x) (slice_index table (256 * n + byte))
      ∙ ap₂ bit_xor
      (sum_of_entries_is n x (λ p below. let within : p < 256 * suc n = omega arith in values p within))
      (values (256 * n + byte) inside
      ∙ ap₂ (λ (b j : ℕ). h (b * 2 ^ (8 * j))) (byte_of_place n byte low) (row_of_place n byte low))
      ∙ sym (h_keeps (x % 2 ^ (8 * n)) (byte * 2 ^ (8 * n)))
      ∙ ap h (xor_comm (x % 2 ^ (8 * n)) (byte * 2 ^ (8 * n)) ∙ xor_shifted byte (8 * n) (x % 2 ^ (8 * n)) rest
      ∙ sym (mod-pow-add x 8 (8 * n)) ∙ ap (λ (k : ℕ). x % 2 ^ k) bits)

-- the loop over the bytes: it begins with nothing, and each byte adds its entry
pub sum_of_entries_none : (table : List ℕ) (x : ℕ) → 0 ≡ sum_of_entries 0 table x
unfolding sum_of_entries
sum_of_entries_none table x = refl

-- one byte more adds its entry to the sum
pub sum_of_entries_more : (n : ℕ) (table : List ℕ) (x sum : ℕ) → sum ≡ sum_of_entries n table x
    → bit_xor sum (slice_index table (256 * n + x / 2 ^ (8 * n) % 256)) ≡ sum_of_entries (n + 1) table x
unfolding sum_of_entries
sum_of_entries_more n table x sum so_far =
    ap (λ (s : ℕ). bit_xor s (slice_index table (256 * n + x / 2 ^ (8 * n) % 256))) so_far
    ∙ ap (λ (k : ℕ). sum_of_entries k table x) (sym (add-one n))
