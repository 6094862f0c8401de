-- Maps of bytes that keep sums, by their eight images.
use Rattle.std.proofs.Common.{◌≡◌, ℕ, zero, suc, ◌^◌, ◌<◌, List, [], ◌∷◌, length, map, refl, sym, ◌∙◌, ap, ap₂, arith}
use Rattle.std.specs.Prelude.{bit_xor, slice_index, slice_index_or}
use lib.Bits.{xor_assoc}
use Rattle.field_base.specs.Basis.{sum_below}
use Rattle.field_base.specs.LinearMaps.{linear_image}
use Rattle.field_base.specs.Powers.{repeated_square}
use Rattle.field_base.specs.Remainder.{aes_modulus, mul_mod}
use Rattle.field_base.proofs.LinearMapLemmas.{the_linear_map}
use Rattle.field_base.proofs.PowerLemmas.{repeated_square_xor}
use Rattle.field_base.proofs.RingLemmas.{xor_left_comm}
use Rattle.word_tables.proofs.Isomorphisms.{field_8}
use Rattle.field_space.specs.Linearized.{linearized_value}
use Rattle.field_base.proofs.EightCases.{eight_cases}

-- a map of bytes that keeps sums, within a byte
abbrev pub KeepsSums : (ℕ → ℕ) → Type 0
KeepsSums g = (a b : ℕ) → g (bit_xor a b) ≡ bit_xor (g a) (g b)

-- a map that keeps sums is that of its images at the eight bits
pub by_eight_images : (g : ℕ → ℕ) → KeepsSums g → (images : List ℕ)
    → images ≡ g 1 ∷ g 2 ∷ g 4 ∷ g 8 ∷ g 16 ∷ g 32 ∷ g 64 ∷ g 128 ∷ []
    → (x : ℕ) → x < 256 → linear_image images x ≡ g x
by_eight_images g keeps images is x fits =
    ap (λ (cs : List ℕ). linear_image cs x) is
    ∙ sym ((the_linear_map (g 1 ∷ g 2 ∷ g 4 ∷ g 8 ∷ g 16 ∷ g 32 ∷ g 64 ∷ g 128 ∷ [])).only g keeps
    (eight_cases (λ j. g (2 ^ j) ≡ slice_index (g 1 ∷ g 2 ∷ g 4 ∷ g 8 ∷ g 16 ∷ g 32 ∷ g 64 ∷ g 128 ∷ []) j)
    refl refl refl refl refl refl refl refl) x fits)

-- a list of eight entries, entry by entry
pub eight_entries_are : (g : ℕ → ℕ) (a b c d e f h i : ℕ) → a ≡ g 1 → b ≡ g 2 → c ≡ g 4 → d ≡ g 8 → e ≡ g 16 → f ≡ g 32
    → h ≡ g 64 → i ≡ g 128
    → a ∷ b ∷ c ∷ d ∷ e ∷ f ∷ h ∷ i ∷ [] ≡ g 1 ∷ g 2 ∷ g 4 ∷ g 8 ∷ g 16 ∷ g 32 ∷ g 64 ∷ g 128 ∷ []
eight_entries_are g a b c d e f h i is_a is_b is_c is_d is_e is_f is_h is_i = cc (is_a, is_b, is_c, is_d, is_e, is_f, is_h, is_i)

-- a product by a scalar keeps sums
pub scaling_keeps : (s : ℕ) → KeepsSums (mul_mod 8 aes_modulus s)
scaling_keeps s = field_8.ring.over_sum s

-- so do squarings
pub squarings_keep : (k : ℕ) → KeepsSums (repeated_square 1 (mul_mod 8 aes_modulus) k)
squarings_keep k = repeated_square_xor 8 1 (mul_mod 8 aes_modulus) field_8.ring k

-- a sum of maps that keep sums keeps them
sums_keep : (f : ℕ → ℕ → ℕ) → ((j : ℕ) → KeepsSums (f j)) → (n : ℕ) → KeepsSums (λ x. sum_below (λ j. f j x) n)
unfolding sum_below
sums_keep f keep zero a b = refl
sums_keep f keep (suc n) a b =
    ap₂ bit_xor (sums_keep f keep n a b) (keep n a b) ∙ simp (xor_assoc, xor_left_comm)

-- and so does a linearized polynomial
pub linearized_keeps : (coefficients : List ℕ) → KeepsSums (linearized_value coefficients)
unfolding linearized_value
linearized_keeps coefficients =
    sums_keep
    (λ j x. mul_mod 8 aes_modulus (slice_index coefficients j) (repeated_square 1 (mul_mod 8 aes_modulus) j x))
    (λ j a b. ap (mul_mod 8 aes_modulus (slice_index coefficients j)) (squarings_keep j a b)
    ∙ scaling_keeps (slice_index coefficients j) _ _) 8

-- an entry of a list as a number
pub entry_number : {A : Type 0} → (repr : A → ℕ) (xs : List A) (i : ℕ) (x : A) → i < length xs → x ≡ slice_index_or xs i x
    → slice_index (map repr xs) i ≡ repr x
entry_number repr [] i x within is = absurd (omega (arith, within))
entry_number repr (y ∷ ys) zero x within is = ap repr (sym is)
entry_number repr (y ∷ ys) (suc i) x within is = entry_number repr ys i x (omega (arith, within)) is
