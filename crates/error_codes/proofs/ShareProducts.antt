-- Products by doubling: each column is twice the one before, and the sum of the columns at the bits of a byte is its
-- product.
use Rattle.std.proofs.Common.{◌≡◌, ℕ, zero, suc, ◌+◌, ◌*◌, ◌/◌, ◌%◌, ◌^◌, ◌<◌, inl, inr, Bool, true, ◌&&◌, eqb, List, [], ◌∷◌, refl, sym, ◌∙◌, ap, subst, arith, lit<}
use Rattle.std.specs.Prelude.{bit_xor, slice_index}
use Rattle.std.proofs.lemmas.Bool.{eqb-true, and_parts}
use Rattle.std.proofs.lemmas.Bool.Decides.{eqb_tells}
use native.Mathlib.Nat.{mod-eq_of_lt}
use Rattle.field_base.specs.Carryless.{carryless, carryless_in}
use Rattle.field_base.specs.LinearMaps.{linear_image}
use Rattle.field_base.specs.Remainder.{mul_mod, rem, rem_in}
use Rattle.field_base.specs.Ring.{IsRing}
use Rattle.field_base.proofs.EightCases.{eight_cases}
use Rattle.field_base.proofs.LinearMapLemmas.{the_linear_map}
use Rattle.reed_solomon.specs.ByteFields.{byte_modulus, byte_times}
use Rattle.reed_solomon.specs.declared.byte_field.ByteField.{ByteField}
use Rattle.reed_solomon.specs.declared.byte_field.ByteField.TheVariants.{Qr, Ccsds, Rijndael}
use Rattle.reed_solomon.proofs.ByteFields.{bytes_are_fields}

-- ---- doubling, each byte tried

-- whether a test holds of all numbers below a bound
holds_below : (ℕ → Bool) → ℕ → Bool
holds_below test zero = true
holds_below test (suc n) = test n && holds_below test n

holds_at : (test : ℕ → Bool) (n : ℕ) → holds_below test n ≡ true → (i : ℕ) → i < n → test i ≡ true
unfolding holds_below
holds_at test zero passed i below = absurd (omega (arith, below))
holds_at test (suc n) passed i below =
    let parts = and_parts (test n) (holds_below test n) passed in
    elim (eqb_tells i n) [
      | inl same ↦ ap test same.1 ∙ parts.0
      | inr other ↦ holds_at test n parts.1 i (earlier i n below other.1)
    ]
  where
    earlier : (i n : ℕ) → i < suc n → (i ≡ n → ⊥) → i < n
    earlier i n below different = omega (arith, below, different)

-- what falls off at the top comes back as the rest of the modulus
abbrev doubled : ℕ → ℕ → ℕ
doubled reduction a = bit_xor (a * 2 % 256) (reduction * (a / 128))

is_double : ℕ → ℕ → ℕ → Bool
is_double modulus reduction a = eqb (doubled reduction a) (mul_mod 8 modulus a 2)

doubles : ℕ → ℕ → Type 0
doubles modulus reduction = holds_below (is_double modulus reduction) 256 ≡ true

qr_doubles : doubles 0x11d 0x1d
unfolding mul_mod rem rem_in carryless carryless_in holds_below is_double doubles
qr_doubles = refl

ccsds_doubles : doubles 0x187 0x87
unfolding mul_mod rem rem_in carryless carryless_in holds_below is_double doubles
ccsds_doubles = refl

rijndael_doubles : doubles 0x11b 0x1b
unfolding mul_mod rem rem_in carryless carryless_in holds_below is_double doubles
rijndael_doubles = refl

double_modulo : (modulus known reduction a : ℕ) → doubles modulus known → known ≡ reduction → a < 256 → doubled reduction a ≡ mul_mod 8 modulus a 2
unfolding is_double doubles
double_modulo modulus known reduction a tried is fits =
    subst (λ (r : ℕ). doubled r a ≡ mul_mod 8 modulus a 2) is
    (eqb-true (doubled known a) (mul_mod 8 modulus a 2) (holds_at (is_double modulus known) 256 tried a fits))

pub double_is : (field : ByteField) (reduction a : ℕ) → 256 + reduction ≡ byte_modulus field → a < 256 → doubled reduction a ≡ byte_times field a 2
double_is Qr reduction a is fits = double_modulo 0x11d 0x1d reduction a qr_doubles (omega (arith, is)) fits
double_is Ccsds reduction a is fits = double_modulo 0x187 0x87 reduction a ccsds_doubles (omega (arith, is)) fits
double_is Rijndael reduction a is fits = double_modulo 0x11b 0x1b reduction a rijndael_doubles (omega (arith, is)) fits

-- ---- the columns

-- the powers of x below x^8 are doubled without the modulus
powers_double : (modulus : ℕ) → Type 0
powers_double modulus = holds_below (λ j. eqb (mul_mod 8 modulus (2 ^ j) 2) (2 ^ suc j)) 7 ≡ true

qr_powers : powers_double 0x11d
unfolding mul_mod rem rem_in carryless carryless_in holds_below powers_double
qr_powers = refl

ccsds_powers : powers_double 0x187
unfolding mul_mod rem rem_in carryless carryless_in holds_below powers_double
ccsds_powers = refl

rijndael_powers : powers_double 0x11b
unfolding mul_mod rem rem_in carryless carryless_in holds_below powers_double
rijndael_powers = refl

power_doubles_modulo : (modulus j : ℕ) → powers_double modulus → j < 7 → mul_mod 8 modulus (2 ^ j) 2 ≡ 2 ^ suc j
unfolding powers_double
power_doubles_modulo modulus j tried below =
    eqb-true (mul_mod 8 modulus (2 ^ j) 2) (2 ^ suc j) (holds_at (λ i. eqb (mul_mod 8 modulus (2 ^ i) 2) (2 ^ suc i)) 7 tried j below)

power_doubles : (field : ByteField) (j : ℕ) → j < 7 → byte_times field (2 ^ j) 2 ≡ 2 ^ suc j
power_doubles Qr j below = power_doubles_modulo 0x11d j qr_powers below
power_doubles Ccsds j below = power_doubles_modulo 0x187 j ccsds_powers below
power_doubles Rijndael j below = power_doubles_modulo 0x11b j rijndael_powers below

-- twice the product of a scalar by a power of x is its product by the next
next_column : (field : ByteField) (scalar j column next : ℕ) → j < 7 → byte_times field scalar (2 ^ j) ≡ column → next ≡ byte_times field column 2
    → byte_times field scalar (2 ^ suc j) ≡ next
next_column field scalar j column next below is next_is =
    ap (byte_times field scalar) (sym (power_doubles field j below)) ∙ sym ((bytes_are_fields field).ring.assoc scalar (2 ^ j) 2)
    ∙ ap (λ (z : ℕ). byte_times field z 2) is ∙ sym next_is

-- eight columns, each twice the one before, give the products of the first
pub columns_give : (field : ByteField) (a b c d e f g h byte : ℕ) → a < 256 → b ≡ byte_times field a 2 → c ≡ byte_times field b 2
    → d ≡ byte_times field c 2 → e ≡ byte_times field d 2 → f ≡ byte_times field e 2 → g ≡ byte_times field f 2 → h ≡ byte_times field g 2
    → byte < 256 → linear_image (a ∷ b ∷ c ∷ d ∷ e ∷ f ∷ g ∷ h ∷ []) byte ≡ byte_times field byte a
columns_give field a b c d e f g h byte fits b_is c_is d_is e_is f_is g_is h_is byte_fits =
    let first = ring.comm a 1 ∙ ring.one a ∙ mod-eq_of_lt fits in
    let second = next_column field a 0 a b (lit< tt) first b_is in
    let third = next_column field a 1 b c (lit< tt) second c_is in
    let fourth = next_column field a 2 c d (lit< tt) third d_is in
    let fifth = next_column field a 3 d e (lit< tt) fourth e_is in
    let sixth = next_column field a 4 e f (lit< tt) fifth f_is in
    let seventh = next_column field a 5 f g (lit< tt) sixth g_is in
    let eighth = next_column field a 6 g h (lit< tt) seventh h_is in
    sym ((the_linear_map columns).only (byte_times field a) (ring.over_sum a)
    (eight_cases (λ j. byte_times field a (2 ^ j) ≡ slice_index columns j) first second third fourth fifth sixth seventh eighth) byte byte_fits)
    ∙ ring.comm a byte
  where
    columns : List ℕ
    columns = a ∷ b ∷ c ∷ d ∷ e ∷ f ∷ g ∷ h ∷ []

    ring : IsRing 8 1 (byte_times field)
    ring = (bytes_are_fields field).ring
