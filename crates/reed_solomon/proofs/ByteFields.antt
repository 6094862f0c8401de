-- The tables of the bytes of codes and shares, each checked whole by computation, and the rules that they follow.
use Rattle.std.proofs.Common.{◌≡◌, ◌≢◌, ℕ, ◌+◌, ◌-◌, ◌%◌, ◌^◌, ◌<◌, ◌≤◌, true, eqb, List, length, get_or, take, drop}
use Rattle.std.proofs.Common.{refl, sym, ◌∙◌, ap, subst, arith, lit<}
use native.Mathlib.Nat.{mod-lt}
use Rattle.std.proofs.lemmas.Bool.{eqb-true}
use Rattle.std.specs.Prelude.{slice_index}
use Rattle.field_base.specs.Carryless.{carryless, carryless_in}
use Rattle.field_base.specs.Field.{IsField}
use Rattle.field_base.specs.LogTables.{AreLogTables}
use Rattle.field_base.specs.Powers.{power, repeated_square}
use Rattle.field_base.specs.Remainder.{mul_mod, rem, rem_in}
use Rattle.field_base.specs.Ring.{IsRing}
use Rattle.field_base.proofs.LogTables.{is_logarithm, is_nothing, log_tables, logarithm_at, quotient_at}
use Rattle.field_base.proofs.PowerLemmas.{repeated_square-mod}
use Rattle.field_base.proofs.RemainderRing.{mul_mod_ring}
use Rattle.field_base.proofs.RingLemmas.{times-mod}
use Rattle.field_base.proofs.TableChecks.{passes, passes_at, repeats}
use Rattle.reed_solomon.specs.ByteFields.{byte_generator, byte_times}
use Rattle.reed_solomon.specs.declared.byte_field.ByteField.{ByteField}
use Rattle.reed_solomon.specs.declared.byte_field.ByteField.TheVariants.{Qr, Ccsds, Rijndael}
use Rattle.reed_solomon.specs.declared.byte_field.literals.TheConstants.{EXP_11D, EXP_187, LOG_11D, LOG_187}
use Rattle.word_tables.proofs.Isomorphisms.{field_8}

-- what is computed of a modulus, a generator and two tables
record ArePassed (modulus generator : ℕ) (powers logarithms : List ℕ) : Type 0 where
  ring : IsRing 8 1 (mul_mod 8 modulus)
  long : length powers ≡ 1023
  wide : length logarithms ≡ 256
  powers_pass : repeats (λ x. mul_mod 8 modulus x generator) 1 (take 511 powers) ≡ true
  logarithms_pass : passes (is_logarithm powers) 1 (drop 1 logarithms) ≡ true
  none : get_or logarithms 0 0 ≡ 511
  of_one : get_or logarithms 1 0 ≡ 0
  zeros_pass : passes is_nothing 0 (drop 511 powers) ≡ true
  order : power 1 (mul_mod 8 modulus) generator 255 ≡ 1
  squarings_pass : passes (λ x y. eqb (repeated_square 1 (mul_mod 8 modulus) 8 x) x) 0 logarithms ≡ true

qr_passes : ArePassed 0x11d 2 EXP_11D LOG_11D
unfolding mul_mod rem rem_in carryless carryless_in repeats passes is_nothing is_logarithm power repeated_square
qr_passes = record {
  ring = mul_mod_ring 8 0x11d (lit< tt) refl;
  long = refl;
  wide = refl;
  powers_pass = refl;
  logarithms_pass = refl;
  none = refl;
  of_one = refl;
  zeros_pass = refl;
  order = refl;
  squarings_pass = refl;
}

ccsds_passes : ArePassed 0x187 2 EXP_187 LOG_187
unfolding mul_mod rem rem_in carryless carryless_in repeats passes is_nothing is_logarithm power repeated_square
ccsds_passes = record {
  ring = mul_mod_ring 8 0x187 (lit< tt) refl;
  long = refl;
  wide = refl;
  powers_pass = refl;
  logarithms_pass = refl;
  none = refl;
  of_one = refl;
  zeros_pass = refl;
  order = refl;
  squarings_pass = refl;
}

-- what follows
pub record AreTables (modulus : ℕ) (powers logarithms : List ℕ) : Type 0 where
  pub products : AreLogTables (mul_mod 8 modulus) powers logarithms
  pub short : (a : ℕ) → a < 256 → a ≢ 0 → slice_index logarithms a ≤ 255
  pub inverses : (a : ℕ) → a < 256 → a ≢ 0 → mul_mod 8 modulus a (slice_index powers (255 - slice_index logarithms a)) ≡ 1
  pub field : IsField 8 (mul_mod 8 modulus)

module _ (modulus generator : ℕ) (powers logarithms : List ℕ) (passed : ArePassed modulus generator powers logarithms) where
  all : 511 ≤ length powers
  all = let long = passed.long in omega (arith, long)

  inverse : ℕ → ℕ
  inverse a = slice_index powers (255 - slice_index logarithms a)

  inverses : (a : ℕ) → a < 256 → a ≢ 0 → mul_mod 8 modulus a (inverse a) ≡ 1
  unfolding inverse
  inverses a fits nonzero =
      let alone : 0 + (255 - get_or logarithms a 0) ≡ 255 - get_or logarithms a 0 = omega arith in
      ap (λ (e : ℕ). mul_mod 8 modulus a (get_or powers e 0))
      (sym alone ∙ ap (λ (e : ℕ). e + (255 - get_or logarithms a 0)) (sym passed.of_one))
      ∙ quotient_at (mul_mod 8 modulus) passed.ring generator powers logarithms all passed.wide passed.powers_pass passed.logarithms_pass
      passed.order 1 a (lit< tt) (omega (arith, nonzero)) (lit< tt) fits

  squarings-at : (a : ℕ) → a < 256 → repeated_square 1 (mul_mod 8 modulus) 8 a ≡ a
  squarings-at a inside =
      let place : 0 + a ≡ a = omega arith in
      subst (λ (x : ℕ). repeated_square 1 (mul_mod 8 modulus) 8 x ≡ x) place
      (eqb-true (repeated_square 1 (mul_mod 8 modulus) 8 (0 + a)) (0 + a)
      (passes_at (λ x y. eqb (repeated_square 1 (mul_mod 8 modulus) 8 x) x) 0 logarithms a passed.squarings_pass
      (let wide = passed.wide in omega (arith, wide, inside))))

  tables : AreTables modulus powers logarithms
  unfolding inverse
  tables = record {
    products = log_tables (mul_mod 8 modulus) passed.ring generator powers logarithms all passed.wide passed.powers_pass
        passed.logarithms_pass passed.long passed.none passed.zeros_pass;
    short = λ a fits nonzero.
        let low = (logarithm_at (mul_mod 8 modulus) passed.ring generator powers logarithms all passed.wide passed.powers_pass
        passed.logarithms_pass a (omega (arith, nonzero)) fits).0 in
        omega (arith, low);
    inverses = inverses;
    field = record {
      ring = passed.ring;
      inverses = λ a fits nonzero. (
        inverse a % 2 ^ 8,
        mod-lt (inverse a) (lit< tt),
        times-mod 8 1 (mul_mod 8 modulus) passed.ring a (inverse a) ∙ inverses a fits nonzero,
      );
      squarings_return = λ a.
          sym (repeated_square-mod 8 1 (mul_mod 8 modulus) passed.ring 8 a) ∙ squarings-at (a % 2 ^ 8) (mod-lt a (lit< tt));
    };
  }

pub qr_tables : AreTables 0x11d EXP_11D LOG_11D
qr_tables = tables 0x11d 2 EXP_11D LOG_11D qr_passes

pub ccsds_tables : AreTables 0x187 EXP_187 LOG_187
ccsds_tables = tables 0x187 2 EXP_187 LOG_187 ccsds_passes

-- ---- the fields

pub bytes_are_fields : (field : ByteField) → IsField 8 (byte_times field)
bytes_are_fields Qr = qr_tables.field
bytes_are_fields Ccsds = ccsds_tables.field
bytes_are_fields Rijndael = field_8

-- the field of erasure codes
pub erasure_field : IsField 8 (byte_times Qr)
erasure_field = bytes_are_fields Qr

pub bytes-wide : (field : ByteField) → 0 < 8
bytes-wide field = lit< tt

pub bytes-narrow : (field : ByteField) → 8 ≤ 16
bytes-narrow field = omega arith

-- ---- generators

pub generator-fits : (field : ByteField) → byte_generator field < 256
generator-fits Qr = lit< tt
generator-fits Ccsds = lit< tt
generator-fits Rijndael = lit< tt

pub generator-nonzero : (field : ByteField) → byte_generator field ≢ 0
generator-nonzero Qr is = absurd (omega (arith, is))
generator-nonzero Ccsds is = absurd (omega (arith, is))
generator-nonzero Rijndael is = absurd (omega (arith, is))
