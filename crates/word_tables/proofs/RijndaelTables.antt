-- The tables of the bytes of AES, each checked whole by computation, and the rule that each follows.
use Rattle.std.proofs.Common.{◌≡◌, ◌≢◌, ℕ, ◌<◌, true, take, drop, refl, lit<, lit≤}
use Rattle.std.specs.Prelude.{slice_index}
use Rattle.field_base.specs.Carryless.{carryless, carryless_in}
use Rattle.field_base.specs.LogTables.{AreLogTables}
use Rattle.field_base.specs.Remainder.{aes_modulus, mul_mod, rem, rem_in}
use Rattle.field_base.specs.Ring.{IsRing}
use Rattle.field_base.proofs.LogTables.{inverse_at, is_inverse, is_logarithm, is_nothing, is_root, log_tables, root_at}
use Rattle.field_base.proofs.RemainderRing.{mul_mod_ring}
use Rattle.field_base.proofs.TableChecks.{passes, repeats, tabulates, tabulates_at}
use Rattle.word_tables.specs.declared.rijndael.literals.TheConstants.{EXP, INVERSES, LOG, ROOTS, SQUARES}

-- the polynomials modulo x^8 + x^4 + x^3 + x + 1 are a ring
ring : IsRing 8 1 (mul_mod 8 aes_modulus)
ring = mul_mod_ring 8 aes_modulus (lit< tt) refl

-- ---- powers and logarithms

-- each of the first 511 entries of EXP is the one before times 0x88, from 1 on (computed)
powers_pass : repeats (λ x. mul_mod 8 aes_modulus x 0x88) 1 (take 511 EXP) ≡ true
unfolding mul_mod rem rem_in carryless carryless_in repeats
powers_pass = refl

-- the entries of EXP from 511 on are 0 (computed)
zeros_pass : passes is_nothing 0 (drop 511 EXP) ≡ true
unfolding passes is_nothing
zeros_pass = refl

-- every entry of LOG past the first passes its check (computed)
logarithms_pass : passes (is_logarithm EXP) 1 (drop 1 LOG) ≡ true
unfolding passes is_logarithm
logarithms_pass = refl

-- EXP and LOG give the products
pub products : AreLogTables (mul_mod 8 aes_modulus) EXP LOG
products = log_tables (mul_mod 8 aes_modulus) ring 0x88 EXP LOG (lit≤ tt) refl powers_pass logarithms_pass refl refl zeros_pass

-- ---- tables of functions of one byte

-- SQUARES tabulates squares (computed)
squares_pass : tabulates (λ x. mul_mod 8 aes_modulus x x) SQUARES ≡ true
unfolding mul_mod rem rem_in carryless carryless_in tabulates passes
squares_pass = refl

-- entry a of SQUARES is a²
pub squares_at : (a : ℕ) → a < 256 → slice_index SQUARES a ≡ mul_mod 8 aes_modulus a a
squares_at a inside = tabulates_at (λ x. mul_mod 8 aes_modulus x x) SQUARES a squares_pass inside

-- the square of every entry of ROOTS is its place (computed)
roots_pass : passes (is_root (mul_mod 8 aes_modulus)) 0 ROOTS ≡ true
unfolding mul_mod rem rem_in carryless carryless_in is_root passes
roots_pass = refl

-- the square of entry a of ROOTS is a
pub roots_at : (a : ℕ) → a < 256 → mul_mod 8 aes_modulus (slice_index ROOTS a) (slice_index ROOTS a) ≡ a
roots_at = root_at (mul_mod 8 aes_modulus) ROOTS refl roots_pass

-- the product of every entry of INVERSES past the first by its place is 1 (computed)
inverses_pass : passes (is_inverse (mul_mod 8 aes_modulus)) 1 (drop 1 INVERSES) ≡ true
unfolding mul_mod rem rem_in carryless carryless_in is_inverse passes
inverses_pass = refl

-- for a other than 0 the product of a by entry a of INVERSES is 1
pub inverses_at : (a : ℕ) → a < 256 → a ≢ 0 → mul_mod 8 aes_modulus a (slice_index INVERSES a) ≡ 1
inverses_at = inverse_at (mul_mod 8 aes_modulus) INVERSES refl inverses_pass
