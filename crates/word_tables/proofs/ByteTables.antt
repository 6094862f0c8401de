-- The tables of GF(2^8), each checked whole by computation, and the rule that each follows.
use Rattle.std.proofs.Common.{◌≡◌, ◌≢◌, ℕ, ◌+◌, ◌-◌, ◌<◌, true, take, drop, refl, sym, arith, lit<, lit≤}
use Rattle.std.specs.Prelude.{slice_index}
use Rattle.field_base.specs.Quadratic.{quadratic}
use Rattle.field_base.specs.Tower.{root, tower_mul}
use Rattle.field_base.proofs.LogTables.{inverse_at, is_inverse, is_logarithm, is_root, logarithm_at, power_at, product_at, quotient_at, root_at}
use Rattle.field_base.proofs.RingLemmas.{times-zero, zero-times}
use Rattle.field_base.proofs.TableChecks.{passes, repeats, tabulates, tabulates_at}
use Rattle.field_base.proofs.TowerRing.{tower_ring}
use Rattle.word_tables.specs.Tables.{EntriesArePowers, EntriesAreLogarithms}
use Rattle.word_tables.specs.declared.tables.literals.TheConstants.{EXP, INVERSES, LOG, ROOTS, ROOT_PRODUCTS, SQUARES}

-- ---- powers and logarithms

-- each entry of EXP is the one before times 0x13, from 1 on (computed)
powers_pass : repeats (λ x. tower_mul 3 x 0x13) 1 (take 511 EXP) ≡ true
unfolding tower_mul quadratic root repeats
powers_pass = refl

-- every entry of LOG past the first passes its check (computed)
logarithms_pass : passes (is_logarithm EXP) 1 (drop 1 LOG) ≡ true
unfolding passes is_logarithm
logarithms_pass = refl

-- entry e of EXP is 0x13^e
pub entries_are_powers : EntriesArePowers
entries_are_powers = power_at (tower_mul 3) (tower_ring 3) 0x13 EXP LOG (lit≤ tt) refl powers_pass logarithms_pass

-- for x other than 0 entry x of LOG is below 255, and 0x13 to its power is x
pub entries_are_logarithms : EntriesAreLogarithms
entries_are_logarithms = logarithm_at (tower_mul 3) (tower_ring 3) 0x13 EXP LOG (lit≤ tt) refl powers_pass logarithms_pass

-- the entry at the sum of two logarithms is the product
pub product_of_logarithms : (a b : ℕ) → a < 256 → b < 256 → a ≢ 0 → b ≢ 0
    → slice_index EXP (slice_index LOG a + slice_index LOG b) ≡ tower_mul 3 a b
product_of_logarithms a b a_fits b_fits a_nonzero b_nonzero =
    product_at (tower_mul 3) (tower_ring 3) 0x13 EXP LOG (lit≤ tt) refl powers_pass logarithms_pass a b (omega arith) (omega arith) a_fits b_fits

-- the entry at the difference of two logarithms, to which the order is added, is the quotient
pub quotient_of_logarithms : (a d : ℕ) → a < 256 → d < 256 → a ≢ 0 → d ≢ 0
    → tower_mul 3 d (slice_index EXP (slice_index LOG a + (255 - slice_index LOG d))) ≡ a
quotient_of_logarithms a d a_fits d_fits a_nonzero d_nonzero =
    quotient_at (tower_mul 3) (tower_ring 3) 0x13 EXP LOG (lit≤ tt) refl powers_pass logarithms_pass (sym (entries_are_powers 255 (lit< tt))) a d
    (omega arith) (omega arith) a_fits d_fits

-- a * 0 = 0
pub tower_mul_8-zero : (a : ℕ) → tower_mul 3 a 0 ≡ 0
tower_mul_8-zero a = times-zero 8 1 (tower_mul 3) (tower_ring 3) a

-- 0 * a = 0
pub tower_mul_8-zero_left : (a : ℕ) → tower_mul 3 0 a ≡ 0
tower_mul_8-zero_left a = zero-times 8 1 (tower_mul 3) (tower_ring 3) a

-- ---- tables of functions of one element

-- SQUARES tabulates squares (computed)
squares_pass : tabulates (λ x. tower_mul 3 x x) SQUARES ≡ true
unfolding tower_mul quadratic root tabulates passes
squares_pass = refl

-- entry a of SQUARES is a²
pub squares_at : (a : ℕ) → a < 256 → slice_index SQUARES a ≡ tower_mul 3 a a
squares_at a inside = tabulates_at (λ x. tower_mul 3 x x) SQUARES a squares_pass inside

-- ROOT_PRODUCTS tabulates products by the root of level 3 (computed)
root_products_pass : tabulates (λ x. tower_mul 3 (root 3) x) ROOT_PRODUCTS ≡ true
unfolding tower_mul quadratic root tabulates passes
root_products_pass = refl

-- entry a of ROOT_PRODUCTS is the product of a by the root of level 3
pub root_products_at : (a : ℕ) → a < 256 → slice_index ROOT_PRODUCTS a ≡ tower_mul 3 (root 3) a
root_products_at a inside = tabulates_at (λ x. tower_mul 3 (root 3) x) ROOT_PRODUCTS a root_products_pass inside

-- the square of every entry of ROOTS is its place (computed)
roots_pass : passes (is_root (tower_mul 3)) 0 ROOTS ≡ true
unfolding tower_mul quadratic root is_root passes
roots_pass = refl

-- the square of entry a of ROOTS is a
pub roots_at : (a : ℕ) → a < 256 → tower_mul 3 (slice_index ROOTS a) (slice_index ROOTS a) ≡ a
roots_at = root_at (tower_mul 3) ROOTS refl roots_pass

-- the product of every entry of INVERSES past the first by its place is 1 (computed)
inverses_pass : passes (is_inverse (tower_mul 3)) 1 (drop 1 INVERSES) ≡ true
unfolding tower_mul quadratic root is_inverse passes
inverses_pass = refl

-- for a other than 0 the product of a by entry a of INVERSES is 1
pub inverses_at : (a : ℕ) → a < 256 → a ≢ 0 → tower_mul 3 a (slice_index INVERSES a) ≡ 1
inverses_at = inverse_at (tower_mul 3) INVERSES refl inverses_pass
