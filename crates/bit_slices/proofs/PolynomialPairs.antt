-- Products of polynomials by their halves, in the forms in which they are computed.
use Rattle.std.proofs.Common.{◌≡◌, ℕ, suc, ◌+◌, ◌*◌, ◌/◌, ◌%◌, ◌^◌, ◌<◌, refl, sym, ◌∙◌, ap, ap₂, subst, arith}
use Rattle.std.specs.Prelude.{bit_xor}
use Rattle.std.proofs.lemmas.Nat.{pow-add, pow_pos, shr-shr, mod-pow-add, xor_comm, xor_lt, xor_mod, xor_shr}
use Rattle.std.proofs.Math.Nat.{mul_assoc, mul-div_cancel, mul-mod_left}
use native.Mathlib.Nat.{mod-eq_of_lt, mod-lt}
use lib.Bits.{xor_assoc, xor_zero_l}
use Rattle.field_base.specs.Carryless.{carryless}
use Rattle.field_base.specs.Quadratic.{pair}
use Rattle.field_base.specs.Tower.{tower_mul}
use Rattle.field_base.proofs.CarrylessProduct.{bit_carryless, shl_carryless, sum_carryless, xor_shl}
use Rattle.field_base.proofs.QuadraticRing.{pair-lt}
use Rattle.field_base.proofs.RingLemmas.{xor_left_comm}
use Rattle.field_base.proofs.TowerRing.{bits_double}
use Rattle.word_carryless.proofs.Halves.{split_xor}
use Rattle.word_carryless.proofs.KaratsubaLemmas.{karatsuba}
use Rattle.bit_slices.specs.Tails.{tail_product}
use Rattle.bit_slices.proofs.PairProducts.{sum_of_pairs}

-- ---- bits

-- a pair without a high half
low_alone : (n : ℕ) → pair 1 n 0 ≡ n
low_alone n = omega arith

-- the product of two bits is a bit
pub polynomial_of_bits : (a b : ℕ) → a < 2 → b < 2 → pair 1 (tower_mul 0 a b) 0 ≡ carryless a b
unfolding tower_mul
polynomial_of_bits a b a_fits b_fits =
    low_alone (a % 2 * (b % 2)) ∙ ap (λ (z : ℕ). a % 2 * z) (mod-eq_of_lt b_fits) ∙ sym (bit_carryless a b) ∙ ap (λ (z : ℕ). carryless z b) (mod-eq_of_lt a_fits)

-- ---- pairs

-- a shift keeps sums
shl_xor : (k a b : ℕ) → bit_xor a b * 2 ^ k ≡ bit_xor (a * 2 ^ k) (b * 2 ^ k)
shl_xor k a b = sym (xor_shl k a b)

-- the halves as a sum of polynomials
pair_xor : (w low high : ℕ) → low < 2 ^ w → pair w low high ≡ bit_xor low (high * 2 ^ w)
pair_xor w low high fits = split_xor w (pair w low high) low high fits refl

-- a shift by the bits of a level is two by those of the level below
twice_up : (k n : ℕ) → n * 2 ^ 2 ^ suc k ≡ n * 2 ^ 2 ^ k * 2 ^ 2 ^ k
twice_up k n =
    ap (λ (z : ℕ). n * 2 ^ z) (sym (bits_double k)) ∙ ap (λ (z : ℕ). n * z) (pow-add 2 (2 ^ k) (2 ^ k))
    ∙ sym (mul_assoc n (2 ^ 2 ^ k) (2 ^ 2 ^ k))

-- the quarters as a sum of polynomials
quarters_xor : (k a b c d : ℕ) → a < 2 ^ 2 ^ k → b < 2 ^ 2 ^ k → c < 2 ^ 2 ^ k
    → pair (2 ^ suc k) (pair (2 ^ k) a b) (pair (2 ^ k) c d)
    ≡ bit_xor (bit_xor a (b * 2 ^ 2 ^ k)) (bit_xor c (d * 2 ^ 2 ^ k) * 2 ^ 2 ^ k * 2 ^ 2 ^ k)
quarters_xor k a b c d a_fits b_fits c_fits =
    pair_xor (2 ^ suc k) (pair (2 ^ k) a b) (pair (2 ^ k) c d)
    (subst (λ (n : ℕ). pair (2 ^ k) a b < 2 ^ n) (bits_double k) (pair-lt (2 ^ k) a b a_fits b_fits))
    ∙ ap₂ bit_xor (pair_xor (2 ^ k) a b a_fits)
    (twice_up k (pair (2 ^ k) c d) ∙ ap (λ (n : ℕ). n * 2 ^ 2 ^ k * 2 ^ 2 ^ k) (pair_xor (2 ^ k) c d c_fits))

-- the middle quarters of a product: each sum of a quarter of the outer products enters both
middle_quarters : (w a b c d m n : ℕ)
    → bit_xor (bit_xor a (bit_xor (bit_xor b c) (bit_xor m a) * 2 ^ w)) (bit_xor (bit_xor (bit_xor b c) (bit_xor n d)) (d * 2 ^ w) * 2 ^ w * 2 ^ w)
    ≡ bit_xor (bit_xor a (b * 2 ^ w))
    (bit_xor
    (bit_xor (bit_xor (bit_xor m (n * 2 ^ w)) (bit_xor a (b * 2 ^ w))) (bit_xor c (d * 2 ^ w)) * 2 ^ w)
    (bit_xor c (d * 2 ^ w) * 2 ^ w * 2 ^ w))
middle_quarters w a b c d m n = simp (shl_xor, xor_assoc, xor_comm, xor_left_comm)

-- the product of two pairs, from the products of the low halves, of the high halves, and of their sums
pub polynomial_of_pairs : (k : ℕ) {x0 y0 a b c d m n x_sum y_sum : ℕ} (x1 y1 : ℕ) → x0 < 2 ^ 2 ^ k → y0 < 2 ^ 2 ^ k → a < 2 ^ 2 ^ k → b < 2 ^ 2 ^ k
    → c < 2 ^ 2 ^ k → m < 2 ^ 2 ^ k → n < 2 ^ 2 ^ k → d < 2 ^ 2 ^ k → pair (2 ^ k) a b ≡ carryless x0 y0 → pair (2 ^ k) c d ≡ carryless x1 y1
    → x_sum ≡ bit_xor x0 x1 → y_sum ≡ bit_xor y0 y1 → pair (2 ^ k) m n ≡ carryless x_sum y_sum
    → pair (2 ^ suc k) (pair (2 ^ k) a (bit_xor (bit_xor b c) (bit_xor m a))) (pair (2 ^ k) (bit_xor (bit_xor b c) (bit_xor n d)) d)
    ≡ carryless (pair (2 ^ k) x0 x1) (pair (2 ^ k) y0 y1)
polynomial_of_pairs k {x0} {y0} {a} {b} {c} {d} {m} {n} x1 y1 x_fits y_fits a_fits b_fits c_fits m_fits n_fits d_fits low high x_is y_is both =
    let w = 2 ^ k in
    quarters_xor k a (bit_xor (bit_xor b c) (bit_xor m a)) (bit_xor (bit_xor b c) (bit_xor n d)) d a_fits
    (xor_lt w (bit_xor b c) (bit_xor m a) (xor_lt w b c b_fits c_fits) (xor_lt w m a m_fits a_fits))
    (xor_lt w (bit_xor b c) (bit_xor n d) (xor_lt w b c b_fits c_fits) (xor_lt w n d n_fits d_fits))
    ∙ middle_quarters w a b c d m n
    ∙ ap₂ (λ (p q : ℕ). bit_xor p (bit_xor (bit_xor (bit_xor (bit_xor m (n * 2 ^ w)) p) q * 2 ^ w) (q * 2 ^ w * 2 ^ w)))
    (sym (pair_xor w a b a_fits) ∙ low) (sym (pair_xor w c d c_fits) ∙ high)
    ∙ ap (λ (z : ℕ). bit_xor (carryless x0 y0)
    (bit_xor (bit_xor (bit_xor z (carryless x0 y0)) (carryless x1 y1) * 2 ^ w) (carryless x1 y1 * 2 ^ w * 2 ^ w)))
    (sym (pair_xor w m n m_fits) ∙ both ∙ ap₂ carryless x_is y_is)
    ∙ sym (karatsuba w x0 x1 y0 y1)
    ∙ ap₂ carryless (sym (pair_xor w x0 x1 x_fits)) (sym (pair_xor w y0 y1 y_fits))

-- ---- the product by a tail, half by half

-- what the low half carries into the high one is what is past it
module _ (w x0 x1 tail carry : ℕ) (fits : x0 < 2 ^ w) where
  whole : tail_product tail (pair w x0 x1) carry ≡ bit_xor (carryless x1 tail * 2 ^ w) (tail_product tail x0 carry)
  whole =
      ap (λ (z : ℕ). bit_xor (carryless z tail) carry) (pair_xor w x0 x1 fits)
      ∙ ap (λ (z : ℕ). bit_xor z carry)
      (sum_carryless x0 (x1 * 2 ^ w) tail ∙ ap (bit_xor (carryless x0 tail)) (shl_carryless w x1 tail)
      ∙ xor_comm (carryless x0 tail) (carryless x1 tail * 2 ^ w))
      ∙ xor_assoc (carryless x1 tail * 2 ^ w) (carryless x0 tail) carry

  tail_low : tail_product tail (pair w x0 x1) carry % 2 ^ w ≡ tail_product tail x0 carry % 2 ^ w
  tail_low =
      ap (λ (z : ℕ). z % 2 ^ w) whole ∙ xor_mod (carryless x1 tail * 2 ^ w) (tail_product tail x0 carry) w
      ∙ ap (λ (z : ℕ). bit_xor z (tail_product tail x0 carry % 2 ^ w)) (mul-mod_left (carryless x1 tail) (2 ^ w))
      ∙ xor_zero_l (tail_product tail x0 carry % 2 ^ w)

  tail_high : tail_product tail (pair w x0 x1) carry / 2 ^ w ≡ tail_product tail x1 (tail_product tail x0 carry / 2 ^ w)
  tail_high =
      ap (λ (z : ℕ). z / 2 ^ w) whole ∙ xor_shr (carryless x1 tail * 2 ^ w) (tail_product tail x0 carry) w
      ∙ ap (λ (z : ℕ). bit_xor z (tail_product tail x0 carry / 2 ^ w)) (mul-div_cancel (carryless x1 tail) (pow_pos w))

-- what is added to both halves
pub tail_of_pairs : (k tail carry middle : ℕ) {x0 s0 : ℕ} (x1 s1 : ℕ) → x0 < 2 ^ 2 ^ k → s0 < 2 ^ 2 ^ k
    → middle ≡ tail_product tail x0 carry / 2 ^ 2 ^ k
    → pair (2 ^ k) (bit_xor s0 (tail_product tail x0 carry % 2 ^ 2 ^ k)) (bit_xor s1 (tail_product tail x1 middle % 2 ^ 2 ^ k))
    ≡ bit_xor (pair (2 ^ k) s0 s1) (tail_product tail (pair (2 ^ k) x0 x1) carry % 2 ^ 2 ^ suc k)
tail_of_pairs k tail carry middle {x0} {s0} x1 s1 x_fits s_fits is =
    let w = 2 ^ k in
    let all = tail_product tail (pair w x0 x1) carry in
    sum_of_pairs k s1 (tail_product tail x1 middle % 2 ^ w) s_fits (mod-lt (tail_product tail x0 carry) (pow_pos w))
    ∙ ap (bit_xor (pair w s0 s1))
    (sym (ap (λ (n : ℕ). all % 2 ^ n) (sym (bits_double k)) ∙ mod-pow-add all w w
    ∙ ap₂ (λ (p q : ℕ). p % 2 ^ w * 2 ^ w + q)
    (tail_high w x0 x1 tail carry x_fits ∙ ap (tail_product tail x1) (sym is)) (tail_low w x0 x1 tail carry x_fits)))

-- and what is carried on
pub carried_by_pairs : (k tail carry middle : ℕ) {x0 : ℕ} (x1 : ℕ) → x0 < 2 ^ 2 ^ k → middle ≡ tail_product tail x0 carry / 2 ^ 2 ^ k
    → tail_product tail x1 middle / 2 ^ 2 ^ k ≡ tail_product tail (pair (2 ^ k) x0 x1) carry / 2 ^ 2 ^ suc k
carried_by_pairs k tail carry middle {x0} x1 x_fits is =
    let w = 2 ^ k in
    let all = tail_product tail (pair w x0 x1) carry in
    sym (ap (λ (n : ℕ). all / 2 ^ n) (sym (bits_double k)) ∙ sym (shr-shr all w w)
    ∙ ap (λ (p : ℕ). p / 2 ^ w) (tail_high w x0 x1 tail carry x_fits ∙ ap (tail_product tail x1) (sym is)))
