-- The order of an element divides each exponent to which it is 1, so that it is full where no quotient by a prime is one.
use Rattle.std.proofs.Common.{◌≡◌, ◌≢◌, ◌⊎◌, inl, inr, ℕ, zero, suc, ◌+◌, ◌-◌, ◌*◌, ◌/◌, ◌%◌, ◌^◌, ◌≤◌, ◌<◌, rules, Bool, false, cond, List, [], ◌∷◌, length, refl, sym, ◌∙◌, ap, subst, arith, below_more, mul_comm}
use Rattle.std.specs.Prelude.{IsTrue, eqb, slice_index}
use Rattle.std.proofs.lemmas.Bool.{cases_eq}
use Rattle.std.proofs.lemmas.Bool.Decides.{eqb_tells}
use Rattle.std.proofs.lemmas.Nat.{div-add-mod', pow_pos, pow_below}
use Rattle.std.proofs.lemmas.Nat.Gcd.{dvd_refl, dvd_trans, dvd-zero, dvd_of_mod-eq-zero, le_of_dvd, mod-eq-zero_of_dvd}
use Rattle.std.specs.Int.{◌∣◌}
use native.Mathlib.Nat.{add-mul, dvd-add_iff_right, dvd-mod_iff, dvd-mul_left, dvd-mul_right, dvd-mul_left_of_dvd, div-eq_of_eq-mul_left, div-mul_cancel, eq-one_of_dvd-one, mod-eq_of_lt, mod-lt, mul_assoc, mul-add-mod_self_right, mul-suc, one-mul, zero-mul}
use Rattle.field_base.specs.Field.{IsField}
use Rattle.field_base.specs.Orders.{HasFullOrder}
use Rattle.field_base.specs.Powers.{power}
use Rattle.field_base.specs.Ring.{IsRing}
use Rattle.field_base.proofs.PowerLemmas.{one-times, power-add, power-lt, power-mul}
use Rattle.field_base.proofs.RingLemmas.{times-mod, times-zero}
use Rattle.any_field.specs.Orders.{ArePrime}
use Rattle.any_field.specs.Rabin.{IsPrime}
use Rattle.any_field.proofs.Products.{power-order}
use Rattle.any_field.proofs.WordRemainders.{power-split}

-- what holds of a and of b, and of remainders, holds of a number that divides both (Euclid)
shared : (P : ℕ → Type 0) → ((a b : ℕ) → P a → P b → P (a % b)) → (fuel a b : ℕ) → b ≤ fuel → 0 < a → P a → P b
    → (g : ℕ) × (0 < g) × (g ∣ a) × (g ∣ b) × P g
shared P step fuel a zero fits some of_a of_b = (a, some, dvd_refl a, dvd-zero a, of_a)
shared P step zero a (suc b) fits some of_a of_b = absurd (omega (arith, fits))
shared P step (suc fuel) a (suc b) fits some of_a of_b =
    let less : a % suc b < suc b = mod-lt a (positive b) in
    let rest = shared P step fuel (suc b) (a % suc b) (omega (arith, less, fits)) (positive b) of_b (step a (suc b) of_a of_b) in
    (rest.0, rest.1, (dvd-mod_iff rest.0 rest.2).0 rest.3, rest.2, rest.4)
  where
    positive : (b : ℕ) → 0 < suc b
    positive b = omega arith

-- ---- primes

-- a number that a prime does not divide divides what is left of a product with the prime
divides-rest : (q c n : ℕ) → IsPrime q → (q ∣ c → ⊥) → c ∣ q * n → c ∣ n
divides-rest q c n prime other given =
    let some : 0 < q = omega (arith, prime.above) in
    let common = shared (λ (x : ℕ). c ∣ x * n) step c q c (least c) some given (dvd-mul_right c n) in
    elim (prime.factors (q / common.0) common.0 (div-mul_cancel common.0 common.2)) [
      | inl one ↦ absurd (other (subst (λ (z : ℕ). z ∣ c)
          (sym (one-mul common.0) ∙ ap (λ (z : ℕ). z * common.0) (sym one) ∙ div-mul_cancel common.0 common.2) common.3))
      | inr one ↦ subst (λ (z : ℕ). c ∣ z) (ap (λ (z : ℕ). z * n) one ∙ one-mul n) common.4
    ]
  where
    least : (c : ℕ) → c ≤ c
    least c = omega arith

    step : (a b : ℕ) → c ∣ a * n → c ∣ b * n → c ∣ a % b * n
    step a b of_a of_b =
        let multiple : c ∣ a / b * b * n = subst (λ (z : ℕ). c ∣ z) (sym (mul_assoc (a / b) b n)) (dvd-mul_left_of_dvd c of_b (a / b)) in
        (dvd-add_iff_right c multiple).1
        (subst (λ (z : ℕ). c ∣ z) (ap (λ (z : ℕ). z * n) (sym (div-add-mod' a b)) ∙ add-mul (a / b * b) (a % b) n) of_a)

-- n without its factors q, of which it has at most k
unfoldable pub divided : ℕ → ℕ → ℕ → ℕ
divided zero q n = n
divided (suc k) q n = cond (eqb (n % q) 0) (divided k q (n / q)) n

-- and without all factors of a list, of each at most 5
unfoldable pub removed : ℕ → List ℕ → ℕ
removed n [] = n
removed n (q ∷ qs) = removed (divided 5 q n) qs

divided-keeps : (k q c n : ℕ) → IsPrime q → (q ∣ c → ⊥) → c ∣ n → c ∣ divided k q n
unfolding divided
divided-keeps zero q c n prime other given = given
divided-keeps (suc k) q c n prime other given =
    elim (eqb_tells (n % q) 0) [
      | inl same ↦ subst (λ (t : Bool). c ∣ cond t (divided k q (n / q)) n) (sym same.0)
          (divided-keeps k q c (n / q) prime other
          (divides-rest q c (n / q) prime other
          (subst (λ (z : ℕ). c ∣ z) (sym (div-mul_cancel q (dvd_of_mod-eq-zero q same.1)) ∙ mul_comm (n / q) q) given)))
      | inr rest ↦ subst (λ (t : Bool). c ∣ cond t (divided k q (n / q)) n) (sym rest.0) given
    ]

-- a divisor of n is divided by a prime of the list, or divides what is left
found : (qs : List ℕ) → ArePrime qs → (c n : ℕ) → c ∣ n
    → ((i : ℕ) × (i < length qs) × (slice_index qs i ∣ c)) ⊎ (c ∣ removed n qs)
unfolding removed
found [] prime c n given = inr given
found (q ∷ qs) prime c n given =
    elim (cases_eq (c % q) 0) [
      | inl none ↦ inl (0, first (length qs), dvd_of_mod-eq-zero q none)
      | inr other ↦ elim (found qs (λ i within. prime (suc i) (later i (length qs) within)) c (divided 5 q n)
          (divided-keeps 5 q c n (prime 0 (first (length qs))) (λ divides. other (mod-eq-zero_of_dvd q divides)) given)) [
            | inl place ↦ inl (suc place.0, later place.0 (length qs) place.1, place.2)
            | inr rest ↦ inr rest
          ]
    ]
  where
    first : (n : ℕ) → 0 < suc n
    first n = omega arith

    later : (i n : ℕ) → i < n → suc i < suc n
    later i n within = omega (arith, within)

-- ---- orders

-- a quotient of a number above 0 is above 0, and less than the number
nonzero : (a q n : ℕ) → a * q ≡ n → 0 < n → 0 < a
nonzero zero q n parts some = absurd (omega (arith, sym (zero-mul q) ∙ parts, some))
nonzero (suc a) q n parts some = omega arith

smaller : (a q n : ℕ) → 1 < q → a * q ≡ n → 0 < n → a < n
smaller a zero n above parts some = absurd (omega (arith, above))
smaller a (suc zero) n above parts some = absurd (omega (arith, above))
smaller zero (suc (suc q)) n above parts some = some
smaller (suc a) (suc (suc q)) n above parts some = omega (arith, parts)

-- a divisor of an exponent, divided by one of its own
pub divided-more : (exponent rest q : ℕ) → 1 < q → 0 < rest → exponent % rest ≡ 0 → rest % q ≡ 0
    → (0 < rest / q) × (rest / q < rest) × (exponent % (rest / q) ≡ 0)
divided-more exponent rest q above some divides by =
    let parts : rest / q * q ≡ rest = div-mul_cancel q (dvd_of_mod-eq-zero q by) in (
      nonzero (rest / q) q rest parts some,
      smaller (rest / q) q rest above parts some,
      mod-eq-zero_of_dvd (rest / q)
          (dvd_trans (rest / q) (subst (λ (z : ℕ). rest / q ∣ z) parts (dvd-mul_right (rest / q) q)) (dvd_of_mod-eq-zero rest divides)),
    )

-- a divisor of `whole` to which the function is 1, and at whose quotients by the first primes of the list it is not
pub record IsOrderSoFar (at : ℕ → ℕ) (whole : ℕ) (qs : List ℕ) (place order : ℕ) : Type 0 where
  pub some : 0 < order
  pub one : at order ≡ 1
  pub divides : whole % order ≡ 0
  pub tested : (i : ℕ) → i < place → order % slice_index qs i ≡ 0 → at (order / slice_index qs i) ≢ 1

module _ (width : ℕ) (times : ℕ → ℕ → ℕ) (ring : IsRing width 1 times) (one_fits : 1 < 2 ^ width) (x : ℕ) where
  one-power : (n : ℕ) → power 1 times 1 n ≡ 1
  unfolding power
  one-power zero = refl
  one-power (suc n) = ap (λ (z : ℕ). times z 1) (one-power n) ∙ one-times width 1 times ring 1 one_fits

  -- a multiple of an exponent to which x is 1 is another
  pub multiple : (m n : ℕ) → power 1 times x m ≡ 1 → power 1 times x (m * n) ≡ 1
  multiple m n is = power-mul width 1 times ring one_fits x m n ∙ ap (λ (z : ℕ). power 1 times z n) is ∙ one-power n

  -- powers repeat from an exponent to which x is 1
  pub periodic : (e k : ℕ) → power 1 times x e ≡ 1 → power 1 times x k ≡ power 1 times x (k % e)
  periodic e k one =
      sym (sym (one-times width 1 times ring (power 1 times x (k % e)) (power-lt width 1 times ring one_fits x (k % e)))
      ∙ ap (λ (z : ℕ). times z (power 1 times x (k % e))) (sym (multiple e (k / e) one) ∙ ap (power 1 times x) (mul_comm e (k / e)))
      ∙ sym (power-add width 1 times ring one_fits x (k / e * e) (k % e)) ∙ ap (power 1 times x) (div-add-mod' k e))

  remainder : (a b : ℕ) → power 1 times x a ≡ 1 → power 1 times x b ≡ 1 → power 1 times x (a % b) ≡ 1
  remainder a b of_a of_b = sym (periodic b a of_b) ∙ of_a

  -- no exponent is less than a divisor n of one that has no other primes than those of the list, where no quotient of n by one is such
  pub full-order : (whole n : ℕ) (qs : List ℕ) → 0 < n → ArePrime qs → n ∣ whole → removed whole qs ≡ 1 → power 1 times x n ≡ 1
      → ((i : ℕ) → i < length qs → n % slice_index qs i ≡ 0 → power 1 times x (n / slice_index qs i) ≢ 1)
      → (e : ℕ) → 0 < e → e < n → power 1 times x e ≢ 1
  full-order whole n qs n_some prime divisor none one test e some less is =
      let common = shared (λ (a : ℕ). power 1 times x a ≡ 1) remainder n e n (least n) some is one in
      let k = common.0 in
      let c = n / k in
      let parts : c * k ≡ n = div-mul_cancel k common.3 in
      let small : k ≤ e = le_of_dvd some common.2 in
      elim (found qs prime c whole (dvd_trans c (subst (λ (z : ℕ). c ∣ z) parts (dvd-mul_right c k)) divisor)) [
        | inl place ↦
            let q = slice_index qs place.0 in
            let q_some : 0 < q = omega (arith, (prime place.0 place.1).above) in
            let again : c / q * q ≡ c = div-mul_cancel q place.2 in
            let quotient : n ≡ k * (c / q) * q =
            sym parts ∙ ap (λ (z : ℕ). z * k) (sym again) ∙ mul_comm (c / q * q) k ∙ sym (mul_assoc k (c / q) q) in
            test place.0 place.1 (mod-eq-zero_of_dvd q (subst (λ (z : ℕ). q ∣ z) (sym quotient) (dvd-mul_left q (k * (c / q)))))
            (ap (power 1 times x) (div-eq_of_eq-mul_left q_some quotient) ∙ multiple k (c / q) common.4)
        | inr rest ↦
            let one : c ≡ 1 = eq-one_of_dvd-one (subst (λ (z : ℕ). c ∣ z) none rest) in
            let same : k ≡ n = sym (one-mul k) ∙ ap (λ (z : ℕ). z * k) (sym one) ∙ parts in
            absurd (omega (arith, small, less, same))
      ]
    where
      least : (n : ℕ) → n ≤ n
      least n = omega arith

  -- where the order is full, no test fails
  pub test-passes : (q : ℕ) → 1 < q → HasFullOrder width times x → (2 ^ width - 1) % q ≡ 0 → power 1 times x ((2 ^ width - 1) / q) ≢ 1
  test-passes q above full divides =
      let n = 2 ^ width - 1 in
      let n_some : 0 < n = omega (arith, one_fits) in
      let parts : n / q * q ≡ n = div-mul_cancel q (dvd_of_mod-eq-zero q divides) in
      full.1 (n / q) (nonzero (n / q) q n parts n_some) (smaller (n / q) q n above parts n_some)

  -- so that an element that fails a test has not the full order
  pub fails-test : (order q : ℕ) → order ≡ 2 ^ width - 1 → 1 < q → (order % q ≡ 0) × (power 1 times x (order / q) ≡ 1) → HasFullOrder width times x → ⊥
  fails-test order q is above fails full =
      test-passes q above full (ap (λ (z : ℕ). z % q) (sym is) ∙ fails.0) (ap (λ (z : ℕ). power 1 times x (z / q)) (sym is) ∙ fails.1)

  -- one prime more: what passes keeps passing, since a multiple of an exponent to which x is 1 is another
  pub order-more : (whole : ℕ) (qs : List ℕ) (place order next q : ℕ) → ((i : ℕ) → i < place → 1 < slice_index qs i)
      → q ≡ slice_index qs place → IsOrderSoFar (power 1 times x) whole qs place order → 0 < next → power 1 times x next ≡ 1 → order % next ≡ 0
      → (next % q ≡ 0 → power 1 times x (next / q) ≢ 1) → IsOrderSoFar (power 1 times x) whole qs (place + 1) next
  order-more whole qs place order next q above q_is so_far some one divides last = record {
    some = some;
    one = one;
    divides = mod-eq-zero_of_dvd next (dvd_trans next (dvd_of_mod-eq-zero next divides) (dvd_of_mod-eq-zero order so_far.divides));
    tested =
        below_more (λ i. next % slice_index qs i ≡ 0 → power 1 times x (next / slice_index qs i) ≢ 1) place (λ i below by is. older i below by is)
        (λ by is. last (ap (λ (z : ℕ). next % z) q_is ∙ by) (ap (λ (z : ℕ). power 1 times x (next / z)) q_is ∙ is));
  }
    where
      older : (i : ℕ) → i < place → next % slice_index qs i ≡ 0 → power 1 times x (next / slice_index qs i) ≢ 1
      older i below by is =
          let p = slice_index qs i in
          let p_some : 0 < p = omega (arith, above i below) in
          let k = order / next in
          let parts : k * next ≡ order = div-mul_cancel next (dvd_of_mod-eq-zero next divides) in
          let again : next / p * p ≡ next = div-mul_cancel p (dvd_of_mod-eq-zero p by) in
          let quotient : order ≡ next / p * k * p =
          sym parts ∙ ap (λ (z : ℕ). k * z) (sym again) ∙ sym (mul_assoc k (next / p) p) ∙ ap (λ (z : ℕ). z * p) (mul_comm k (next / p)) in
          so_far.tested i below (mod-eq-zero_of_dvd p (subst (λ (z : ℕ). p ∣ z) (sym quotient) (dvd-mul_left p (next / p * k))))
          (ap (power 1 times x) (div-eq_of_eq-mul_left p_some quotient) ∙ multiple (next / p) k is)

-- a power depends on the low bits only
power-low : (width : ℕ) (times : ℕ → ℕ → ℕ) → IsRing width 1 times → (x n : ℕ) → power 1 times (x % 2 ^ width) n ≡ power 1 times x n
unfolding power
power-low width times ring x zero = refl
power-low width times ring x (suc n) =
    ap (λ (z : ℕ). times z (x % 2 ^ width)) (power-low width times ring x n) ∙ times-mod width 1 times ring (power 1 times x n) x

-- an element that is not 0 to the power of their number is 1
pub nonzero-order : (width : ℕ) (times : ℕ → ℕ → ℕ) → IsField width times → 0 < width → (x : ℕ) → x % 2 ^ width ≢ 0 → power 1 times x (2 ^ width - 1) ≡ 1
nonzero-order width times field wide x some =
    sym (power-low width times field.ring x (2 ^ width - 1))
    ∙ power-order width times wide field.ring field.inverses (x % 2 ^ width) (mod-lt x (pow_pos width)) some

-- 0 has not the full order
pub zero-order : (width : ℕ) (times : ℕ → ℕ → ℕ) → IsField width times → 0 < width → (x : ℕ) → x % 2 ^ width ≡ 0 → HasFullOrder width times x → ⊥
unfolding power
zero-order width times field wide x none full =
    let next : suc (2 ^ width - 2) ≡ 2 ^ width - 1 = omega (arith, pow_below 0 width wide) in
    let one : 1 ≡ 0 =
    sym full.0 ∙ ap (power 1 times x) (sym next) ∙ sym (times-mod width 1 times field.ring (power 1 times x (2 ^ width - 2)) x)
    ∙ ap (times (power 1 times x (2 ^ width - 2))) none ∙ times-zero width 1 times field.ring (power 1 times x (2 ^ width - 2)) in
    absurd (omega (arith, one))

-- what one place of the table adds to the test
pub tested-more : (n : ℕ) (qs : List ℕ) (f : ℕ → ℕ) (place q : ℕ) → q ≡ slice_index qs place
    → ((n % q ≡ 0) × (f (n / q) ≡ 1) → ⊥)
    → ((i : ℕ) → i < place → n % slice_index qs i ≡ 0 → f (n / slice_index qs i) ≢ 1)
    → (i : ℕ) → i < place + 1 → n % slice_index qs i ≡ 0 → f (n / slice_index qs i) ≢ 1
tested-more n qs f place q is passes so_far =
    below_more (λ i. n % slice_index qs i ≡ 0 → f (n / slice_index qs i) ≢ 1) place so_far
    (λ divides one. passes (ap (λ (z : ℕ). n % z) is ∙ divides, ap (λ (z : ℕ). f (n / z)) is ∙ one))

-- the low bits of a word of ones
pub ones-are : (w order : ℕ) → w ≤ 128 → order ≡ (2 ^ 128 - 1) % 2 ^ w → order ≡ 2 ^ w - 1
ones-are w order narrow is = is ∙ ap (λ (z : ℕ). (z - 1) % 2 ^ w) (power-split w narrow) ∙ ones (2 ^ w) (2 ^ (128 - w)) (pow_pos w) (pow_pos (128 - w))
  where
    less : (a : ℕ) → 0 < a → a - 1 < a
    less a some = omega (arith, some)

    ones : (a k : ℕ) → 0 < a → 0 < k → (a * k - 1) % a ≡ a - 1
    ones a zero some other = absurd (omega (arith, other))
    ones a (suc k) some other =
        let parts : a * suc k - 1 ≡ k * a + (a - 1) = omega (arith, mul-suc a k, mul_comm a k, some) in
        ap (λ (z : ℕ). z % a) parts ∙ mul-add-mod_self_right k a (a - 1) ∙ mod-eq_of_lt (less a some)

pub refused : (A : Type 0) (r : Bool) → r ≡ false → (A → IsTrue r) → A → ⊥
refused A r e complete a = let h : IsTrue false = subst (λ (z : Bool). IsTrue z) e (complete a) in absurd (search rules)
