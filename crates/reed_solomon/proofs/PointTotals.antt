-- Sums over the 2 ^ n points that Cantor vectors span, from any point on: that of the quotient of a polynomial of 2 ^ n coefficients by the
-- difference from a point is 0. And any values there are those of a polynomial of as many coefficients.
use Rattle.std.proofs.Common.{◌≡◌, inl, inr, ℕ, zero, suc, ◌+◌, ◌-◌, ◌*◌, ◌%◌, ◌^◌, ◌<◌, ◌≤◌, if◌then◌else◌, nat_lt, refl, sym, ◌∙◌, ap, ap₂, subst, arith}
use Rattle.std.specs.Prelude.{bit_xor}
use Rattle.std.proofs.Math.Nat.{two-pow-succ}
use Rattle.std.proofs.lemmas.Bool.{cases_lt}
use Rattle.std.proofs.lemmas.Bool.Decides.{nat_tests}
use Rattle.std.proofs.lemmas.Nat.{pow_pos, xor_lt, xor_mod}
use native.Mathlib.Nat.{mod-eq_of_lt, mod-lt}
use lib.Bits.{xor_assoc, xor_comm, xor_self, xor_zero_l, xor_zero_r}
use Rattle.field_base.specs.Basis.{sum_below}
use Rattle.field_base.specs.Ring.{IsRing}
use Rattle.field_base.specs.Tower.{tower_mul}
use Rattle.field_base.proofs.BasisSums.{sum_below-add, sum_below-same}
use Rattle.field_base.proofs.RingLemmas.{sum_times, times-zero, xor_cancel}
use Rattle.field_base.proofs.TowerRing.{tower_ring}
use Rattle.ghash_slices.specs.Cantor.{point, polynomial_value, subspace_value}
use Rattle.ghash_slices.proofs.CantorValues.{subspace_value-sum, sum_below-image}
use Rattle.ghash_slices.proofs.StageSums.{sum_below-xor}
use Rattle.additive_transforms.proofs.BlockPoints.{point-joined}
use Rattle.additive_transforms.proofs.CantorSums.{value-one, value-same}
use Rattle.word_tables.specs.Cantor.{cantor_vector}
use Rattle.reed_solomon.proofs.DerivedValues.{one-lt, quotient, quotient-first, quotient-next, slope, slope-first, slope-next}
use Rattle.reed_solomon.proofs.FirstValues.{first_values, folded, next_value}

module _ (level : ℕ) (low : level ≤ 7) where
  abbrev times : ℕ → ℕ → ℕ
  times = tower_mul level

  abbrev at : ℕ → ℕ → ℕ
  at z p = point (2 ^ level) cantor_vector z p

  abbrev wide : 0 < 2 ^ level
  wide = pow_pos level

  abbrev ring : IsRing (2 ^ level) 1 times
  ring = tower_ring level

  one_fits : 1 < 2 ^ 2 ^ level
  one_fits = one-lt (2 ^ level) times wide ring

  unit : (c : ℕ) → c < 2 ^ 2 ^ level → times c 1 ≡ c
  unit c fits = ring.comm c 1 ∙ ring.one c ∙ mod-eq_of_lt fits

  -- ---- totals

  -- the sum of the values at the 2 ^ n points from z on
  abbrev total : (ℕ → ℕ) → ℕ → ℕ → ℕ
  total f n z = sum_below (λ p. f (at z p)) (2 ^ n)

  upper_point : (n z p : ℕ) → p < 2 ^ n → at z (2 ^ n + p) ≡ at (at z (2 ^ n)) p
  upper_point n z p small =
      let one : 2 ^ n ≡ 1 * 2 ^ n = omega arith in
      ap (λ (s : ℕ). at z (s + p)) one ∙ sym (point-joined cantor_vector n 1 p small (2 ^ level) z) ∙ ap (λ (s : ℕ). at (at z s) p) (sym one)

  total-first : (f : ℕ → ℕ) (z : ℕ) → total f 0 z ≡ f (at z 0)
  unfolding sum_below
  total-first f z = xor_zero_l (f (at z 0))

  -- by its halves
  total-next : (f : ℕ → ℕ) (n z : ℕ) → total f (suc n) z ≡ bit_xor (total f n z) (total f n (at z (2 ^ n)))
  total-next f n z =
      ap (sum_below (λ p. f (at z p))) (two-pow-succ n)
      ∙ sum_below-add (λ p. f (at z p)) (2 ^ n) (2 ^ n)
      ∙ ap (bit_xor (total f n z))
      (sum_below-same (λ p. f (at z (2 ^ n + p))) (λ p. f (at (at z (2 ^ n)) p)) (2 ^ n) (λ p below. ap f (upper_point n z p below)))

  total-times : (s : ℕ) (f : ℕ → ℕ) (n z : ℕ) → total (λ x. times s (f x)) n z ≡ times s (total f n z)
  total-times s f n z = sym (sum_below-image (times s) (ring.over_sum s) (λ p. f (at z p)) (2 ^ n))

  module _ (a : ℕ) where
    abbrev slope_to : ℕ → ℕ → ℕ
    slope_to n x = slope (2 ^ level) times wide ring a n x

    abbrev quotient_to : ℕ → (ℕ → ℕ) → ℕ → ℕ
    quotient_to n c x = quotient (2 ^ level) times wide ring a n c x

    -- s_n of the difference from a
    abbrev step : ℕ → ℕ → ℕ
    step n x = subspace_value times n (bit_xor x a) % 2 ^ 2 ^ level

    step-same : (n z p : ℕ) → n < 2 ^ level → p < 2 ^ n → step n (at z p) ≡ step n z
    step-same n z p staged small =
        ap (λ (v : ℕ). v % 2 ^ 2 ^ level)
        (subspace_value-sum (2 ^ level) times wide ring n (at z p) a
        ∙ ap (λ (v : ℕ). bit_xor v (subspace_value times n a)) (first_values level low n z p staged small)
        ∙ sym (subspace_value-sum (2 ^ level) times wide ring n z a))

    step-next : (n z : ℕ) → n < 2 ^ level → step n (at z (2 ^ n)) ≡ bit_xor (step n z) 1
    step-next n z staged =
        let s : ℕ = subspace_value times n z in
        let v : ℕ = subspace_value times n a in
        ap (λ (v : ℕ). v % 2 ^ 2 ^ level)
        (subspace_value-sum (2 ^ level) times wide ring n (at z (2 ^ n)) a
        ∙ ap (λ (u : ℕ). bit_xor u v) (next_value level low n z staged)
        ∙ swap s 1 v
        ∙ ap (λ (u : ℕ). bit_xor u 1) (sym (subspace_value-sum (2 ^ level) times wide ring n z a)))
        ∙ xor_mod (subspace_value times n (bit_xor z a)) 1 (2 ^ level)
        ∙ ap (bit_xor (step n z)) (mod-eq_of_lt one_fits)
      where
        swap : (i j k : ℕ) → bit_xor (bit_xor i j) k ≡ bit_xor (bit_xor i k) j
        swap i j k = xor_assoc i j k ∙ ap (bit_xor i) (xor_comm j k) ∙ sym (xor_assoc i k j)

    -- ---- slopes

    slope-half : (n z : ℕ) → n < 2 ^ level → total (slope_to n) n z ≡ 1 → total (slope_to (suc n)) n z ≡ bit_xor (step n z) 1
    slope-half n z staged one =
        let s : ℕ = bit_xor (step n z) 1 in
        sum_below-same (λ p. slope_to (suc n) (at z p)) (λ p. times s (slope_to n (at z p))) (2 ^ n)
        (λ p below. slope-next (2 ^ level) times wide ring a n (at z p)
        ∙ ap (λ (v : ℕ). times (bit_xor v 1) (slope_to n (at z p))) (step-same n z p staged below))
        ∙ total-times s (slope_to n) n z
        ∙ ap (times s) one
        ∙ unit s (xor_lt (2 ^ level) (step n z) 1 (mod-lt (subspace_value times n (bit_xor z a)) (pow_pos (2 ^ level))) one_fits)

    slope-total : (n : ℕ) → n ≤ 2 ^ level → (z : ℕ) → total (slope_to n) n z ≡ 1
    slope-total zero few z = total-first (slope_to 0) z ∙ slope-first (2 ^ level) times wide ring a (at z 0)
    slope-total (suc n) few z =
        let up : ℕ = at z (2 ^ n) in
        total-next (slope_to (suc n)) n z
        ∙ ap₂ bit_xor (slope-half n z few (slope-total n (omega (arith, few)) z))
        (slope-half n up few (slope-total n (omega (arith, few)) up) ∙ ap (λ (v : ℕ). bit_xor v 1) (step-next n z few))
        ∙ xor_cancel (bit_xor (step n z) 1) 1

    -- ---- quotients

    quotient-half : (n : ℕ) (c : ℕ → ℕ) (z : ℕ) → n < 2 ^ level → total (quotient_to n c) n z ≡ 0
        → total (quotient_to n (λ k. c (2 ^ n + k))) n z ≡ 0
        → total (quotient_to (suc n) c) n z ≡ times (polynomial_value times n (λ k. c (2 ^ n + k)) a) 1
    quotient-half n c z staged lower upper =
        let u : ℕ → ℕ = λ k. c (2 ^ n + k) in
        let s : ℕ = subspace_value times n z % 2 ^ 2 ^ level in
        let w : ℕ = polynomial_value times n u a in
        sum_below-same (λ p. quotient_to (suc n) c (at z p))
        (λ p. bit_xor (bit_xor (quotient_to n c (at z p)) (times s (quotient_to n u (at z p)))) (times w (slope_to n (at z p)))) (2 ^ n)
        (λ p below. quotient-next (2 ^ level) times wide ring a n c (at z p)
        ∙ ap (λ (v : ℕ). bit_xor (bit_xor (quotient_to n c (at z p)) (times (v % 2 ^ 2 ^ level) (quotient_to n u (at z p))))
        (times w (slope_to n (at z p)))) (first_values level low n z p staged below))
        ∙ sym (sum_below-xor (λ p. bit_xor (quotient_to n c (at z p)) (times s (quotient_to n u (at z p)))) (λ p. times w (slope_to n (at z p))) (2 ^ n))
        ∙ ap₂ bit_xor
        (sym (sum_below-xor (λ p. quotient_to n c (at z p)) (λ p. times s (quotient_to n u (at z p))) (2 ^ n))
        ∙ ap₂ bit_xor lower (total-times s (quotient_to n u) n z ∙ ap (times s) upper ∙ times-zero (2 ^ level) 1 times ring s))
        (total-times w (slope_to n) n z ∙ ap (times w) (slope-total n (omega (arith, staged)) z))
        ∙ xor_zero_l (times w 1)

    -- the sum of a quotient is 0
    pub quotient-total : (n : ℕ) → n ≤ 2 ^ level → (c : ℕ → ℕ) (z : ℕ) → total (quotient_to n c) n z ≡ 0
    quotient-total zero few c z = total-first (quotient_to 0 c) z ∙ quotient-first (2 ^ level) times wide ring a c (at z 0)
    quotient-total (suc n) few c z =
        let up : ℕ = at z (2 ^ n) in
        let u : ℕ → ℕ = λ k. c (2 ^ n + k) in
        let less : n ≤ 2 ^ level = omega (arith, few) in
        total-next (quotient_to (suc n) c) n z
        ∙ ap₂ bit_xor (quotient-half n c z few (quotient-total n less c z) (quotient-total n less u z))
        (quotient-half n c up few (quotient-total n less c up) (quotient-total n less u up))
        ∙ xor_self (times (polynomial_value times n u a) 1)

  -- ---- coefficients

  -- those of two halves, joined by a stage
  module _ (n z : ℕ) (staged : n < 2 ^ level) (u w : ℕ → ℕ) (u-lt : (k : ℕ) → u k < 2 ^ 2 ^ level) (w-lt : (k : ℕ) → w k < 2 ^ 2 ^ level) where
    abbrev t : ℕ
    t = subspace_value times n z

    abbrev d : ℕ → ℕ
    d k = bit_xor (u k) (w k)

    d-lt : (k : ℕ) → d k < 2 ^ 2 ^ level
    d-lt k = xor_lt (2 ^ level) (u k) (w k) (u-lt k) (w-lt k)

    joined : ℕ → ℕ
    joined k = if nat_lt k (2 ^ n) then bit_xor (u k) (times t (d k)) else d (k - 2 ^ n)

    joined-low : (k : ℕ) → k < 2 ^ n → joined k ≡ bit_xor (u k) (times t (d k))
    unfolding joined
    joined-low k below = grind (arith, nat_tests)

    joined-high : (k : ℕ) → 2 ^ n ≤ k → joined k ≡ d (k - 2 ^ n)
    unfolding joined
    joined-high k past = grind (arith, nat_tests)

    joined-upper : (k : ℕ) → joined (2 ^ n + k) ≡ d k
    joined-upper k = let behind : 2 ^ n + k - 2 ^ n ≡ k = omega arith in joined-high (2 ^ n + k) (omega arith) ∙ ap d behind

    joined-lt : (k : ℕ) → joined k < 2 ^ 2 ^ level
    joined-lt k =
        elim (cases_lt k (2 ^ n)) [
          | inl below ↦
              subst (λ (v : ℕ). v < 2 ^ 2 ^ level) (sym (joined-low k below)) (xor_lt (2 ^ level) (u k) (times t (d k)) (u-lt k) (ring.below t (d k)))
          | inr past ↦ subst (λ (v : ℕ). v < 2 ^ 2 ^ level) (sym (joined-high k past)) (d-lt (k - 2 ^ n))
        ]

    joined-first : (p : ℕ) → p < 2 ^ n → polynomial_value times (suc n) joined (at z p) ≡ polynomial_value times n u (at z p)
    joined-first p small =
        sym (folded level low n joined z p t staged small refl)
        ∙ value-same (2 ^ level) times wide ring n (λ k. bit_xor (joined k) (times t (joined (2 ^ n + k)))) u (at z p)
        (λ k below. ap₂ bit_xor (joined-low k below) (ap (times t) (joined-upper k))
        ∙ xor_assoc (u k) (times t (d k)) (times t (d k)) ∙ ap (bit_xor (u k)) (xor_self (times t (d k))) ∙ xor_zero_r (u k))

    joined-next : (p : ℕ) → p < 2 ^ n → polynomial_value times (suc n) joined (at z (2 ^ n + p)) ≡ polynomial_value times n w (at (at z (2 ^ n)) p)
    joined-next p small =
        let up : ℕ = at z (2 ^ n) in
        ap (polynomial_value times (suc n) joined) (upper_point n z p small)
        ∙ sym (folded level low n joined up p (bit_xor t 1) staged small (sym (next_value level low n z staged)))
        ∙ value-same (2 ^ level) times wide ring n (λ k. bit_xor (joined k) (times (bit_xor t 1) (joined (2 ^ n + k)))) w (at up p)
        (λ k below. ap₂ bit_xor (joined-low k below)
        (ap (times (bit_xor t 1)) (joined-upper k) ∙ sum_times (2 ^ level) 1 times ring t 1 (d k)
        ∙ ap (bit_xor (times t (d k))) (ring.one (d k) ∙ mod-eq_of_lt (d-lt k)))
        ∙ xor_assoc (u k) (times t (d k)) (bit_xor (times t (d k)) (d k))
        ∙ ap (bit_xor (u k)) (xor_cancel (times t (d k)) (d k)) ∙ xor_cancel (u k) (w k))

  -- so all values there have coefficients
  pub interpolates : (n : ℕ) → n ≤ 2 ^ level → (z : ℕ) (v : ℕ → ℕ) → ((p : ℕ) → v p < 2 ^ 2 ^ level)
      → (c : ℕ → ℕ) × ((k : ℕ) → c k < 2 ^ 2 ^ level) × ((p : ℕ) → p < 2 ^ n → polynomial_value times n c (at z p) ≡ v p)
  interpolates zero few z v fits = (
    (λ k. v 0),
    (λ k. fits 0),
    λ p below.
        let first : 0 ≡ p = omega (arith, below) in
        value-one (2 ^ level) times wide ring (λ k. v 0) (at z p) (fits 0) ∙ ap v first,
  )
  interpolates (suc n) few z v fits =
      let less : n ≤ 2 ^ level = omega (arith, few) in
      let lower = interpolates n less z v fits in
      let upper = interpolates n less (at z (2 ^ n)) (λ p. v (2 ^ n + p)) (λ p. fits (2 ^ n + p)) in (
        joined n z few lower.0 upper.0 lower.1 upper.1,
        joined-lt n z few lower.0 upper.0 lower.1 upper.1,
        λ p below.
            elim (cases_lt p (2 ^ n)) [
              | inl small ↦ joined-first n z few lower.0 upper.0 lower.1 upper.1 p small ∙ lower.2 p small
              | inr past ↦
                  let twice = two-pow-succ n in
                  let place : 2 ^ n + (p - 2 ^ n) ≡ p = omega (arith, past) in
                  let small : p - 2 ^ n < 2 ^ n = omega (arith, past, below, twice) in
                  ap (λ (q : ℕ). polynomial_value times (suc n) (joined n z few lower.0 upper.0 lower.1 upper.1) (at z q)) (sym place)
                  ∙ joined-next n z few lower.0 upper.0 lower.1 upper.1 (p - 2 ^ n) small
                  ∙ upper.2 (p - 2 ^ n) small ∙ ap v place
            ],
      )
