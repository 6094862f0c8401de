-- How many places are marked: sums in another order, and places that are not marked.
use Rattle.std.proofs.Common.{◌≡◌, ◌⊎◌, inl, inr, ℕ, zero, suc, ◌+◌, ◌*◌, ◌<◌, ◌≤◌, Bool, true, false, cond, refl, ap, subst, arith}
use Rattle.std.proofs.Math.Dec.{ltb}
use Rattle.std.proofs.Math.Nat.{mul-le-mul_left}
use Rattle.std.proofs.lemmas.Bool.{ltb-false, ltb-true}
use Rattle.std.specs.Prelude.{◌||◌}
use Rattle.field_slices.specs.Marks.{marked_below, total}

-- ---- sums

pub total-add : (f g : ℕ → ℕ) (n : ℕ) → total (λ p. f p + g p) n ≡ total f n + total g n
unfolding total
total-add f g zero = refl
total-add f g (suc n) = let before = total-add f g n in omega (arith, before)

pub total-most : (f g : ℕ → ℕ) (n : ℕ) → ((p : ℕ) → p < n → f p ≤ g p) → total f n ≤ total g n
unfolding total
total-most f g zero each = omega arith
total-most f g (suc n) each =
    let before = total-most f g n (λ p below. each p (omega (arith, below))) in
    let last = each n (omega arith) in
    omega (arith, before, last)

pub total-zero : (n : ℕ) → total (λ p. 0) n ≡ 0
unfolding total
total-zero zero = refl
total-zero (suc n) = let before = total-zero n in omega (arith, before)

pub total-times : (c : ℕ) (f : ℕ → ℕ) (n : ℕ) → total (λ p. c * f p) n ≡ c * total f n
unfolding total
total-times c f zero = omega arith
total-times c f (suc n) = let before = total-times c f n in omega (arith, before)

-- ---- marks

-- of so many markings of which each has at most e marks, all places have at most so many times e marks together
pub total-marks : (e m n : ℕ) (marked : ℕ → ℕ → Bool) → ((j : ℕ) → j < m → marked_below (marked j) n ≤ e)
    → total (λ p. marked_below (λ j. marked j p) m) n ≤ m * e
unfolding total
total-marks e zero n marked each = let none = total-zero n in omega (arith, none)
total-marks e (suc m) n marked each =
    let before = total-marks e m n marked (λ j below. each j (omega (arith, below))) in
    let last = each m (omega arith) in
    let split = total-add (λ p. marked_below (λ j. marked j p) m) (λ p. cond (marked m p) 1 0) n in
    omega (arith, before, last, split)

-- where fewer are marked than there are, one is not
pub one-unmarked : (marked : ℕ → Bool) (m : ℕ) → marked_below marked m < m → (j : ℕ) × (j < m) × (marked j ≡ false)
unfolding total
one-unmarked marked zero fewer = absurd (omega (arith, fewer))
one-unmarked marked (suc m) fewer = pick (marked m) refl (one-unmarked marked m)
  where
    pick : (b : Bool) → marked m ≡ b → (marked_below marked m < m → (j : ℕ) × (j < m) × (marked j ≡ false))
        → (j : ℕ) × (j < suc m) × (marked j ≡ false)
    pick false is before = (m, omega arith, is)
    pick true is before =
        let one : ℕ = 1 in let none : ℕ = 0 in let last : cond (marked m) one none ≡ one = ap (λ (b : Bool). cond b one none) is in
        let found = before (omega (arith, fewer, last)) in
        (found.0, omega (arith, found.1), found.2)

-- and where two fewer, two are not
pub two-unmarked : (marked : ℕ → Bool) (m : ℕ) → marked_below marked m + 2 ≤ m
    → (i j : ℕ) × (i < j) × (j < m) × (marked i ≡ false) × (marked j ≡ false)
unfolding total
two-unmarked marked zero fewer = absurd (omega (arith, fewer))
two-unmarked marked (suc m) fewer = pick (marked m) refl (two-unmarked marked m)
  where
    pick : (b : Bool) → marked m ≡ b
        → (marked_below marked m + 2 ≤ m → (i j : ℕ) × (i < j) × (j < m) × (marked i ≡ false) × (marked j ≡ false))
        → (i j : ℕ) × (i < j) × (j < suc m) × (marked i ≡ false) × (marked j ≡ false)
    pick false is before =
        let one : ℕ = 1 in let none : ℕ = 0 in let last : cond (marked m) one none ≡ none = ap (λ (b : Bool). cond b one none) is in
        let found = one-unmarked marked m (omega (arith, fewer, last)) in
        (found.0, m, found.1, omega arith, found.2, is)
    pick true is before =
        let one : ℕ = 1 in let none : ℕ = 0 in let last : cond (marked m) one none ≡ one = ap (λ (b : Bool). cond b one none) is in
        let found = before (omega (arith, fewer, last)) in
        (found.0, found.1, found.2, omega (arith, found.3), found.4, found.5)

-- a mark is one of three
pub three-marks : (a b c : ℕ → Bool) (n : ℕ)
    → marked_below (λ p. a p || b p || c p) n ≤ marked_below a n + marked_below b n + marked_below c n
three-marks a b c n =
    let one = total-most (λ p. cond (a p || b p || c p) 1 0) (λ p. cond (a p) 1 0 + cond (b p) 1 0 + cond (c p) 1 0) n (λ p below. each (a p) (b p) (c p)) in
    let two = total-add (λ p. cond (a p) 1 0 + cond (b p) 1 0) (λ p. cond (c p) 1 0) n in
    let three = total-add (λ p. cond (a p) 1 0) (λ p. cond (b p) 1 0) n in
    omega (arith, one, two, three)
  where
    each : (x y z : Bool) → cond (x || y || z) 1 0 ≤ cond x 1 0 + cond y 1 0 + cond z 1 0
    each true y z = omega arith
    each false true z = omega arith
    each false false true = omega arith
    each false false false = omega arith

pub none-of-three : (x y z : Bool) → (x || y || z) ≡ false → (x ≡ false) × (y ≡ false) × (z ≡ false)
none-of-three true y z is = absurd (cc)
none-of-three false true z is = absurd (cc)
none-of-three false false true is = absurd (cc)
none-of-three false false false is = (refl, refl, refl)

-- ---- the places that all markings but one mark

module _ (e m n : ℕ) (marked : ℕ → ℕ → Bool) where
  -- all markings but one mark place p
  abbrev pub nearly_all : ℕ → Bool
  nearly_all p = ltb m (marked_below (λ j. marked j p) m + 2)

  pub few-places : m ≡ e + 2 → ((j : ℕ) → j < m → marked_below (marked j) n ≤ e) → marked_below nearly_all n ≤ e
  few-places count each = least (marked_below nearly_all n) (omega (arith, most, all))
    where
      heavy : (p : ℕ) → (b : Bool) → nearly_all p ≡ b → (e + 1) * cond b 1 0 ≤ marked_below (λ j. marked j p) m
      heavy p false is = omega arith
      heavy p true is = let above = ltb-true m (marked_below (λ j. marked j p) m + 2) is in omega (arith, above, count)

      most : (e + 1) * marked_below nearly_all n ≤ total (λ p. marked_below (λ j. marked j p) m) n
      most =
          let each_place =
          total-most (λ p. (e + 1) * cond (nearly_all p) 1 0) (λ p. marked_below (λ j. marked j p) m) n (λ p below. heavy p (nearly_all p) refl) in
          let factor = total-times (e + 1) (λ p. cond (nearly_all p) 1 0) n in
          omega (arith, each_place, factor)

      all : total (λ p. marked_below (λ j. marked j p) m) n ≤ (e + 2) * e
      all = subst (λ (k : ℕ). total (λ p. marked_below (λ j. marked j p) m) n ≤ k * e) count (total-marks e m n marked each)

      least : (d : ℕ) → (e + 1) * d ≤ (e + 2) * e → d ≤ e
      least d small = elim (cases d) [
        | inl fewer ↦ fewer
        | inr more ↦
            let grows = mul-le-mul_left (e + 1) more in absurd (omega (arith, small, grows))
      ]
        where
          cases : (d : ℕ) → (d ≤ e) ⊎ (e + 1 ≤ d)
          cases d = grind arith

  pub not-nearly-all : (p : ℕ) → nearly_all p ≡ false → (i j : ℕ) × (i < j) × (j < m) × (marked i p ≡ false) × (marked j p ≡ false)
  not-nearly-all p is = two-unmarked (λ j. marked j p) m (ltb-false m (marked_below (λ j. marked j p) m + 2) is)

pub total-same : (f g : ℕ → ℕ) (n : ℕ) → ((p : ℕ) → p < n → f p ≡ g p) → total f n ≡ total g n
unfolding total
total-same f g zero same = refl
total-same f g (suc n) same =
    let before = total-same f g n (λ p below. same p (omega (arith, below))) in
    let last = same n (omega arith) in
    omega (arith, before, last)
