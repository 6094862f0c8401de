-- A table of numbers is checked by one computation, a Bool; from the Bool follows what holds at each entry.
use Rattle.std.proofs.Common.{◌≡◌, ℕ, zero, suc, ◌+◌, ◌<◌, Bool, true, ◌&&◌, eqb, List, [], ◌∷◌, length, get_or, ◌∙◌, ap, subst, arith}
use Rattle.std.proofs.lemmas.Bool.{and_parts, eqb-true}
use native.Mathlib.Nat.{zero-add}
use Rattle.field_base.specs.Powers.{power}

-- whether each entry passes the test at its place, where the first has the place x
unfoldable pub passes : (ℕ → ℕ → Bool) → ℕ → List ℕ → Bool
passes test x [] = true
passes test x (y ∷ ys) = test x y && passes test (suc x) ys

-- where all entries pass, the entry at place i does
pub passes_at : (test : ℕ → ℕ → Bool) (x : ℕ) (ys : List ℕ) (i : ℕ) → passes test x ys ≡ true → i < length ys
    → test (x + i) (get_or ys i 0) ≡ true
unfolding passes
passes_at test x [] i pass inside = absurd (omega arith)
passes_at test x (y ∷ ys) zero pass inside =
    let first : x + 0 ≡ x = omega arith in
    ap (λ (k : ℕ). test k y) first ∙ (and_parts (test x y) (passes test (suc x) ys) pass).0
passes_at test x (y ∷ ys) (suc i) pass inside =
    let next : x + suc i ≡ suc x + i = omega arith in
    ap (λ (k : ℕ). test k (get_or ys i 0)) next
    ∙ passes_at test (suc x) ys i (and_parts (test x y) (passes test (suc x) ys) pass).1 (omega arith)

-- ---- tables of a function

-- whether the entries are the values of f, from the place 0 on
unfoldable pub tabulates : (ℕ → ℕ) → List ℕ → Bool
tabulates f ys = passes (λ x y. eqb y (f x)) 0 ys

-- the entry at place x is f x
pub tabulates_at : (f : ℕ → ℕ) (ys : List ℕ) (x : ℕ) → tabulates f ys ≡ true → x < length ys → get_or ys x 0 ≡ f x
unfolding tabulates
tabulates_at f ys x pass inside =
    eqb-true (get_or ys x 0) (f x)
    (subst (λ (k : ℕ). eqb (get_or ys x 0) (f k) ≡ true) (zero-add x) (passes_at (λ x y. eqb y (f x)) 0 ys x pass inside))

-- ---- tables of powers

-- whether the entries are the value and what the step makes of it, again and again
unfoldable pub repeats : (ℕ → ℕ) → ℕ → List ℕ → Bool
repeats step value [] = true
repeats step value (y ∷ ys) = eqb y value && repeats step (step value) ys

module _ (times : ℕ → ℕ → ℕ) (a : ℕ) where
  -- entry i of a table that starts with the power n is the power n + i
  repeats_from : (n : ℕ) (ys : List ℕ) (i : ℕ) → repeats (λ x. times x a) (power 1 times a n) ys ≡ true → i < length ys
      → get_or ys i 0 ≡ power 1 times a (n + i)
  unfolding repeats power
  repeats_from n [] i pass inside = absurd (omega arith)
  repeats_from n (y ∷ ys) zero pass inside =
      let first : n ≡ n + 0 = omega arith in
      eqb-true y (power 1 times a n) (and_parts (eqb y (power 1 times a n)) _ pass).0 ∙ ap (power 1 times a) first
  repeats_from n (y ∷ ys) (suc i) pass inside =
      let next : suc n + i ≡ n + suc i = omega arith in
      repeats_from (suc n) ys i (and_parts (eqb y (power 1 times a n)) _ pass).1 (omega arith)
      ∙ ap (power 1 times a) next

  -- the entries are the powers of the element
  pub repeats_at : (ys : List ℕ) (e : ℕ) → repeats (λ x. times x a) 1 ys ≡ true → e < length ys
      → get_or ys e 0 ≡ power 1 times a e
  unfolding power
  repeats_at ys e pass inside = repeats_from 0 ys e pass inside ∙ ap (power 1 times a) (zero-add e)
