-- How many places are marked, besides what proximity has of it: marks of two kinds, and places that are wrong.
use Rattle.std.proofs.Common.{◌≡◌, ◌≢◌, inl, inr, ℕ, ◌+◌, ◌<◌, ◌≤◌, Bool, true, false, cond, refl}
use Rattle.std.proofs.Common.{ap, arith}
use Rattle.std.proofs.lemmas.Bool.Decides.{eqb_tells}
use Rattle.std.specs.Prelude.{◌&&◌, ◌||◌, nat_eq, not}
use Rattle.field_slices.proofs.Counting.{total-add, total-most}
use Rattle.field_slices.specs.Marks.{marked_below}

-- fewer marks
pub fewer-marks : (a b : ℕ → Bool) (n : ℕ) → ((i : ℕ) → i < n → a i ≡ true → b i ≡ true)
    → marked_below a n ≤ marked_below b n
fewer-marks a b n each =
    total-most (λ i. cond (a i) 1 0) (λ i. cond (b i) 1 0) n (λ i below. less (a i) (b i) (each i below))
  where
    less : (x y : Bool) → (x ≡ true → y ≡ true) → cond x 1 0 ≤ cond y 1 0
    less false y step = omega arith
    less true true step = omega arith
    less true false step = let none : false ≡ true = step refl in absurd (cc)

-- a mark is one of two
pub two-marks : (a b : ℕ → Bool) (n : ℕ) → marked_below (λ p. a p || b p) n ≤ marked_below a n + marked_below b n
two-marks a b n =
    let one = total-most (λ p. cond (a p || b p) 1 0) (λ p. cond (a p) 1 0 + cond (b p) 1 0) n
    (λ p below. each (a p) (b p)) in
    let two = total-add (λ p. cond (a p) 1 0) (λ p. cond (b p) 1 0) n in
    omega (arith, one, two)
  where
    each : (x y : Bool) → cond (x || y) 1 0 ≤ cond x 1 0 + cond y 1 0
    each true y = omega arith
    each false true = omega arith
    each false false = omega arith

pub none-of-two : (x y : Bool) → (x || y) ≡ false → (x ≡ false) × (y ≡ false)
none-of-two true y is = absurd (cc)
none-of-two false true is = absurd (cc)
none-of-two false false is = (refl, refl)

pub not-false : (b : Bool) → not b ≡ true → b ≡ false
not-false true is = absurd (cc)
not-false false is = refl

-- ---- places that are wrong: not erased, and with other symbols

pub right-is : (erased : Bool) (a b : ℕ) → erased ≡ false → (not erased && not (nat_eq a b)) ≡ false → a ≡ b
right-is true a b kept is = absurd (cc)
right-is false a b kept is = elim (eqb_tells a b) [
  | inl same ↦ same.1
  | inr other ↦ let one : not (nat_eq a b) ≡ true = ap not other.0 in absurd (cc)
]

pub wrong-is : (erased : Bool) (a b : ℕ) → (not erased && not (nat_eq a b)) ≡ true → (erased ≡ false) × (a ≢ b)
wrong-is true a b is = absurd (cc)
wrong-is false a b is = (
  refl,
  λ same. elim (eqb_tells a b) [
    | inl one ↦ let none : not (nat_eq a b) ≡ false = ap not one.0 in absurd (cc)
    | inr other ↦ other.1 same
  ],
)

pub equal-is : (a b : ℕ) → nat_eq a b ≡ true → a ≡ b
equal-is a b is = elim (eqb_tells a b) [
  | inl same ↦ same.1
  | inr other ↦ let none = other.0 in absurd (cc)
]

pub differ-is : (a b : ℕ) → nat_eq a b ≡ false → a ≢ b
differ-is a b is = elim (eqb_tells a b) [
  | inl same ↦ let one = same.0 in absurd (cc)
  | inr other ↦ other.1
]
