-- The sum-check protocol (C. Lund, L. Fortnow, H. Karloff and N. Nisan, Algebraic methods for interactive proof systems, 1992;
-- J. Thaler, Proofs, Arguments, and Zero-Knowledge, section 4.1) for the sum over the cube of the products of two multilinear
-- polynomials, each given by its values at the corners. A sum is `bit_xor`, and `times` the product of a ring.
use Rattle.std.specs.Prelude.{◌≡◌, ℕ, ◌<◌, List, [], ◌∷◌, length, bit_xor}
use Rattle.field_base.specs.Powers.{dot_of}
use Rattle.field_base.specs.Ring.{IsRing}
use Rattle.field_slices.specs.Multilinear.{AreCornerValues, folded, multilinear_value}

-- a polynomial of degree at most 2, by its coefficients
pub record Quadratic : Type 0 where
  pub constant : ℕ
  pub linear : ℕ
  pub quadratic : ℕ

-- its value at x
abbrev pub quadratic_at : (ℕ → ℕ → ℕ) → Quadratic → ℕ → ℕ
quadratic_at times g x = bit_xor g.constant (bit_xor (times g.linear x) (times g.quadratic (times x x)))

-- the sum over the corners of the products of the values of both polynomials
abbrev pub sum_of_products : (ℕ → ℕ → ℕ) → List ℕ → List ℕ → ℕ
sum_of_products times left right = dot_of times (λ x. x) left right

-- a round's message: its value at each x is the sum of the products where the first coordinate is x
abbrev pub IsRound : (ℕ → ℕ → ℕ) → List ℕ → List ℕ → Quadratic → Type 0
IsRound times left right g = (x : ℕ) → quadratic_at times g x ≡ sum_of_products times (folded times x left) (folded times x right)

-- an honest prover's messages: each is the message of its round, where the coordinates before are the challenges
unfoldable pub AreHonest : (ℕ → ℕ → ℕ) → List ℕ → List ℕ → List Quadratic → List ℕ → Type 0
AreHonest times left right [] [] = Unit {0}
AreHonest times left right [] (r ∷ rs) = ⊥
AreHonest times left right (g ∷ gs) [] = ⊥
AreHonest times left right (g ∷ gs) (r ∷ rs) = IsRound times left right g × AreHonest times (folded times r left) (folded times r right) gs rs

-- what a verifier tests: each message's values at 0 and 1 have the claim of its round as their sum, its value at the challenge is
-- the next claim, and the last claim is `value`
unfoldable pub Accepts : (ℕ → ℕ → ℕ) → ℕ → List Quadratic → List ℕ → ℕ → Type 0
Accepts times claim [] [] value = claim ≡ value
Accepts times claim [] (r ∷ rs) value = ⊥
Accepts times claim (g ∷ gs) [] value = ⊥
Accepts times claim (g ∷ gs) (r ∷ rs) value =
    (bit_xor (quadratic_at times g 0) (quadratic_at times g 1) ≡ claim) × Accepts times (quadratic_at times g r) gs rs value

-- completeness: an honest prover of a true sum is accepted, whatever the challenges are, where the verifier takes the product of the
-- values of both polynomials at the challenges
abbrev pub HonestIsAccepted : Type 0
HonestIsAccepted = (width : ℕ) (times : ℕ → ℕ → ℕ) (left right challenges : List ℕ) (messages : List Quadratic)
    → IsRing width 1 times → 0 < width → AreCornerValues width (length challenges) left → AreCornerValues width (length challenges) right
    → AreHonest times left right messages challenges
    → Accepts times (sum_of_products times left right) messages challenges
    (times (multilinear_value times left challenges) (multilinear_value times right challenges))
