-- The distance of Reed-Solomon codes: as many places at which words agree as the message has symbols determine them. And the numbers of the
-- lemma by triples at the rate 1 / 4.
use Rattle.std.proofs.Common.{◌≡◌, ℕ, ◌+◌, ◌-◌, ◌*◌, ◌^◌, ◌<◌, ◌≤◌, Bool, true, false, refl, sym, ◌∙◌, ap, subst, le_trans, arith}
use Rattle.std.specs.Prelude.{not}
use Rattle.std.proofs.Math.Nat.{mul-le-mul_left, mul-le-mul_right, pow-le-pow_left}
use Rattle.std.proofs.lemmas.Nat.{pow_pos}
use Rattle.ghash_slices.specs.Cantor.{point, polynomial_value}
use Rattle.ghash_slices.specs.Stages.{sum_of_factors}
use Rattle.field_slices.specs.Blocks.{cheats_in_blocks}
use Rattle.field_slices.specs.Codes.{HasDistance, HasGap, encoded}
use Rattle.field_slices.specs.Marks.{marked_below}
use Rattle.field_slices.proofs.Blocks.{few_cheats_in_blocks}
use Rattle.field_slices.proofs.Counts.{enumerated, unmarked-count}
use Rattle.field_slices.proofs.Triples.{triples_are_near}
use Rattle.protocols.specs.CodeDistances.{CodeWordsHaveDistance, FewQuarterRateCheats, QuarterRateGap, point_generator}
use Rattle.protocols.proofs.Words.{values-determine}

-- ---- the code of values as that of a generator matrix

-- what is encoded is the value of the polynomial with these coefficients
pub encoded-value : (width : ℕ) (times : ℕ → ℕ → ℕ) (vector : ℕ → ℕ) (k : ℕ) (coefficients : ℕ → ℕ) (p : ℕ)
    → encoded times (2 ^ k) (point_generator width times vector k) coefficients p
    ≡ polynomial_value times k coefficients (point width vector 0 p)
unfolding polynomial_value sum_of_factors
encoded-value width times vector k coefficients p = refl

not-true : (b : Bool) → not b ≡ true → b ≡ false
not-true true is = absurd (cc)
not-true false is = refl

pub code_words_have_distance : CodeWordsHaveDistance
code_words_have_distance width times vector wide field vectors fit k n d points far one other a b marked few agree p inside =
    a.is p inside ∙ encoded-value width times vector k a.message p
    ∙ values-determine width times vector wide field vectors fit k a.message b.message numbered.0
    (record { below = fits; differ = λ i j i_below j_below. numbered.2 i j (enough i i_below) (enough j j_below) }) same
    (point width vector 0 p)
    ∙ sym (b.is p inside ∙ encoded-value width times vector k b.message p)
  where
    -- the places that are not marked, numbered
    numbered : (x : ℕ → ℕ) × ((i : ℕ) → i < marked_below (λ p. not (marked p)) n → (x i < n) × (not (marked (x i)) ≡ true))
        × ((i j : ℕ) → i < marked_below (λ p. not (marked p)) n → j < marked_below (λ p. not (marked p)) n → x i ≡ x j → i ≡ j)
    numbered = enumerated (λ p. not (marked p)) n

    enough : (i : ℕ) → i < 2 ^ k → i < marked_below (λ p. not (marked p)) n
    enough i below = let count = unmarked-count marked n in omega (arith, below, count, few, far)

    inside_of : (i : ℕ) → i < 2 ^ k → numbered.0 i < n
    inside_of i below = (numbered.1 i (enough i below)).0

    fits : (i : ℕ) → i < 2 ^ k → numbered.0 i < 2 ^ width
    fits i below = le_trans (inside_of i below) points

    same : (i : ℕ) → i < 2 ^ k
        → polynomial_value times k a.message (point width vector 0 (numbered.0 i))
        ≡ polynomial_value times k b.message (point width vector 0 (numbered.0 i))
    same i below =
        sym (a.is (numbered.0 i) (inside_of i below) ∙ encoded-value width times vector k a.message (numbered.0 i))
        ∙ agree (numbered.0 i) (inside_of i below) (not-true (marked (numbered.0 i)) (numbered.1 i (enough i below)).1)
        ∙ b.is (numbered.0 i) (inside_of i below) ∙ encoded-value width times vector k b.message (numbered.0 i)

-- ---- the rate 1 / 4

-- 256 j places, c = 64 j - 1 of them, d = 192 j + 1, e = 93 j, g = 163 j
room : (j c : ℕ) → 1 ≤ j → c + 1 ≡ 64 * j
    → 34 * (4 * (64 * j) * (4 * (64 * j)) * c) + 4 * (64 * j) * (3 * (64 * j) + 1) * (93 * j + 2) < 34 * (163 * j * (163 * j) * (163 * j))
room j c some is =
    let cubes : j * j * (c + 1) ≡ j * j * (64 * j) = ap (λ (x : ℕ). j * j * x) is in
    let square = mul-le-mul_left j some in
    omega (arith, cubes, square, some)

pub quarter_rate_gap : QuarterRateGap
quarter_rate_gap width times vector wide field vectors fit k j is points =
    triples_are_near width times (2 ^ k) (4 * 2 ^ k) (3 * 2 ^ k + 1) (point_generator width times vector k) wide field distance (93 * j)
    (2 ^ k - 1) (163 * j) 34 (omega (arith, positive)) (omega (arith, is)) holds
  where
    positive : 1 ≤ 2 ^ k
    positive = pow_pos k

    distance : HasDistance times (2 ^ k) (4 * 2 ^ k) (point_generator width times vector k) (3 * 2 ^ k + 1)
    distance = code_words_have_distance width times vector wide field vectors fit k (4 * 2 ^ k) (3 * 2 ^ k + 1) points (omega arith)

    some : 1 ≤ j
    some = let one = positive in omega (arith, one, is)

    holds : 34 * (4 * 2 ^ k * (4 * 2 ^ k) * (2 ^ k - 1)) + 4 * 2 ^ k * (3 * 2 ^ k + 1) * (93 * j + 2) < 34 * (163 * j * (163 * j) * (163 * j))
    holds =
        subst (λ (m : ℕ). 34 * (4 * m * (4 * m) * (2 ^ k - 1)) + 4 * m * (3 * m + 1) * (93 * j + 2) < 34 * (163 * j * (163 * j) * (163 * j)))
        (sym is) (room j (2 ^ k - 1) some (let one = positive in omega (arith, one, is)))

-- a bound whose numbers are raised
raised : (a b c d f p q left : ℕ) → a ≤ c → p ≤ q → left ≤ a * b * d + f * (b * p) → left ≤ c * b * d + f * (b * q)
raised a b c d f p q left few less is =
    let one = mul-le-mul_right d (mul-le-mul_right b few) in
    let other = mul-le-mul_left f (mul-le-mul_left b less) in
    omega (arith, one, other, is)

pub few_quarter_rate_cheats : FewQuarterRateCheats
few_quarter_rate_cheats width times vector wide field vectors fit k j m block h word prover cheats is points whole fits sends false_is =
    raised (h * (34 * (4 * 2 ^ k) - 1)) ((2 ^ width) ^ h) (h * (34 * (256 * j))) ((256 * j) ^ 2 ^ m) (2 ^ width)
    ((2 ^ m * block - (93 * j + 1)) ^ 2 ^ m) ((163 * j) ^ 2 ^ m)
    (2 ^ width * ((2 ^ m) ^ 2 ^ m * cheats_in_blocks width times block h m word prover cheats))
    (mul-le-mul_left h (omega (arith, is)))
    (pow-le-pow_left (omega (arith, is, whole)) (2 ^ m))
    (subst (λ (n : ℕ). 2 ^ width * ((2 ^ m) ^ 2 ^ m * cheats_in_blocks width times block h m word prover cheats)
    ≤ h * (34 * (4 * 2 ^ k) - 1) * (2 ^ width) ^ h * n ^ 2 ^ m + 2 ^ width * ((2 ^ width) ^ h * (2 ^ m * block - (93 * j + 1)) ^ 2 ^ m))
    (whole ∙ ap (λ (n : ℕ). 4 * n) is ∙ omega arith)
    (few_cheats_in_blocks width times (2 ^ k) (3 * 2 ^ k + 1) m block (point_generator width times vector k) wide field distance (93 * j)
    (34 * (4 * 2 ^ k) - 1) h word prover cheats (omega (arith, is)) gap fits sends false_is))
  where
    distance : HasDistance times (2 ^ k) (2 ^ m * block) (point_generator width times vector k) (3 * 2 ^ k + 1)
    distance =
        code_words_have_distance width times vector wide field vectors fit k (2 ^ m * block) (3 * 2 ^ k + 1)
        (subst (λ (n : ℕ). n ≤ 2 ^ width) (sym whole) points) (omega (arith, whole))

    gap : HasGap width times (2 ^ k) (2 ^ m * block) (point_generator width times vector k) (93 * j) (34 * (4 * 2 ^ k) - 1)
    gap =
        subst (λ (n : ℕ). HasGap width times (2 ^ k) n (point_generator width times vector k) (93 * j) (34 * (4 * 2 ^ k) - 1)) (sym whole)
        (quarter_rate_gap width times vector wide field vectors fit k j is points)
