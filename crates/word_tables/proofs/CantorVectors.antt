-- The Cantor vectors by computation: at level 7 each is the even solution, and the first 2 ^ k lie in level k. Lower levels
-- are subrings, so the equations hold there too.
use Rattle.std.proofs.Common.{◌≡◌, ℕ, zero, suc, ◌+◌, ◌-◌, ◌%◌, ◌^◌, ◌<◌, ◌≤◌, Bool, true, ◌&&◌, eqb, ltb, length, take, drop, get_or, get_or-take, refl, inl, inr, sym, ◌∙◌, ap, ap₂, subst, arith}
use Rattle.std.specs.Prelude.{bit_xor}
use Rattle.std.proofs.lemmas.Bool.{and_parts, eqb-true, ltb-true}
use Rattle.std.proofs.Math.Pow.{pow_mono}
use Rattle.field_base.specs.Tower.{tower_mul}
use Rattle.std.proofs.lemmas.Nat.{pow_below, pow_pos, xor_lt, xor_mod}
use lib.Bits.{xor_self}
use Rattle.field_base.proofs.PowerLemmas.{square_xor, times-one}
use Rattle.field_base.proofs.RingLemmas.{xor_nothing}
use Rattle.field_base.proofs.TowerInverse.{tower_mul-zero_divisors}
use Rattle.field_base.proofs.TowerProducts.{tower_mul-low}
use Rattle.field_base.proofs.TowerRing.{tower_ring}
use Rattle.word_tables.specs.Cantor.{cantor_vector, AreEven, LieInLevels, OneOfEachParity, SolveTheOneBefore}
use Rattle.word_tables.specs.declared.cantor.literals.TheConstants.{VECTORS}
use Rattle.field_base.proofs.TableChecks.{passes, passes_at}
use Rattle.word_tables.proofs.Squares.{root_product, square_of, square_of_is, squares_joined}
use Rattle.field_base.proofs.RemainderLaws.{difference}

-- ---- the equations at level 7

-- whether v is the even solution at the place i
is_solution : ℕ → ℕ → Bool
is_solution i v = eqb (bit_xor (square_of 7 v) v) (get_or VECTORS (i - 1) 0) && eqb (v % 2) 0

-- every vector past the first is the even solution at its place (computed)
solutions_pass : passes is_solution 1 (drop 1 VECTORS) ≡ true
unfolding passes is_solution square_of squares_joined root_product
solutions_pass = refl

-- the check of vector i
solution_at : (i : ℕ) → 0 < i → i < 128 → is_solution i (cantor_vector i) ≡ true
solution_at zero later inside = absurd (omega arith)
solution_at (suc i) later inside =
    let place : 1 + i ≡ suc i = omega arith in
    subst (λ (x : ℕ). is_solution x (get_or VECTORS (suc i) 0) ≡ true) place
    (passes_at is_solution 1 (drop 1 VECTORS) i solutions_pass (omega arith))

-- v² + v is the vector before, with squares at level 7
pub solves_at_7 : (i : ℕ) → 0 < i → i < 128
    → bit_xor (tower_mul 7 (cantor_vector i) (cantor_vector i)) (cantor_vector i) ≡ cantor_vector (i - 1)
unfolding is_solution
solves_at_7 i later inside =
    ap (λ (x : ℕ). bit_xor x (cantor_vector i)) (sym (square_of_is 7 (cantor_vector i)))
    ∙ eqb-true (bit_xor (square_of 7 (cantor_vector i)) (cantor_vector i)) (cantor_vector (i - 1))
    (and_parts (eqb (bit_xor (square_of 7 (cantor_vector i)) (cantor_vector i)) (cantor_vector (i - 1))) _ (solution_at i later inside)).0

-- every vector past the first is even
pub are_even : AreEven
unfolding is_solution
are_even i later inside =
    eqb-true (cantor_vector i % 2) 0
    (and_parts (eqb (bit_xor (square_of 7 (cantor_vector i)) (cantor_vector i)) (cantor_vector (i - 1))) _ (solution_at i later inside)).1

-- ---- levels

-- whether the first 2 ^ k vectors are elements of level k
level_passes : ℕ → Bool
level_passes k = passes (λ i v. ltb v (2 ^ 2 ^ k)) 0 (take (2 ^ k) VECTORS)

-- what the check of level k says of a single vector
lies_in_level : (k i : ℕ) → level_passes k ≡ true → length (take (2 ^ k) VECTORS) ≡ 2 ^ k → i < 2 ^ k
    → cantor_vector i < 2 ^ 2 ^ k
unfolding level_passes
lies_in_level k i pass whole inside =
    ltb-true (cantor_vector i) (2 ^ 2 ^ k)
    (subst (λ (v : ℕ). ltb v (2 ^ 2 ^ k) ≡ true) (get_or-take (2 ^ k) VECTORS i 0 inside)
    (passes_at (λ i v. ltb v (2 ^ 2 ^ k)) 0 (take (2 ^ k) VECTORS) i pass (omega (arith, whole))))

-- the checks of all eight levels pass (computed)
level_whole : (k : ℕ) → k < 8 → (level_passes k ≡ true) × (length (take (2 ^ k) VECTORS) ≡ 2 ^ k)
unfolding level_passes passes
level_whole zero low = (refl, refl)
level_whole (suc zero) low = (refl, refl)
level_whole (suc (suc zero)) low = (refl, refl)
level_whole (suc (suc (suc zero))) low = (refl, refl)
level_whole (suc (suc (suc (suc zero)))) low = (refl, refl)
level_whole (suc (suc (suc (suc (suc zero))))) low = (refl, refl)
level_whole (suc (suc (suc (suc (suc (suc zero)))))) low = (refl, refl)
level_whole (suc (suc (suc (suc (suc (suc (suc zero))))))) low = (refl, refl)
level_whole (suc (suc (suc (suc (suc (suc (suc (suc k)))))))) low = absurd (omega arith)

-- the first 2^k vectors are elements of level k
pub lie_in_levels : LieInLevels
lie_in_levels k i low inside =
    let level = level_whole k (omega arith) in
    lies_in_level k i level.0 level.1 inside

-- v² + v is the vector before, at each level that holds v
pub solve_the_one_before : SolveTheOneBefore
solve_the_one_before k i low later inside =
    let fits = lie_in_levels k i low inside in
    let up : 7 - k + k ≡ 7 = omega arith in
    let most : 2 ^ k ≤ 2 ^ 7 = pow_mono low in
    ap (λ (x : ℕ). bit_xor x (cantor_vector i))
    (sym (tower_mul-low (7 - k) k (cantor_vector i) (cantor_vector i) fits fits)
    ∙ ap (λ (x : ℕ). tower_mul x (cantor_vector i) (cantor_vector i)) up)
    ∙ solves_at_7 i later (omega (arith, most))

-- ---- one even solution

-- the sum d of two solutions is its own square, so d (d + 1) is 0 and d is 0 or 1
pub one_of_each_parity : OneOfEachParity
one_of_each_parity k v w v_fits w_fits parity same =
    elim (tower_mul-zero_divisors k (bit_xor v w) (bit_xor (bit_xor v w) 1) fits
    (xor_lt (2 ^ k) (bit_xor v w) 1 fits (pow_below 0 (2 ^ k) (pow_pos k))) nothing) [
      | inl e ↦ xor_nothing v w e
      | inr e ↦ absurd (omega (arith, even, xor_nothing (bit_xor v w) 1 e))
    ]
  where
    fits : bit_xor v w < 2 ^ 2 ^ k
    fits = xor_lt (2 ^ k) v w v_fits w_fits

    square : tower_mul k (bit_xor v w) (bit_xor v w) ≡ bit_xor v w
    square =
        square_xor (2 ^ k) 1 (tower_mul k) (tower_ring k) v w
        ∙ difference (tower_mul k v v) v (tower_mul k w w) w same

    nothing : tower_mul k (bit_xor v w) (bit_xor (bit_xor v w) 1) ≡ 0
    nothing =
        (tower_ring k).over_sum (bit_xor v w) (bit_xor v w) 1
        ∙ ap₂ bit_xor square (times-one (2 ^ k) 1 (tower_mul k) (tower_ring k) (bit_xor v w) fits) ∙ xor_self (bit_xor v w)

    even : bit_xor v w % 2 ≡ 0
    even = xor_mod v w 1 ∙ ap (bit_xor (v % 2)) (sym parity) ∙ xor_self (v % 2)
