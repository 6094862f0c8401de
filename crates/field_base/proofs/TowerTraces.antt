-- At every level of the tower the adjoined root and its inverse have the trace 1, 2 ^ k squarings return each element,
-- and every nonzero element has an inverse.
use Rattle.std.proofs.Common.{◌≡◌, ℕ, zero, suc, ◌*◌, ◌%◌, ◌^◌, ◌<◌, refl, subst, arith, lit<}
use Rattle.std.proofs.lemmas.Nat.{pow_pos}
use native.Mathlib.Nat.{mod-lt}
use Rattle.field_base.specs.Field.{HasInverses}
use Rattle.field_base.specs.Quadratic.{pair, quadratic}
use Rattle.field_base.specs.Powers.{repeated_square, sum_of_squarings}
use Rattle.field_base.specs.Tower.{root, tower_mul}
use Rattle.field_base.specs.TowerField.{root_inverse, TracesAreOne, RootInverse, NoLevelHasARoot, NonzeroHasInverse, SquaringsReturn}
use Rattle.field_base.proofs.TowerRing.{tower_ring, bits_double}
use Rattle.field_base.specs.lemmas.BitRing.{two_cases}
use Rattle.field_base.proofs.Norms.{quadratic-inverses}
use Rattle.field_base.proofs.QuadraticTraces.{HasUnitTraces, quadratic-no_root, quadratic-unit_traces}

-- ---- level 0

-- at level 0 one squaring returns each element
bits_repeated_square : (a : ℕ) → repeated_square 1 (tower_mul 0) 1 a ≡ a % 2
unfolding repeated_square tower_mul
bits_repeated_square a = two_cases (λ x. (1 * x) % 2 * ((1 * x) % 2) ≡ x) refl refl (a % 2) (mod-lt a (lit< tt))

-- at level 0 the root 1 is its own inverse and has the trace 1
bits_traces : HasUnitTraces 1 (tower_mul 0) (root 0) (root_inverse 0)
unfolding repeated_square sum_of_squarings tower_mul root root_inverse
bits_traces = record {
  wide = lit< tt;
  t_fits = lit< tt;
  s_fits = lit< tt;
  unit = refl;
  returns = bits_repeated_square;
  t_trace = refl;
  s_trace = refl;
}

-- at level 0 each nonzero element has an inverse
bits_inverses : HasInverses 1 (tower_mul 0)
unfolding tower_mul
bits_inverses zero fits nonzero = absurd (nonzero refl)
bits_inverses (suc zero) fits nonzero = (1, lit< tt, refl)
bits_inverses (suc (suc a)) fits nonzero = absurd (omega arith)

-- ---- every level

-- at every level the root and its inverse have the trace 1, and 2^k squarings return each element
pub tower_traces : (k : ℕ) → HasUnitTraces (2 ^ k) (tower_mul k) (root k) (root_inverse k)
unfolding tower_mul root root_inverse
tower_traces zero = bits_traces
tower_traces (suc k) =
    subst (λ (x : ℕ). HasUnitTraces x (quadratic (2 ^ k) (tower_mul k) (root k)) (2 ^ 2 ^ k) (pair (2 ^ k) (root k) 1))
    (bits_double k)
    (quadratic-unit_traces (2 ^ k) (tower_mul k) (tower_ring k) (root k) (root_inverse k) (tower_traces k))

-- no level has a root of the polynomial whose root the next level adjoins
pub tower_no_root : NoLevelHasARoot
tower_no_root k x = quadratic-no_root (2 ^ k) (tower_mul k) (tower_ring k) (root k) (root_inverse k) (tower_traces k) x

-- at every level each nonzero element has an inverse
pub tower_inverses : NonzeroHasInverse
unfolding tower_mul
tower_inverses zero = bits_inverses
tower_inverses (suc k) =
    subst (λ (x : ℕ). HasInverses x (quadratic (2 ^ k) (tower_mul k) (root k))) (bits_double k)
    (quadratic-inverses (2 ^ k) (tower_mul k) (tower_ring k) (root k) (pow_pos k) (tower_inverses k) (tower_no_root k))

-- at every level the root and its inverse have the trace 1
pub traces_are_one : TracesAreOne
traces_are_one k = ((tower_traces k).t_trace, (tower_traces k).s_trace)

-- at every level the root times its inverse is 1
pub root_inverse_is : RootInverse
root_inverse_is k = (tower_traces k).unit

-- at level k, 2^k squarings return each element
pub squarings_return : SquaringsReturn
squarings_return k a = (tower_traces k).returns a

-- the root of a level is an element
pub root-lt : (k : ℕ) → root k < 2 ^ 2 ^ k
root-lt k = (tower_traces k).t_fits
