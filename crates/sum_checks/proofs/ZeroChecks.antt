-- Where a multilinear polynomial that is not 0 has the value 0, and the sum of a zero-check.
use Rattle.std.proofs.Common.{◌≡◌, ◌≢◌, ℕ, suc, ◌+◌, ◌-◌, ◌*◌, ◌^◌, ◌<◌, inl, inr, List, [], ◌∷◌, length, take, sym, ◌∙◌, ap, ap₂, subst, arith}
use Rattle.std.specs.Prelude.{bit_xor, slice_index}
use Rattle.std.proofs.Math.Nat.{two-pow-succ}
use Rattle.std.proofs.lemmas.Bool.{cases_lt}
use Rattle.std.proofs.lemmas.Bool.Decides.{eqb_tells}
use Rattle.std.proofs.lemmas.List.FromFn.{get_or-map-range_with_len}
use Rattle.std.proofs.lemmas.Nat.{xor_lt}
use lib.Bits.{xor_self, xor_zero_r}
use Rattle.field_base.specs.Basis.{product_below}
use Rattle.field_base.specs.Field.{IsField}
use Rattle.field_base.specs.Ring.{IsRing}
use Rattle.field_base.proofs.BasisSums.{sum_below-same}
use Rattle.field_base.proofs.FieldLemmas.{no_zero_divisors}
use Rattle.field_base.proofs.PowerLemmas.{one-times}
use Rattle.field_base.proofs.RingLemmas.{sum_times, times-zero, xor_nothing}
use Rattle.field_slices.specs.Multilinear.{AreCornerValues, eq_corner, folded, folded_all, multilinear_value, on_line}
use Rattle.field_slices.proofs.CubeLaws.{folded-at, folded-corners, value-alone, value-folded}
use Rattle.sum_checks.specs.Terms.{terms_value}
use Rattle.sum_checks.specs.ZeroCheck.{IsNonzeroLine, IsRootAt, LinesHaveOneRoot, ZeroCheckEvaluates, ZeroNeedsRoot, zero_check_terms, zero_check_values}

module _ (width : ℕ) (times : ℕ → ℕ → ℕ) (field : IsField width times) (wide : 0 < width) where
  -- a root after the first coordinate
  later-root : (values : List ℕ) (r : ℕ) (rs : List ℕ) (k : ℕ) → IsRootAt times (folded times r values) rs k
      → IsRootAt times values (r ∷ rs) (suc k)
  unfolding folded_all
  later-root values r rs k at =
      let fewer : length rs - suc k ≡ suc (length rs) - suc (suc k) = omega arith in
      let left = folded_all times (take k rs) (folded times r values) in
      record {
        inside = omega (arith, at.inside);
        corner = at.corner;
        line = subst (λ (n : ℕ). IsNonzeroLine (slice_index left at.corner) (slice_index left (2 ^ n + at.corner))) fewer at.line;
        root = subst (λ (n : ℕ). on_line times (slice_index rs k) (slice_index left at.corner) (slice_index left (2 ^ n + at.corner)) ≡ 0) fewer at.root;
      }

  first-root : (values : List ℕ) (r : ℕ) (rs : List ℕ) (corner : ℕ)
      → IsNonzeroLine (slice_index values corner) (slice_index values (2 ^ length rs + corner))
      → on_line times r (slice_index values corner) (slice_index values (2 ^ length rs + corner)) ≡ 0 → IsRootAt times values (r ∷ rs) 0
  unfolding folded_all
  first-root values r rs corner line root =
      let fewer : length rs ≡ suc (length rs) - 1 = omega arith in
      record {
        inside = omega arith;
        corner = corner;
        line = subst (λ (n : ℕ). IsNonzeroLine (slice_index values corner) (slice_index values (2 ^ n + corner))) fewer line;
        root = subst (λ (n : ℕ). on_line times r (slice_index values corner) (slice_index values (2 ^ n + corner)) ≡ 0) fewer root;
      }

  -- either the first coordinate is a root, or the folded values are not all 0
  root-step : (values : List ℕ) (r : ℕ) (rs : List ℕ) (j : ℕ) → AreCornerValues width (suc (length rs)) values → j < 2 ^ length rs
      → IsNonzeroLine (slice_index values j) (slice_index values (2 ^ length rs + j))
      → (slice_index (folded times r values) j ≢ 0 → (k : ℕ) × IsRootAt times (folded times r values) rs k)
      → (k : ℕ) × IsRootAt times values (r ∷ rs) k
  root-step values r rs j are below line later =
      elim (eqb_tells (on_line times r (slice_index values j) (slice_index values (2 ^ length rs + j))) 0) [
        | inl root ↦ (0, first-root values r rs j line root.1)
        | inr other ↦
            let found = later (λ nothing. other.1 (sym (folded-at (length rs) values are.count times r j below) ∙ nothing)) in
            (suc found.0, later-root values r rs found.0 found.1)
      ]

  zero-root : (values point : List ℕ) (i : ℕ) → AreCornerValues width (length point) values → i < 2 ^ length point → slice_index values i ≢ 0
      → multilinear_value times values point ≡ 0 → (k : ℕ) × IsRootAt times values point k
  zero-root values [] i are inside some none =
      let first : i ≡ 0 = omega (arith, inside) in
      absurd (some (ap (slice_index values) first ∙ sym (value-alone width times field.ring values (are.each_fits 0)) ∙ none))
  zero-root values (r ∷ rs) i are inside some none =
      elim (cases_lt i (2 ^ length rs)) [
        | inl below ↦ root-step values r rs i are below (inl some)
            (λ left.
            zero-root (folded times r values) rs i (folded-corners width times field.ring (length rs) r values are) below left
            (sym (value-folded width times field.ring r rs values are.count) ∙ none))
        | inr past ↦
            let whole : i ≡ 2 ^ length rs + (i - 2 ^ length rs) = omega (arith, past) in
            let twice = two-pow-succ (length rs) in
            let below : i - 2 ^ length rs < 2 ^ length rs = omega (arith, inside, past, twice) in
            root-step values r rs (i - 2 ^ length rs) are below (inr (λ nothing. some (ap (slice_index values) whole ∙ nothing)))
            (λ left.
            zero-root (folded times r values) rs (i - 2 ^ length rs) (folded-corners width times field.ring (length rs) r values are) below left
            (sym (value-folded width times field.ring r rs values are.count) ∙ none))
      ]

  one-root : (v w x y : ℕ) → v < 2 ^ width → w < 2 ^ width → x < 2 ^ width → y < 2 ^ width → IsNonzeroLine v w
      → on_line times x v w ≡ 0 → on_line times y v w ≡ 0 → x ≡ y
  one-root v w x y v_fits w_fits x_fits y_fits line x_root y_root =
      elim (no_zero_divisors width times field.ring field.inverses (bit_xor x y) (bit_xor v w) (xor_lt width x y x_fits y_fits)
      (xor_lt width v w v_fits w_fits) nothing) [
        | inl same ↦ xor_nothing x y same
        | inr flat ↦ absurd (none flat)
      ]
    where
      nothing : times (bit_xor x y) (bit_xor v w) ≡ 0
      nothing =
          sum_times width 1 times field.ring x y (bit_xor v w)
          ∙ ap (λ (s : ℕ). bit_xor s (times y (bit_xor v w))) (sym (xor_nothing v (times x (bit_xor v w)) x_root) ∙ xor_nothing v (times y (bit_xor v w)) y_root)
          ∙ xor_self (times y (bit_xor v w))

      none : bit_xor v w ≡ 0 → ⊥
      none flat =
          let v_none : v ≡ 0 =
          sym (xor_zero_r v) ∙ ap (bit_xor v) (sym (ap (times x) flat ∙ times-zero width 1 times field.ring x)) ∙ x_root in
          let w_none : w ≡ 0 = sym (xor_nothing v w flat) ∙ v_none in
          elim line [ inl some ↦ some v_none | inr some ↦ some w_none ]

pub zero_needs_root : ZeroNeedsRoot
zero_needs_root width times values point i field wide are inside some none = zero-root width times field wide values point i are inside some none

pub lines_have_one_root : LinesHaveOneRoot
lines_have_one_root width times v w x y field wide v_fits w_fits x_fits y_fits line x_root y_root =
    one-root width times field wide v w x y v_fits w_fits x_fits y_fits line x_root y_root

-- ---- the sum of a zero-check

module _ (width : ℕ) (times : ℕ → ℕ → ℕ) (ring : IsRing width 1 times) where
  -- 1 ((1 e) a b) + (1 ((1 e) c) + 0) = (a b + c) e
  pub terms-at : (row : ℕ → ℕ) → row 0 < 2 ^ width
      → terms_value times zero_check_terms row ≡ times (bit_xor (times (row 1) (row 2)) (row 3)) (row 0)
  unfolding terms_value product_below
  terms-at row fits =
      ap₂ bit_xor
      (one-times width 1 times ring (times (times (times 1 (row 0)) (row 1)) (row 2)) (ring.below (times (times 1 (row 0)) (row 1)) (row 2))
      ∙ ap (λ (e : ℕ). times (times e (row 1)) (row 2)) (one-times width 1 times ring (row 0) fits)
      ∙ ring.assoc (row 0) (row 1) (row 2) ∙ ring.comm (row 0) (times (row 1) (row 2)))
      (xor_zero_r (times 1 (times (times 1 (row 0)) (row 3)))
      ∙ one-times width 1 times ring (times (times 1 (row 0)) (row 3)) (ring.below (times 1 (row 0)) (row 3))
      ∙ ap (λ (e : ℕ). times e (row 3)) (one-times width 1 times ring (row 0) fits) ∙ ring.comm (row 0) (row 3))
      ∙ sym (sum_times width 1 times ring (times (row 1) (row 2)) (row 3) (row 0))

pub zero_check_evaluates : ZeroCheckEvaluates
zero_check_evaluates width times rows point field fits is_eq =
    sum_below-same (λ i. terms_value times zero_check_terms (λ j. slice_index rows (i * 4 + j)))
    (λ i. times (slice_index (zero_check_values times (length point) rows) i) (eq_corner times point i)) (2 ^ length point)
    (λ i below.
    terms-at width times field.ring (λ j. slice_index rows (i * 4 + j)) (fits (i * 4 + 0))
    ∙ ap₂ times
    (sym (get_or-map-range_with_len
    (λ i. bit_xor (times (slice_index rows (i * 4 + 1)) (slice_index rows (i * 4 + 2))) (slice_index rows (i * 4 + 3))) 0 (2 ^ length point) i i 0 below
    (omega arith)))
    (is_eq i below))
