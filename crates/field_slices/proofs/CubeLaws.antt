-- Values of multilinear polynomials, one coordinate at a time.
use Rattle.std.proofs.Common.{◌≡◌, ℕ, zero, suc, ◌+◌, ◌-◌, ◌/◌, ◌^◌, ◌<◌, ◌≤◌, inl, inr, List, [], ◌∷◌, length, take, drop, refl, sym, ◌∙◌, ap, ap₂, subst, arith}
use Rattle.std.specs.Prelude.{bit_xor, slice_index}
use Rattle.std.specs.Int.{bit_at}
use Rattle.std.proofs.Math.Nat.{two-pow-succ}
use Rattle.std.proofs.lemmas.Bool.{cases_lt}
use Rattle.std.proofs.lemmas.List.{get_or-take, get_or-drop, get_or_past, length-take-le, length-drop}
use Rattle.std.proofs.lemmas.Nat.{xor_comm, xor_lt, pow_pos}
use lib.Bits.{xor_zero_r}
use Rattle.std.proofs.lemmas.Simd.{get_or-zip2, length-zip2}
use Rattle.field_base.specs.Basis.{sum_below}
use Rattle.field_base.specs.Ring.{IsRing}
use Rattle.field_base.proofs.BasisSums.{sum_below-same}
use Rattle.field_base.proofs.PowerLemmas.{one-times, times-one}
use Rattle.field_base.proofs.RingLemmas.{xor_cancel, zero-times}
use Rattle.field_slices.specs.Multilinear.{AreCornerValues, corner, eq_corner, folded, folded_all, multilinear_value, on_line}
use Rattle.field_slices.proofs.CornerSums.{corners-line, first_bit-lower, first_bit-upper, upper-bits, weighted-line, weighted-lt}

-- the lower and the upper half of a list of 2 ^ (m + 1) numbers
module _ (m : ℕ) (values : List ℕ) (count : length values ≡ 2 ^ suc m) where
  pub half : length values / 2 ≡ 2 ^ m
  half = let twice = two-pow-succ m in omega (arith, twice, count)

  pub lower-at : (i : ℕ) → i < 2 ^ m → slice_index (take (length values / 2) values) i ≡ slice_index values i
  lower-at i below = get_or-take (length values / 2) values i 0 (subst (λ (n : ℕ). i < n) (sym half) below)

  pub upper-at : (i : ℕ) → slice_index (drop (length values / 2) values) i ≡ slice_index values (2 ^ m + i)
  upper-at i = get_or-drop (length values / 2) values i 0 ∙ ap (λ (n : ℕ). slice_index values (n + i)) half

  pub lower-length : length (take (length values / 2) values) ≡ 2 ^ m
  lower-length = length-take-le (length values / 2) values (omega arith) ∙ half

  pub upper-length : length (drop (length values / 2) values) ≡ 2 ^ m
  upper-length = length-drop (length values / 2) values ∙ (let twice = two-pow-succ m in omega (arith, twice, count))

  module _ (times : ℕ → ℕ → ℕ) (r : ℕ) where
    pub folded-length : length (folded times r values) ≡ 2 ^ m
    folded-length =
        length-zip2 (on_line times r) (take (length values / 2) values) (drop (length values / 2) values) (lower-length ∙ sym upper-length)
        ∙ lower-length

    pub folded-at : (i : ℕ) → i < 2 ^ m
        → slice_index (folded times r values) i ≡ on_line times r (slice_index values i) (slice_index values (2 ^ m + i))
    folded-at i below =
        get_or-zip2 (on_line times r) (take (length values / 2) values) (drop (length values / 2) values) i 0 0 0
        (subst (λ (n : ℕ). i < n) (sym lower-length) below) (subst (λ (n : ℕ). i < n) (sym upper-length) below)
        ∙ ap₂ (on_line times r) (lower-at i below) (upper-at i)

module _ (width : ℕ) (times : ℕ → ℕ → ℕ) (ring : IsRing width 1 times) where
  -- the value at a point, by those of both halves at the other coordinates
  pub value-halves : (r : ℕ) (rs values : List ℕ) → length values ≡ 2 ^ suc (length rs)
      → multilinear_value times values (r ∷ rs)
      ≡ on_line times r (multilinear_value times (take (length values / 2) values) rs)
      (multilinear_value times (drop (length values / 2) values) rs)
  value-halves r rs values count =
      corners-line width times ring (slice_index values) r rs
      ∙ ap₂ (on_line times r)
      (sum_below-same (λ i. times (slice_index values i) (eq_corner times rs i))
      (λ i. times (slice_index (take (length values / 2) values) i) (eq_corner times rs i)) (2 ^ length rs)
      (λ i below. ap (λ (v : ℕ). times v (eq_corner times rs i)) (sym (lower-at (length rs) values count i below))))
      (sum_below-same (λ i. times (slice_index values (2 ^ length rs + i)) (eq_corner times rs i))
      (λ i. times (slice_index (drop (length values / 2) values) i) (eq_corner times rs i)) (2 ^ length rs)
      (λ i below. ap (λ (v : ℕ). times v (eq_corner times rs i)) (sym (upper-at (length rs) values count i))))

  -- and it is that of the folded values
  pub value-folded : (r : ℕ) (rs values : List ℕ) → length values ≡ 2 ^ suc (length rs)
      → multilinear_value times values (r ∷ rs) ≡ multilinear_value times (folded times r values) rs
  value-folded r rs values count =
      corners-line width times ring (slice_index values) r rs
      ∙ sym (weighted-line width times ring r (slice_index values) (λ i. slice_index values (2 ^ length rs + i)) (eq_corner times rs) (2 ^ length rs))
      ∙ sum_below-same
      (λ i. times (on_line times r (slice_index values i) (slice_index values (2 ^ length rs + i))) (eq_corner times rs i))
      (λ i. times (slice_index (folded times r values) i) (eq_corner times rs i)) (2 ^ length rs)
      (λ i below. ap (λ (v : ℕ). times v (eq_corner times rs i)) (sym (folded-at (length rs) values count times r i below)))

  -- the value at no coordinates
  pub value-alone : (values : List ℕ) → slice_index values 0 < 2 ^ width → multilinear_value times values [] ≡ slice_index values 0
  unfolding sum_below eq_corner
  value-alone values fits =
      xor_comm 0 (times (slice_index values 0) 1) ∙ xor_zero_r (times (slice_index values 0) 1)
      ∙ times-one width 1 times ring (slice_index values 0) fits

  -- folded values fit
  pub folded-fits : (m r : ℕ) (values : List ℕ) → length values ≡ 2 ^ suc m → ((i : ℕ) → slice_index values i < 2 ^ width)
      → (i : ℕ) → slice_index (folded times r values) i < 2 ^ width
  folded-fits m r values count fits i =
      elim (cases_lt i (2 ^ m)) [
        | inl below ↦ subst (λ (v : ℕ). v < 2 ^ width) (sym (folded-at m values count times r i below))
            (xor_lt width (slice_index values i) (times r (bit_xor (slice_index values i) (slice_index values (2 ^ m + i)))) (fits i)
            (ring.below r (bit_xor (slice_index values i) (slice_index values (2 ^ m + i)))))
        | inr past ↦ subst (λ (v : ℕ). v < 2 ^ width)
            (sym (get_or_past (folded times r values) i 0 (subst (λ (n : ℕ). n ≤ i) (sym (folded-length m values count times r)) past)))
            (pow_pos width)
      ]

  pub folded-corners : (m r : ℕ) (values : List ℕ) → AreCornerValues width (suc m) values → AreCornerValues width m (folded times r values)
  folded-corners m r values are =
      record { count = folded-length m values are.count times r; each_fits = folded-fits m r values are.count are.each_fits }

  pub one-value : (values : List ℕ) → length values ≡ 1 → values ≡ slice_index values 0 ∷ []
  one-value [] count = absurd (omega (arith, count))
  one-value (v ∷ []) count = refl
  one-value (v ∷ w ∷ values) count = absurd (omega (arith, count))

  -- folding by every coordinate leaves the value
  pub folding-evaluates : (point values : List ℕ) → AreCornerValues width (length point) values
      → folded_all times point values ≡ multilinear_value times values point ∷ []
  unfolding folded_all
  folding-evaluates [] values are =
      one-value values are.count ∙ ap (λ (v : ℕ). v ∷ []) (sym (value-alone values (are.each_fits 0)))
  folding-evaluates (r ∷ rs) values are =
      folding-evaluates rs (folded times r values) (folded-corners (length rs) r values are)
      ∙ ap (λ (v : ℕ). v ∷ []) (sym (value-folded r rs values are.count))

  module _ (wide : 0 < width) where
    pub line-zero : (v w : ℕ) → on_line times 0 v w ≡ v
    line-zero v w = ap (bit_xor v) (zero-times width 1 times ring (bit_xor v w)) ∙ xor_zero_r v

    pub line-one : (v w : ℕ) → v < 2 ^ width → w < 2 ^ width → on_line times 1 v w ≡ w
    line-one v w v_fits w_fits =
        ap (bit_xor v) (one-times width 1 times ring (bit_xor v w) (xor_lt width v w v_fits w_fits)) ∙ xor_cancel v w

    value-lt : (values point : List ℕ) → multilinear_value times values point < 2 ^ width
    value-lt values point = weighted-lt width times ring (slice_index values) (eq_corner times point) (2 ^ length point)

    pub first-is-linear : (r : ℕ) (rs values : List ℕ) → AreCornerValues width (suc (length rs)) values
        → multilinear_value times values (r ∷ rs)
        ≡ on_line times r (multilinear_value times values (0 ∷ rs)) (multilinear_value times values (1 ∷ rs))
    first-is-linear r rs values are =
        let lower = multilinear_value times (take (length values / 2) values) rs in
        let upper = multilinear_value times (drop (length values / 2) values) rs in
        value-halves r rs values are.count
        ∙ sym (ap₂ (on_line times r) (value-halves 0 rs values are.count ∙ line-zero lower upper)
        (value-halves 1 rs values are.count
        ∙ line-one lower upper (value-lt (take (length values / 2) values) rs) (value-lt (drop (length values / 2) values) rs)))

    -- ---- at corners

    -- the values of the halves, each at the corners of the cube of one coordinate fewer
    lower-corners : (m : ℕ) (values : List ℕ) → AreCornerValues width (suc m) values
        → AreCornerValues width m (take (length values / 2) values)
    lower-corners m values are = record { count = lower-length m values are.count; each_fits = fits }
      where
        fits : (i : ℕ) → slice_index (take (length values / 2) values) i < 2 ^ width
        fits i =
            elim (cases_lt i (2 ^ m)) [
              | inl below ↦ subst (λ (v : ℕ). v < 2 ^ width) (sym (lower-at m values are.count i below)) (are.each_fits i)
              | inr past ↦ subst (λ (v : ℕ). v < 2 ^ width)
                  (sym (get_or_past (take (length values / 2) values) i 0 (subst (λ (n : ℕ). n ≤ i) (sym (lower-length m values are.count)) past)))
                  (pow_pos width)
            ]

    upper-corners : (m : ℕ) (values : List ℕ) → AreCornerValues width (suc m) values
        → AreCornerValues width m (drop (length values / 2) values)
    upper-corners m values are =
        record {
          count = upper-length m values are.count;
          each_fits = λ i. subst (λ (v : ℕ). v < 2 ^ width) (sym (upper-at m values are.count i)) (are.each_fits (2 ^ m + i));
        }

    pub corner-length : (n i : ℕ) → length (corner n i) ≡ n
    unfolding corner
    corner-length zero i = refl
    corner-length (suc n) i = ap suc (corner-length n i)

    -- beyond the first coordinate the corners of both halves are the same
    corner-upper : (n m i : ℕ) → n ≤ m → corner n (2 ^ m + i) ≡ corner n i
    unfolding corner
    corner-upper zero m i fits = refl
    corner-upper (suc n) m i fits =
        ap₂ (λ (b : ℕ) (bs : List ℕ). b ∷ bs) (upper-bits m i n (omega arith)) (corner-upper n m i (omega arith))

    at-lower : (n : ℕ) (values : List ℕ) → AreCornerValues width (suc n) values → (i : ℕ) → i < 2 ^ n
        → multilinear_value times values (corner (suc n) i) ≡ multilinear_value times (take (length values / 2) values) (corner n i)
    unfolding corner
    at-lower n values are i below =
        value-halves (bit_at i n) (corner n i) values (are.count ∙ ap (λ (k : ℕ). 2 ^ suc k) (sym (corner-length n i)))
        ∙ ap (λ (b : ℕ). on_line times b (multilinear_value times (take (length values / 2) values) (corner n i))
        (multilinear_value times (drop (length values / 2) values) (corner n i))) (first_bit-lower n i below)
        ∙ line-zero (multilinear_value times (take (length values / 2) values) (corner n i))
        (multilinear_value times (drop (length values / 2) values) (corner n i))

    at-upper : (n : ℕ) (values : List ℕ) → AreCornerValues width (suc n) values → (i : ℕ) → i < 2 ^ n
        → multilinear_value times values (corner (suc n) (2 ^ n + i)) ≡ multilinear_value times (drop (length values / 2) values) (corner n i)
    unfolding corner
    at-upper n values are i below =
        let lower = multilinear_value times (take (length values / 2) values) (corner n (2 ^ n + i)) in
        let upper = multilinear_value times (drop (length values / 2) values) (corner n (2 ^ n + i)) in
        value-halves (bit_at (2 ^ n + i) n) (corner n (2 ^ n + i)) values
        (are.count ∙ ap (λ (k : ℕ). 2 ^ suc k) (sym (corner-length n (2 ^ n + i))))
        ∙ ap (λ (b : ℕ). on_line times b lower upper) (first_bit-upper n i below)
        ∙ line-one lower upper (value-lt (take (length values / 2) values) (corner n (2 ^ n + i)))
        (value-lt (drop (length values / 2) values) (corner n (2 ^ n + i)))
        ∙ ap (multilinear_value times (drop (length values / 2) values)) (corner-upper n n i (omega arith))

    pub extends-corners : (n : ℕ) (values : List ℕ) → AreCornerValues width n values → (i : ℕ) → i < 2 ^ n
        → multilinear_value times values (corner n i) ≡ slice_index values i
    unfolding corner
    extends-corners zero values are i below =
        value-alone values (are.each_fits 0) ∙ ap (slice_index values) (omega (arith, below))
    extends-corners (suc n) values are i below =
        elim (cases_lt i (2 ^ n)) [
          | inl lower ↦ at-lower n values are i lower
              ∙ extends-corners n (take (length values / 2) values) (lower-corners n values are) i lower ∙ lower-at n values are.count i lower
          | inr past ↦
              let whole : i ≡ 2 ^ n + (i - 2 ^ n) = omega (arith, past) in
              let inside : i - 2 ^ n < 2 ^ n = let twice = two-pow-succ n in omega (arith, below, past, twice) in
              ap (λ (k : ℕ). multilinear_value times values (corner (suc n) k)) whole
              ∙ at-upper n values are (i - 2 ^ n) inside
              ∙ extends-corners n (drop (length values / 2) values) (upper-corners n values are) (i - 2 ^ n) inside
              ∙ upper-at n values are.count (i - 2 ^ n) ∙ ap (slice_index values) (sym whole)
        ]
