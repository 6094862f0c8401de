-- Values and tables of eq over lists of elements, one coordinate at a time.
use Rattle.std.proofs.Common.{◌≡◌, ℕ, zero, suc, ◌+◌, ◌-◌, ◌/◌, ◌^◌, ◌<◌, Bool, true, false, inl, inr, List, [], ◌∷◌, ◌++◌, length, map, take, drop, set, get_or, refl, sym, ◌∙◌, ap, ap₂, subst, arith}
use Rattle.std.specs.Prelude.{bit_xor, nat_eq, slice_index}
use Rattle.std.specs.List.{range_with_len}
use Rattle.std.specs.Simd.Lanes.{zip2}
use Rattle.std.proofs.Math.Nat.{two-pow-succ}
use Rattle.std.proofs.lemmas.Bool.{cases_lt, true≢false}
use Rattle.std.proofs.lemmas.Bool.Decides.{eqb_tells}
use Rattle.std.proofs.lemmas.List.{ext_get_or, get_or_append_left, get_or-append_right, get_or-map, length-append, length-map, map-append, take-map, take_rest}
use Rattle.std.proofs.lemmas.List.FromFn.{get_or-map-range_with_len, length-map-range_with_len}
use Rattle.std.proofs.lemmas.Nat.{pow_below}
use Rattle.std.proofs.lemmas.Simd.{get_or-zip2, length-zip2}
use Rattle.field_base.specs.Ring.{IsRing}
use Rattle.field_base.proofs.PowerLemmas.{one-times}
use Rattle.field_base.proofs.RingLemmas.{sum_times}
use Rattle.field_base.proofs.Places.{number-at, numbers-lt}
use Rattle.field_slices.specs.Multilinear.{eq_corner, multilinear_value, on_line}
use Rattle.field_slices.proofs.CornerSums.{eq_corner-lower, eq_corner-upper}
use Rattle.field_slices.proofs.CubeLaws.{value-alone, value-halves}

-- what a test for no elements tells
pub none-if_empty : (n : ℕ) (empty : Bool) → empty ≡ nat_eq n 0 → empty ≡ true → n ≡ 0
none-if_empty n empty is holds =
    elim (eqb_tells n 0) [ inl same ↦ same.1 | inr other ↦ absurd (true≢false (sym holds ∙ is ∙ other.0)) ]

pub some-unless_empty : (n : ℕ) (empty : Bool) → empty ≡ nat_eq n 0 → empty ≡ false → 0 < n
some-unless_empty n empty is fails =
    elim (eqb_tells n 0) [ inl same ↦ absurd (true≢false (sym same.0 ∙ sym is ∙ fails)) | inr other ↦ above n other.1 ]
  where
    above : (n : ℕ) → (n ≡ 0 → ⊥) → 0 < n
    above n other = omega (arith, other)

pub drop-map : {A : Type 0} (repr : A → ℕ) (n : ℕ) (xs : List A) → drop n (map repr xs) ≡ map repr (drop n xs)
drop-map repr zero xs = refl
drop-map repr (suc n) [] = refl
drop-map repr (suc n) (x ∷ xs) = drop-map repr n xs

module _ {width : ℕ} {times : ℕ → ℕ → ℕ} (ring : IsRing width 1 times) (wide : 0 < width) where
  eq_corner-lt : (xs : List ℕ) (i : ℕ) → eq_corner times xs i < 2 ^ width
  unfolding eq_corner
  eq_corner-lt [] i = pow_below 0 width wide
  eq_corner-lt (x ∷ xs) i = ring.below _ (eq_corner times xs i)

  -- the table of eq, by that of the other coordinates and its product with the first
  table-halves : (x : ℕ) (xs table lower upper : List ℕ) → table ≡ map (eq_corner times xs) (range_with_len 0 (2 ^ length xs))
      → upper ≡ map (λ e. times x e) table → lower ≡ zip2 bit_xor table upper
      → lower ++ upper ≡ map (eq_corner times (x ∷ xs)) (range_with_len 0 (2 ^ suc (length xs)))
  table-halves x xs table lower upper is_table is_upper is_lower =
      ext_get_or 0 (lower ++ upper) wanted (all ∙ sym (length-map-range_with_len (eq_corner times (x ∷ xs)) 0 (2 ^ suc (length xs)))) each
    where
      wanted : List ℕ
      wanted = map (eq_corner times (x ∷ xs)) (range_with_len 0 (2 ^ suc (length xs)))

      half : length table ≡ 2 ^ length xs
      half = ap length is_table ∙ length-map-range_with_len (eq_corner times xs) 0 (2 ^ length xs)

      upper_half : length upper ≡ 2 ^ length xs
      upper_half = ap length is_upper ∙ length-map table (λ (e : ℕ). times x e) ∙ half

      lower_half : length lower ≡ 2 ^ length xs
      lower_half = ap length is_lower ∙ length-zip2 bit_xor table upper (half ∙ sym upper_half) ∙ half

      all : length (lower ++ upper) ≡ 2 ^ suc (length xs)
      all = length-append lower upper ∙ ap₂ (λ (m n : ℕ). m + n) lower_half upper_half ∙ (let twice = two-pow-succ (length xs) in omega (arith, twice))

      table-at : (i : ℕ) → i < 2 ^ length xs → slice_index table i ≡ eq_corner times xs i
      table-at i below =
          ap (λ (ns : List ℕ). slice_index ns i) is_table
          ∙ get_or-map-range_with_len (eq_corner times xs) 0 (2 ^ length xs) i i 0 below (omega arith)

      upper-at : (i : ℕ) → i < 2 ^ length xs → slice_index upper i ≡ times x (eq_corner times xs i)
      upper-at i below =
          ap (λ (ns : List ℕ). slice_index ns i) is_upper
          ∙ get_or-map (λ (e : ℕ). times x e) table i 0 0 (subst (λ (n : ℕ). i < n) (sym half) below) ∙ ap (times x) (table-at i below)

      lower-at : (i : ℕ) → i < 2 ^ length xs → slice_index lower i ≡ times (bit_xor 1 x) (eq_corner times xs i)
      lower-at i below =
          ap (λ (ns : List ℕ). slice_index ns i) is_lower
          ∙ get_or-zip2 bit_xor table upper i 0 0 0 (subst (λ (n : ℕ). i < n) (sym half) below) (subst (λ (n : ℕ). i < n) (sym upper_half) below)
          ∙ ap₂ bit_xor (table-at i below ∙ sym (one-times width 1 times ring (eq_corner times xs i) (eq_corner-lt xs i))) (upper-at i below)
          ∙ sym (sum_times width 1 times ring 1 x (eq_corner times xs i))

      wanted-at : (i : ℕ) → i < 2 ^ suc (length xs) → slice_index wanted i ≡ eq_corner times (x ∷ xs) i
      wanted-at i below = get_or-map-range_with_len (eq_corner times (x ∷ xs)) 0 (2 ^ suc (length xs)) i i 0 below (omega arith)

      each : (i : ℕ) → i < length (lower ++ upper) → get_or (lower ++ upper) i 0 ≡ get_or wanted i 0
      each i inside =
          elim (cases_lt i (2 ^ length xs)) [
            | inl below ↦ get_or_append_left lower upper 0 i (subst (λ (n : ℕ). i < n) (sym lower_half) below) ∙ lower-at i below
                ∙ sym (eq_corner-lower width times ring x xs i below) ∙ sym (wanted-at i (subst (λ (n : ℕ). i < n) all inside))
            | inr past ↦
                let rest : i - 2 ^ length xs < 2 ^ length xs = let twice = two-pow-succ (length xs) in omega (arith, inside, all, past, twice) in
                let whole : 2 ^ length xs + (i - 2 ^ length xs) ≡ i = omega (arith, past) in
                get_or-append_right lower upper (2 ^ length xs) i 0 lower_half past ∙ upper-at (i - 2 ^ length xs) rest
                ∙ sym (eq_corner-upper width times ring x xs (i - 2 ^ length xs) rest) ∙ ap (eq_corner times (x ∷ xs)) whole
                ∙ sym (wanted-at i (subst (λ (n : ℕ). i < n) all inside))
          ]

  module _ {A : Type 0} (repr : A → ℕ) (range : (a : A) → repr a < 2 ^ width) where
    -- the table of no coordinates
    pub table-none : (table point : List A) (one : A) → length point ≡ 0 → length table ≡ 2 ^ length point → repr one ≡ 1
        → map repr (set table 0 one) ≡ map (eq_corner times (map repr point)) (range_with_len 0 (2 ^ length point))
    unfolding eq_corner
    table-none [] [] one none count is = absurd (omega (arith, count))
    table-none (t ∷ []) [] one none count is = ap (λ (n : ℕ). n ∷ []) is
    table-none (t ∷ u ∷ table) [] one none count is = absurd (omega (arith, count))
    table-none table (x ∷ xs) one none count is = absurd (omega (arith, none))

    -- and of one coordinate more
    pub table-more : (point rest table lower upper : List A) (x : A) → 0 < length point → x ≡ get_or point 0 x
        → rest ≡ take (length point - 1) (drop 1 point)
        → map repr table ≡ map (eq_corner times (map repr rest)) (range_with_len 0 (2 ^ length rest))
        → map repr upper ≡ map (λ e. times (repr x) e) (map repr table) → map repr lower ≡ zip2 bit_xor (map repr table) (map repr upper)
        → map repr (lower ++ upper) ≡ map (eq_corner times (map repr point)) (range_with_len 0 (2 ^ length point))
    table-more [] rest table lower upper x some read others is_table is_upper is_lower = absurd (omega (arith, some))
    table-more (y ∷ ys) rest table lower upper x some read others is_table is_upper is_lower =
        map-append repr lower upper
        ∙ table-halves (repr x) (map repr ys) (map repr table) (map repr lower) (map repr upper)
        (is_table
        ∙ ap (λ (zs : List A). map (eq_corner times (map repr zs)) (range_with_len 0 (2 ^ length zs))) (others ∙ take_rest (y ∷ ys) 1)
        ∙ ap (λ (n : ℕ). map (eq_corner times (map repr ys)) (range_with_len 0 (2 ^ n))) (sym (length-map ys repr)))
        is_upper is_lower
        ∙ ap₂ (λ (n m : ℕ). map (eq_corner times (n ∷ map repr ys)) (range_with_len 0 (2 ^ suc m))) (ap repr read) (length-map ys repr)

    -- the value at no coordinates
    pub value-none : (values point : List A) (v : A) → length point ≡ 0 → length values ≡ 2 ^ length point → v ≡ get_or values 0 v
        → repr v ≡ multilinear_value times (map repr values) (map repr point)
    value-none values [] v none count read =
        sym (number-at repr values 0 v (omega (arith, count)) read)
        ∙ sym (value-alone width times ring (map repr values) (numbers-lt repr width range values 0))
    value-none values (x ∷ xs) v none count read = absurd (omega (arith, none))

    -- the value, by those of both halves
    pub value-more : (values lower upper point rest : List A) (r : A) → length values ≡ 2 ^ length point → 0 < length point
        → r ≡ get_or point 0 r → rest ≡ take (length point - 1) (drop 1 point)
        → lower ≡ take (length values / 2) values → upper ≡ drop (length values / 2) values
        → on_line times (repr r) (multilinear_value times (map repr lower) (map repr rest))
        (multilinear_value times (map repr upper) (map repr rest))
        ≡ multilinear_value times (map repr values) (map repr point)
    value-more values lower upper [] rest r count some read others is_lower is_upper = absurd (omega (arith, some))
    value-more values lower upper (y ∷ ys) rest r count some read others is_lower is_upper =
        let long = length-map values repr in
        ap (λ (zs : List A). on_line times (repr r) (multilinear_value times (map repr lower) (map repr zs)) (multilinear_value times (map repr upper) (map repr zs)))
        (others ∙ take_rest (y ∷ ys) 1)
        ∙ ap (λ (n : ℕ). on_line times n (multilinear_value times (map repr lower) (map repr ys)) (multilinear_value times (map repr upper) (map repr ys)))
        (ap repr read)
        ∙ ap₂ (λ (ls us : List ℕ). on_line times (repr y) (multilinear_value times ls (map repr ys)) (multilinear_value times us (map repr ys)))
        (ap (map repr) is_lower ∙ sym (take-map repr (length values / 2) values) ∙ ap (λ (n : ℕ). take (n / 2) (map repr values)) (sym long))
        (ap (map repr) is_upper ∙ sym (drop-map repr (length values / 2) values) ∙ ap (λ (n : ℕ). drop (n / 2) (map repr values)) (sym long))
        ∙ sym (value-halves width times ring (repr y) (map repr ys) (map repr values)
        (long ∙ count ∙ ap (λ (n : ℕ). 2 ^ suc n) (sym (length-map ys repr))))
