-- Rows of lanes as bytes: of one block of sixteen numbers, and of two whose rows stand side by side.
use Rattle.std.proofs.Common.{◌≡◌, ℕ, zero, suc, ◌+◌, ◌-◌, ◌*◌, ◌/◌, ◌%◌, ◌^◌, ◌<◌, ◌≤◌, ◌⊎◌, inl, inr, Bool, true, false, cond, ltb, List, [], ◌∷◌, ◌++◌, replicate, length, take, drop, get_or, map, sym, ◌∙◌, ap, ap₂, refl, subst, arith}
use Rattle.std.specs.Simd.Lanes.{chunk, put_chunk}
use Rattle.std.proofs.lemmas.Bool.{cases_lt, lt-ltb, ltb-true}
use Rattle.std.proofs.lemmas.List.{get_or-append_right, get_or_append_left, length-drop, take-append-drop, take_all}
use Rattle.std.proofs.lemmas.Simd.{get_or-chunk}
use Rattle.ghash_slices.specs.Blocks.{HoldLanes, HoldRows}
use Rattle.ghash_slices.proofs.BlockLemmas.{chunk_written, zeros}
use Rattle.ghash_slices.proofs.HornerProducts.{row_of, rows_hold}

-- ---- rows as bytes

-- the lane at place p, from the first lane that is taken on
abbrev pub lane_at : List (List ℕ) → ℕ → ℕ → ℕ
lane_at rows from p = get_or (row_of rows (p / 16)) (from + p % 16) 0

-- one row more is written
pub lanes_written : (rows : List (List ℕ)) (from row : ℕ) (bytes lanes : List ℕ) → length bytes ≡ 256 → row < 16 → length lanes ≡ 16
    → ((e : ℕ) → e < 16 → get_or lanes e 0 ≡ get_or (row_of rows row) (from + e) 0)
    → ((p : ℕ) → p < 16 * row → get_or bytes p 0 ≡ lane_at rows from p) → (p : ℕ) → p < 16 * (row + 1)
    → get_or (put_chunk (16 * row) bytes lanes) p 0 ≡ lane_at rows from p
lanes_written rows from row bytes lanes whole few long are before p below =
    chunk_written (lane_at rows from) (16 * row) bytes lanes long (omega (arith, whole, few)) before
    (λ e small.
    let number : e ≡ (16 * row + e) % 16 = omega arith in
    let place : row ≡ (16 * row + e) / 16 = omega arith in
    are e small ∙ ap₂ (λ (n m : ℕ). get_or (row_of rows n) (from + m) 0) place number)
    p (omega arith)

-- bytes that have the lanes hold the numbers
pub lanes_hold : (lanes : ℕ) (rows : List (List ℕ)) (from : ℕ) (bytes : List ℕ) (values : ℕ → ℕ) → from + 16 ≤ lanes
    → HoldLanes lanes rows values → ((p : ℕ) → p < 256 → get_or bytes p 0 ≡ lane_at rows from p) → HoldRows bytes (λ e. values (from + e))
lanes_hold lanes rows from bytes values room held are =
    rows_hold bytes (λ e. values (from + e)) (λ e inside. held.fits (from + e) (omega arith))
    (λ p below. are p below ∙ held.each (p / 16) (from + p % 16) (omega arith) (omega arith))

-- ---- rows side by side

-- thirty-two lanes are the first sixteen, and the others
pub two_halves_of : (row : List ℕ) → length row ≡ 32 → row ≡ chunk 0 16 row ++ chunk 16 16 row
two_halves_of row long =
    let rest : length (drop 16 row) ≤ 16 = omega (arith, length-drop 16 row, long) in
    sym (ap (λ (l : List ℕ). take 16 row ++ l) (take_all 16 (drop 16 row) rest) ∙ take-append-drop 16 row)

module _ (first second : List ℕ) (values : ℕ → ℕ) (held : HoldRows first values) (held_too : HoldRows second (λ e. values (16 + e))) where
  -- the numbers of both fit
  pub fits_in_both : (e : ℕ) → e < 32 → values e < 2 ^ 128
  fits_in_both e small = pick (cases_lt e 16)
    where
      pick : (e < 16) ⊎ (16 ≤ e) → values e < 2 ^ 128
      pick (inl below) = held.fits e below
      pick (inr above) =
          let at : 16 + (e - 16) ≡ e = omega arith in
          subst (λ (n : ℕ). values n < 2 ^ 128) at (held_too.fits (e - 16) (omega arith))

-- row k of both, side by side
pub rows_in_both : (first second : List ℕ) (values : ℕ → ℕ) (k : ℕ) (one other both : List ℕ) → k < 16 → HoldRows first values
    → HoldRows second (λ e. values (16 + e)) → one ≡ chunk (16 * k) 16 first → length one ≡ 16 → other ≡ chunk (16 * k) 16 second
    → both ≡ one ++ other → (e : ℕ) → e < 32 → get_or both e 0 ≡ values e / 2 ^ (8 * k) % 256
rows_in_both first second values k one other both few held held_too of_one long of_other is e small =
    ap (λ (l : List ℕ). get_or l e 0) is ∙ pick (cases_lt e 16)
  where
    pick : (e < 16) ⊎ (16 ≤ e) → get_or (one ++ other) e 0 ≡ values e / 2 ^ (8 * k) % 256
    pick (inl below) =
        get_or_append_left one other 0 e (omega (arith, long, below)) ∙ ap (λ (l : List ℕ). get_or l e 0) of_one
        ∙ get_or-chunk (16 * k) 16 first e 0 below ∙ held.each k e few below
    pick (inr above) =
        let inside : e - 16 < 16 = omega arith in
        let at : 16 + (e - 16) ≡ e = omega arith in
        get_or-append_right one other 16 e 0 long above ∙ ap (λ (l : List ℕ). get_or l (e - 16) 0) of_other
        ∙ get_or-chunk (16 * k) 16 second (e - 16) 0 inside ∙ held_too.each k (e - 16) few inside
        ∙ ap (λ (n : ℕ). values n / 2 ^ (8 * k) % 256) at

-- the numbers of two blocks as those of one: sixteen of the first, and then those of the second
abbrev pub both_blocks : (ℕ → ℕ) → (ℕ → ℕ) → ℕ → ℕ
both_blocks one other e = cond (ltb e 16) (one e) (other (e - 16))

-- of the first block
pub in_first : (one other : ℕ → ℕ) (e : ℕ) → e < 16 → both_blocks one other e ≡ one e
in_first one other e small = ap (λ (b : Bool). cond b (one e) (other (e - 16))) (lt-ltb e 16 small)

-- and of the second
pub in_second : (one other : ℕ → ℕ) (e : ℕ) → both_blocks one other (16 + e) ≡ other e
in_second one other e = pick (ltb (16 + e) 16) refl
  where
    pick : (b : Bool) → ltb (16 + e) 16 ≡ b → cond b (one (16 + e)) (other (16 + e - 16)) ≡ other e
    pick true below = let less = ltb-true (16 + e) 16 below in absurd (omega arith)
    pick false above = let place : 16 + e - 16 ≡ e = omega arith in ap other place

-- ---- no rows yet

-- every lane of zeros holds 0
pub zero_rows : (n lanes k e : ℕ) → get_or {A = ℕ} (get_or (replicate n (replicate lanes 0)) k []) e 0 ≡ 0
zero_rows zero lanes k e = refl
zero_rows (suc n) lanes zero e = zeros lanes e
zero_rows (suc n) lanes (suc k) e = zero_rows n lanes k e

-- ---- vectors as the lists of their bytes

-- rows are the lists of their bytes
pub lanes_same : (rows : List (List ℕ)) → map (λ (lanes : List ℕ). lanes) rows ≡ rows
lanes_same [] = refl
lanes_same (row ∷ rows) = ap (λ (rest : List (List ℕ)). row ∷ rest) (lanes_same rows)

-- what is said of those lists is said of the rows
pub of_lanes : (n : ℕ) (old new : List (List ℕ)) (f g : ℕ → ℕ)
    → (HoldLanes n (map (λ (lanes : List ℕ). lanes) old) f → HoldLanes n (map (λ (lanes : List ℕ). lanes) new) g)
    → HoldLanes n old f → HoldLanes n new g
of_lanes n old new f g told held =
    subst (λ (rows : List (List ℕ)). HoldLanes n rows g) (lanes_same new)
    (told (subst (λ (rows : List (List ℕ)). HoldLanes n rows f) (sym (lanes_same old)) held))
