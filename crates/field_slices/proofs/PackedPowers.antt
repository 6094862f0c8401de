-- Powers of a number, each times a first one, in the lanes of packings.
use Rattle.std.proofs.Common.{◌≡◌, ℕ, zero, suc, ◌+◌, ◌*◌, ◌^◌, ◌<◌, List, [], ◌∷◌, ◌++◌, length, map, replicate, refl, sym, ◌∙◌, ap, ap₂, arith}
use Rattle.std.specs.List.{flat_map, range_with_len}
use Rattle.std.proofs.lemmas.List.{map-append}
use Rattle.std.proofs.lemmas.List.FromFn.{length-range_with_len}
use native.Mathlib.Nat.{zero-mul}
use Rattle.field_base.specs.Powers.{power}
use Rattle.field_base.specs.Ring.{IsRing}
use Rattle.field_base.proofs.PowerLemmas.{power-add}
use Rattle.packed_lanes.specs.Lanes.{lane_by_lane}
use Rattle.packed_lanes.specs.lemmas.LaneList.{map-replicate}
use Rattle.packed_lanes.specs.Packed.{lanes_of}
use Rattle.packed_lanes.specs.declared.packed.Packed.{Packed}
use Rattle.field_slices.proofs.LaneLists.{lanes-after, one-more}

-- what a function gives of m numbers from a on, and of the n numbers behind them
ranges-joined : {X : Type 0} (f : ℕ → X) (a m n b : ℕ) → b ≡ a + m
    → map f (range_with_len a m) ++ map f (range_with_len b n) ≡ map f (range_with_len a (m + n))
ranges-joined f a zero n b is =
    let start : b ≡ a = omega (arith, is) in
    let long : n ≡ zero + n = omega arith in
    ap₂ (λ (k l : ℕ). map f (range_with_len k l)) start long
ranges-joined f a (suc m) n b is =
    let more : suc m + n ≡ suc (m + n) = omega arith in
    ap (λ (xs : List _). f a ∷ xs) (ranges-joined f (a + 1) m n b (omega (arith, is)))
    ∙ ap (λ (k : ℕ). map f (range_with_len a k)) (sym more)

-- what it gives of the numbers from m + a on
range-moved : {X : Type 0} (f : ℕ → X) (m a n : ℕ) → map (λ j. f (m + j)) (range_with_len a n) ≡ map f (range_with_len (m + a) n)
range-moved f m a zero = refl
range-moved f m a (suc n) =
    let next : m + (a + 1) ≡ m + a + 1 = omega arith in
    ap (λ (xs : List _). f (m + a) ∷ xs)
    (range-moved f m (a + 1) n ∙ ap (λ (k : ℕ). map f (range_with_len k n)) next)

-- what it gives of the numbers below m, and of the n numbers from m on
joined-range : {X : Type 0} (f : ℕ → X) (m n : ℕ)
    → map f (range_with_len 0 m) ++ map (λ j. f (m + j)) (range_with_len 0 n) ≡ map f (range_with_len 0 (m + n))
joined-range f m n =
    ap (λ (xs : List _). map f (range_with_len 0 m) ++ xs) (range-moved f m 0 n) ∙ ranges-joined f 0 m n (m + 0) (omega arith)

-- an operation with one number in every lane
each_lane : (op : ℕ → ℕ → ℕ) (g : ℕ → ℕ) (v : ℕ) (ks : List ℕ)
    → lane_by_lane op (map g ks) (replicate (length ks) v) ≡ map (λ k. op (g k) v) ks
each_lane op g v [] = refl
each_lane op g v (k ∷ ks) = ap (λ (ns : List ℕ). op (g k) v ∷ ns) (each_lane op g v ks)

-- first · a ^ i
abbrev pub shifted_power : ℕ → (ℕ → ℕ → ℕ) → ℕ → ℕ → ℕ → ℕ
shifted_power unit times a first i = times first (power unit times a i)

module _ {F : Type 0} {N : ℕ} (repr : F → ℕ) (width unit : ℕ) (times : ℕ → ℕ → ℕ) (ring : IsRing width unit times)
    (fits : unit < 2 ^ width) (a first : ℕ) where
  -- the first packing: first · a ^ (0 N + j) in lane j
  pub first_powers : (x : Packed F N) → map repr (lanes_of x) ≡ map (shifted_power unit times a first) (range_with_len 0 N)
      → map repr (lanes_of x) ≡ map (λ j. shifted_power unit times a first (0 * N + j)) (range_with_len 0 N)
  first_powers x lanes = lanes ∙ ap (λ (f : ℕ → ℕ). map f (range_with_len 0 N)) all
    where
      same : (j : ℕ) → shifted_power unit times a first j ≡ shifted_power unit times a first (0 * N + j)
      same j =
          let none = zero-mul N in
          let place : j ≡ 0 * N + j = omega (arith, none) in
          ap (shifted_power unit times a first) place

      all : ◌≡◌ {A = ℕ → ℕ} (λ j. shifted_power unit times a first j) (λ j. shifted_power unit times a first (0 * N + j))
      all = λ i j. same j i

  -- c packings of powers, and one more whose lanes are the next N powers
  pub pushed_powers : (ps : List (Packed F N)) (p : Packed F N) (c : ℕ)
      → map repr (flat_map lanes_of ps) ≡ map (shifted_power unit times a first) (range_with_len 0 (c * N))
      → map repr (lanes_of p) ≡ map (λ j. shifted_power unit times a first (c * N + j)) (range_with_len 0 N)
      → map repr (flat_map lanes_of (ps ++ p ∷ [])) ≡ map (shifted_power unit times a first) (range_with_len 0 ((c + 1) * N))
  pushed_powers ps p c so_far lanes =
      ap (map repr) (one-more ps p) ∙ map-append repr (flat_map lanes_of ps) (lanes_of p)
      ∙ ap₂ (λ (xs ys : List ℕ). xs ++ ys) so_far lanes
      ∙ joined-range (shifted_power unit times a first) (c * N) N
      ∙ ap (λ (k : ℕ). map (shifted_power unit times a first) (range_with_len 0 k)) (sym (lanes-after c N))

  -- the lanes times a ^ N are the N powers behind them
  pub next_powers : (x r : Packed F N) (step : F) (c : ℕ) → repr step ≡ power unit times a N
      → map repr (lanes_of x) ≡ map (λ j. shifted_power unit times a first (c * N + j)) (range_with_len 0 N)
      → map repr (lanes_of r) ≡ lane_by_lane times (map repr (lanes_of x)) (map repr (replicate N step))
      → map repr (lanes_of r) ≡ map (λ j. shifted_power unit times a first ((c + 1) * N + j)) (range_with_len 0 N)
  next_powers x r step c is lanes multiplied =
      multiplied
      ∙ ap₂ (λ (xs ys : List ℕ). lane_by_lane times xs ys) lanes
      (map-replicate repr N step ∙ ap₂ (λ (n v : ℕ). replicate n v) (sym (length-range_with_len 0 N)) is)
      ∙ each_lane times (λ j. shifted_power unit times a first (c * N + j)) (power unit times a N) (range_with_len 0 N)
      ∙ ap (λ (f : ℕ → ℕ). map f (range_with_len 0 N)) all
    where
      same : (j : ℕ) → times (shifted_power unit times a first (c * N + j)) (power unit times a N)
          ≡ shifted_power unit times a first ((c + 1) * N + j)
      same j =
          let more = lanes-after c N in
          let place : c * N + j + N ≡ (c + 1) * N + j = omega (arith, more) in
          ring.assoc first (power unit times a (c * N + j)) (power unit times a N)
          ∙ ap (times first) (sym (power-add width unit times ring fits a (c * N + j) N) ∙ ap (power unit times a) place)

      all : ◌≡◌ {A = ℕ → ℕ} (λ j. times (shifted_power unit times a first (c * N + j)) (power unit times a N))
          (λ j. shifted_power unit times a first ((c + 1) * N + j))
      all = λ i j. same j i
