-- Linear maps over a small field, by the coefficients of elements: sums of parts, and values of tables of images.
use Rattle.std.proofs.Common.{◌≡◌, ◌≢◌, ◌⊎◌, inl, inr, ℕ, zero, suc, ◌+◌, ◌*◌, ◌/◌, ◌%◌, ◌^◌, ◌<◌, ◌≤◌, List, [], ◌∷◌, length, refl, sym, ◌∙◌, ap, ap₂, subst, arith}
use Rattle.std.specs.Prelude.{bit_xor}
use Rattle.std.proofs.Math.Nat.{mul-le-mul_left, pow-le-pow_right}
use Rattle.std.proofs.lemmas.Bool.{cases_lt}
use Rattle.std.proofs.lemmas.Bool.Decides.{eqb_tells}
use Rattle.std.proofs.lemmas.Nat.{pow-add, pow_below, pow_pos, shr_high, xor_comm, xor_lt}
use native.Mathlib.Nat.{div-add-mod, mod-eq_of_lt, mod-lt, mul-suc, mul-zero}
use lib.Bits.{xor_assoc, xor_self, xor_zero_r}
use Rattle.field_base.specs.Basis.{sum_below}
use Rattle.field_base.specs.Chunks.{chunk}
use Rattle.field_base.specs.Ring.{IsRing}
use Rattle.field_base.proofs.BasisSums.{sum_below-same, sum_below-zeros}
use Rattle.field_base.proofs.ChunkLists.{chunk-lt, chunk-whole, chunk_above, chunk_xor}
use Rattle.field_base.proofs.RingLemmas.{sum_times, times-zero, xor_nothing, zero-times}
use Rattle.field_slices.specs.Multilinear.{eq_corner, on_line}
use Rattle.field_slices.proofs.CornerSums.{corners-line, eq_corner-lower, eq_corner-upper, weighted-lt, weighted-scaled}
use Rattle.field_slices.proofs.DeterminantInverses.{combination-times}
use Rattle.field_slices.proofs.RowSpaces.{coefficient_at, only, only-other, only-same, sum_of_sums, sum_with}
use Rattle.small_tables.specs.SmallTables.{IsSpaceOver}

-- ---- chunks

-- bits below a chunk leave nothing in it
chunk-beyond : (w i a : ℕ) → a < 2 ^ (w * i) → chunk w i a ≡ 0
chunk-beyond w i a below =
    ap (λ (q : ℕ). q % 2 ^ w) (ap (λ (x : ℕ). x / 2 ^ (w * i)) (let none : a ≡ 0 * 2 ^ (w * i) + a = omega arith in none) ∙ shr_high 0 (w * i) a below)
    ∙ mod-eq_of_lt (pow_pos w)

pub chunk-none : (w i : ℕ) → chunk w i 0 ≡ 0
chunk-none w i = chunk-beyond w i 0 (pow_pos (w * i))

-- a chunk of a sum
chunk-sum : (w i : ℕ) (f : ℕ → ℕ) (n : ℕ) → chunk w i (sum_below f n) ≡ sum_below (λ j. chunk w i (f j)) n
unfolding sum_below
chunk-sum w i f zero = chunk-none w i
chunk-sum w i f (suc n) = chunk_xor w i (sum_below f n) (f n) ∙ ap (λ (s : ℕ). bit_xor s (chunk w i (f n))) (chunk-sum w i f n)

-- a number of n + 1 chunks whose last one is 0 has n
fewer-chunks : (w n a : ℕ) → a < 2 ^ (w * suc n) → chunk w n a ≡ 0 → a < 2 ^ (w * n)
fewer-chunks w n a below none =
    let p : ℕ = 2 ^ (w * n) in
    let parts : 2 ^ (w * suc n) ≡ p * 2 ^ w =
    ap (λ (b : ℕ). 2 ^ b) (mul-suc w n) ∙ pow-add 2 (w * n) w in
    let whole = div-add-mod a p in
    let rest = mod-lt a (pow_pos (w * n)) in
    elim (cases_lt (a / p) (2 ^ w)) [
      | inl high ↦
          let nothing : a / p ≡ 0 = sym (mod-eq_of_lt high) ∙ none in
          let low : p * 0 + a % p < p = omega (arith, rest) in
          subst (λ (x : ℕ). x < p) (ap (λ (q : ℕ). p * q + a % p) (sym nothing) ∙ whole) low
      | inr past ↦ let grown = mul-le-mul_left p past in absurd (omega (arith, grown, whole, parts, below))
    ]

-- a number that is not 0 has a chunk that is not
pub some-chunk : (w n a : ℕ) → a < 2 ^ (w * n) → a ≢ 0 → (m : ℕ) × (m < n) × (chunk w m a ≢ 0)
some-chunk w zero a below some =
    let none : 2 ^ (w * 0) ≡ 1 = ap (λ (b : ℕ). 2 ^ b) (mul-zero w) in
    absurd (some (omega (arith, below, none)))
some-chunk w (suc n) a below some =
    elim (eqb_tells (chunk w n a) 0) [
      | inl none ↦ let found = some-chunk w n a (fewer-chunks w n a below none.1) some in (found.0, omega (arith, found.1), found.2)
      | inr other ↦ (n, omega arith, other.1)
    ]

-- numbers with the same chunks are the same
same-chunks : (w n a b : ℕ) → a < 2 ^ (w * n) → b < 2 ^ (w * n) → ((i : ℕ) → i < n → chunk w i a ≡ chunk w i b) → a ≡ b
same-chunks w n a b one other same =
    elim (eqb_tells (bit_xor a b) 0) [
      | inl none ↦ xor_nothing a b none.1
      | inr some ↦
          let found = some-chunk w n (bit_xor a b) (xor_lt (w * n) a b one other) some.1 in
          absurd (found.2 (chunk_xor w found.0 a b ∙ ap (bit_xor (chunk w found.0 a)) (sym (same found.0 found.1)) ∙ xor_self (chunk w found.0 a)))
    ]

-- a chunk of an element lies inside it
pub place-inside : (width : ℕ) (times : ℕ → ℕ → ℕ) (w k place : ℕ) → IsSpaceOver width times w k → place < 2 ^ k → w * place + w ≤ width
place-inside width times w k place space below =
    let more : suc place ≤ 2 ^ k = below in
    let grown = mul-le-mul_left w more in
    let next = mul-suc w place in
    omega (arith, grown, next, space.bits)

-- so places fit a shift of 16 bytes
pub shift-fits : (width : ℕ) (times : ℕ → ℕ → ℕ) (w k place bytes : ℕ) → IsSpaceOver width times w k → place < 2 ^ k → width ≤ 8 * bytes → bytes ≤ 16
    → w * place < 128
shift-fits width times w k place bytes space below room short =
    let inside = place-inside width times w k place space below in
    omega (arith, inside, space.some, room, short)

-- an element of the basis is one
pub basis-fits : (width : ℕ) (times : ℕ → ℕ → ℕ) (w k place : ℕ) → IsSpaceOver width times w k → place < 2 ^ k
    → 2 ^ (w * place) % 2 ^ width ≡ 2 ^ (w * place)
basis-fits width times w k place space below =
    let inside = place-inside width times w k place space below in
    mod-eq_of_lt (pow_below (w * place) width (omega (arith, inside, space.some)))

-- the basis: chunk i of 2 ^ (w j) is 1 for j = i and else 0
basis-chunk : (w i j : ℕ) → 0 < w → chunk w i (2 ^ (w * j)) ≡ only i 1 j
basis-chunk w i j some =
    elim (eqb_tells j i) [
      | inl is ↦ own is.1 ∙ sym (only-same i 1 j is.1)
      | inr other ↦ elsewhere other.1 (cases_lt i j) ∙ sym (only-other i 1 j other.1)
    ]
  where
    once : 2 ^ (w * j) ≡ 1 * 2 ^ (w * j) + 0
    once = omega arith

    own : j ≡ i → chunk w i (2 ^ (w * j)) ≡ 1
    own is =
        ap (λ (x : ℕ). chunk w x (2 ^ (w * j))) (sym is)
        ∙ ap (λ (q : ℕ). q % 2 ^ w) (ap (λ (x : ℕ). x / 2 ^ (w * j)) once ∙ shr_high 1 (w * j) 0 (pow_pos (w * j)))
        ∙ mod-eq_of_lt (pow_below 0 w some)

    elsewhere : j ≢ i → (i < j) ⊎ (j ≤ i) → chunk w i (2 ^ (w * j)) ≡ 0
    elsewhere other (inl less) = ap (chunk w i) once ∙ chunk_above w j i 1 0 less ∙ chunk-none w i
    elsewhere other (inr past) =
        let more : suc j ≤ i = omega (arith, other, past) in
        let grown = mul-le-mul_left w more in
        let next = mul-suc w j in
        chunk-beyond w i (2 ^ (w * j)) (pow_below (w * j) (w * i) (omega (arith, grown, next, some)))

module _ (width : ℕ) (times : ℕ → ℕ → ℕ) (w k : ℕ) (ring : IsRing width 1 times) (space : IsSpaceOver width times w k) where
  -- an element of the small field is one of the large field
  pub small-fits : (c : ℕ) → c < 2 ^ w → c < 2 ^ width
  small-fits c fits =
      let one : 1 ≤ 2 ^ k = pow_pos k in
      let more = mul-le-mul_left w one in
      let wide : 2 ^ w ≤ 2 ^ width = pow-le-pow_right (omega arith) (omega (arith, more, space.bits)) in
      omega (arith, fits, wide)

  -- coefficients of a sum over the basis
  pub coefficients-of : (g : ℕ → ℕ) → ((u : ℕ) → g u < 2 ^ w) → (i : ℕ) → i < 2 ^ k
      → chunk w i (sum_below (λ u. times (2 ^ (w * u)) (g u)) (2 ^ k)) ≡ g i
  coefficients-of g fits i inside =
      chunk-sum w i (λ u. times (2 ^ (w * u)) (g u)) (2 ^ k)
      ∙ sum_below-same (λ u. chunk w i (times (2 ^ (w * u)) (g u))) (λ u. times (g u) (only i 1 u)) (2 ^ k)
      (λ u below.
      ap (chunk w i) (ring.comm (2 ^ (w * u)) (g u)) ∙ space.scales i (g u) (2 ^ (w * u)) inside (fits u)
      ∙ ap (times (g u)) (basis-chunk w i u space.some))
      ∙ coefficient_at width times ring g (only i 1) (2 ^ k) i inside (λ u below. refl) ∙ mod-eq_of_lt (small-fits (g i) (fits i))

  -- an element is the sum of its coefficients times the basis
  pub whole-of : (y : ℕ) → y < 2 ^ width → sum_below (λ u. times (2 ^ (w * u)) (chunk w u y)) (2 ^ k) ≡ y
  whole-of y fits =
      same-chunks w (2 ^ k) (sum_below (λ u. times (2 ^ (w * u)) (chunk w u y)) (2 ^ k)) y
      (subst (λ (b : ℕ). sum_below (λ u. times (2 ^ (w * u)) (chunk w u y)) (2 ^ k) < 2 ^ b) space.bits
      (weighted-lt width times ring (λ u. 2 ^ (w * u)) (λ u. chunk w u y) (2 ^ k)))
      (subst (λ (b : ℕ). y < 2 ^ b) space.bits fits)
      (coefficients-of (λ u. chunk w u y) (λ u. chunk-lt w u y))

  -- ---- linear maps

  -- the map that takes coefficient m to the scalar m
  abbrev pub image : (ℕ → ℕ) → ℕ → ℕ
  image c y = sum_below (λ m. times (c m) (chunk w m y)) (2 ^ k)

  pub image-xor : (c : ℕ → ℕ) (a b : ℕ) → image c (bit_xor a b) ≡ bit_xor (image c a) (image c b)
  image-xor c a b =
      sum_below-same (λ m. times (c m) (chunk w m (bit_xor a b))) (λ m. bit_xor (times (c m) (chunk w m a)) (times (c m) (chunk w m b))) (2 ^ k)
      (λ m below. ap (times (c m)) (chunk_xor w m a b) ∙ ring.over_sum (c m) (chunk w m a) (chunk w m b))
      ∙ sum_of_sums (λ m. times (c m) (chunk w m a)) (λ m. times (c m) (chunk w m b)) (2 ^ k)

  image-scaled : (c : ℕ → ℕ) (s y : ℕ) → s < 2 ^ w → image c (times s y) ≡ times s (image c y)
  image-scaled c s y small =
      sum_below-same (λ m. times (c m) (chunk w m (times s y))) (λ m. times (c m) (times s (chunk w m y))) (2 ^ k)
      (λ m below. ap (times (c m)) (space.scales m s y below small))
      ∙ weighted-scaled width times ring c (λ m. chunk w m y) s (2 ^ k)

  -- of a combination with small scalars
  pub image-combined : (c t e : ℕ → ℕ) (n : ℕ) → ((j : ℕ) → t j < 2 ^ w)
      → image c (sum_below (λ j. times (t j) (e j)) n) ≡ sum_below (λ j. times (t j) (image c (e j))) n
  unfolding sum_below
  image-combined c t e zero small =
      sum_below-zeros (λ m. times (c m) (chunk w m 0)) (2 ^ k) (λ m below. ap (times (c m)) (chunk-none w m) ∙ times-zero width 1 times ring (c m))
  image-combined c t e (suc n) small =
      image-xor c (sum_below (λ j. times (t j) (e j)) n) (times (t n) (e n))
      ∙ ap₂ bit_xor (image-combined c t e n small) (image-scaled c (t n) (e n) (small n))

  -- ---- sums of images

  -- of the parts of packed elements: the sum over these of the images of the weights times the elements
  pub packed-images : (c p e : ℕ → ℕ) (n : ℕ) → ((v : ℕ) → p v < 2 ^ width)
      → sum_below (λ u. times (2 ^ (w * u)) (image c (sum_below (λ v. times (chunk w u (p v)) (e v)) n))) (2 ^ k)
      ≡ sum_below (λ v. times (image c (e v)) (p v)) n
  packed-images c p e n fits =
      sum_below-same (λ u. times (2 ^ (w * u)) (image c (sum_below (λ v. times (chunk w u (p v)) (e v)) n)))
      (λ u. times (2 ^ (w * u)) (sum_below (λ v. times (chunk w u (p v)) (image c (e v))) n)) (2 ^ k)
      (λ u below. ap (times (2 ^ (w * u))) (image-combined c (λ v. chunk w u (p v)) e n (λ v. chunk-lt w u (p v))))
      ∙ sym (combination-times width times ring (λ u. 2 ^ (w * u)) (λ v. image c (e v)) (λ u v. chunk w u (p v)) n (2 ^ k))
      ∙ sum_below-same (λ v. times (sum_below (λ u. times (2 ^ (w * u)) (chunk w u (p v))) (2 ^ k)) (image c (e v)))
      (λ v. times (image c (e v)) (p v)) n
      (λ v below. ap (λ (x : ℕ). times x (image c (e v))) (whole-of (p v) (fits v)) ∙ ring.comm (p v) (image c (e v)))

  -- of parts: that of their rows times the scalars
  pub row-images : (c g : ℕ → ℕ)
      → sum_below (λ u. times (2 ^ (w * u)) (image c (g u))) (2 ^ k)
      ≡ sum_below (λ m. times (sum_below (λ u. times (2 ^ (w * u)) (chunk w m (g u))) (2 ^ k)) (c m)) (2 ^ k)
  row-images c g =
      sum_below-same (λ u. times (2 ^ (w * u)) (image c (g u))) (λ u. times (2 ^ (w * u)) (sum_below (λ m. times (chunk w m (g u)) (c m)) (2 ^ k))) (2 ^ k)
      (λ u below.
      ap (times (2 ^ (w * u)))
      (sum_below-same (λ m. times (c m) (chunk w m (g u))) (λ m. times (chunk w m (g u)) (c m)) (2 ^ k) (λ m inside. ring.comm (c m) (chunk w m (g u)))))
      ∙ sym (combination-times width times ring (λ u. 2 ^ (w * u)) c (λ u m. chunk w m (g u)) (2 ^ k) (2 ^ k))

  -- of sums
  pub sum-images : (c f g : ℕ → ℕ)
      → sum_below (λ u. times (2 ^ (w * u)) (image c (bit_xor (f u) (g u)))) (2 ^ k)
      ≡ bit_xor (sum_below (λ u. times (2 ^ (w * u)) (image c (f u))) (2 ^ k)) (sum_below (λ u. times (2 ^ (w * u)) (image c (g u))) (2 ^ k))
  sum-images c f g =
      sum_below-same (λ u. times (2 ^ (w * u)) (image c (bit_xor (f u) (g u))))
      (λ u. bit_xor (times (2 ^ (w * u)) (image c (f u))) (times (2 ^ (w * u)) (image c (g u)))) (2 ^ k)
      (λ u below. ap (times (2 ^ (w * u))) (image-xor c (f u) (g u)) ∙ ring.over_sum (2 ^ (w * u)) (image c (f u)) (image c (g u)))
      ∙ sum_of_sums (λ u. times (2 ^ (w * u)) (image c (f u))) (λ u. times (2 ^ (w * u)) (image c (g u))) (2 ^ k)

  -- ---- values of the table of images of eq

  -- the scalars that are left where the first coordinates of both points are set to x and r
  abbrev pub next_scalars : ℕ → ℕ → (ℕ → ℕ) → ℕ → ℕ
  next_scalars x r c m = bit_xor (image c (times x (2 ^ (w * m)))) (times (bit_xor 1 r) (c m))

  -- their map
  next-image : (x r : ℕ) (c : ℕ → ℕ) (y : ℕ) → y < 2 ^ width
      → image (next_scalars x r c) y ≡ bit_xor (image c (times x y)) (times (bit_xor 1 r) (image c y))
  next-image x r c y fits =
      sum_with width times ring (λ m. image c (times x (2 ^ (w * m)))) c (λ m. chunk w m y) (bit_xor 1 r) (2 ^ k)
      ∙ ap (λ (z : ℕ). bit_xor z (times (bit_xor 1 r) (image c y)))
      (sum_below-same (λ m. times (image c (times x (2 ^ (w * m)))) (chunk w m y)) (λ m. times (chunk w m y) (image c (times x (2 ^ (w * m))))) (2 ^ k)
      (λ m below. ring.comm (image c (times x (2 ^ (w * m)))) (chunk w m y))
      ∙ sym (image-combined c (λ m. chunk w m y) (λ m. times x (2 ^ (w * m))) (2 ^ k) (λ m. chunk-lt w m y))
      ∙ ap (image c)
      (weighted-scaled width times ring (λ m. chunk w m y) (λ m. 2 ^ (w * m)) x (2 ^ k)
      ∙ ap (times x)
      (sum_below-same (λ m. times (chunk w m y) (2 ^ (w * m))) (λ m. times (2 ^ (w * m)) (chunk w m y)) (2 ^ k)
      (λ m below. ring.comm (chunk w m y) (2 ^ (w * m)))
      ∙ whole-of y fits)))

  eq-lt : (xs : List ℕ) (i : ℕ) → 0 < width → eq_corner times xs i < 2 ^ width
  unfolding eq_corner
  eq-lt [] i wide = pow_below 0 width wide
  eq-lt (x ∷ xs) i wide = ring.below _ (eq_corner times xs i)

  -- the value at a point of the table of images of eq(xs, corner)
  abbrev pub image_value : (ℕ → ℕ) → List ℕ → List ℕ → ℕ
  image_value c xs rs = sum_below (λ v. times (image c (eq_corner times xs v)) (eq_corner times rs v)) (2 ^ length rs)

  pub image_value-next : 0 < width → (c : ℕ → ℕ) (x r : ℕ) (xs rs : List ℕ) → length xs ≡ length rs
      → image_value c (x ∷ xs) (r ∷ rs) ≡ image_value (next_scalars x r c) xs rs
  image_value-next wide c x r xs rs same =
      corners-line width times ring (λ v. image c (eq_corner times (x ∷ xs) v)) r rs
      ∙ ap₂ (on_line times r)
      (sum_below-same (λ v. times (image c (eq_corner times (x ∷ xs) v)) (eq v)) (λ v. times (bit_xor (moved v) (kept v)) (eq v)) n
      (λ v below. ap (λ (i : ℕ). times i (eq v)) (ap (image c) (eq_corner-lower width times ring x xs v (inside v below)) ∙ lower v))
      ∙ spread)
      (sum_below-same (λ v. times (image c (eq_corner times (x ∷ xs) (2 ^ length rs + v))) (eq v)) (λ v. times (moved v) (eq v)) n
      (λ v below.
      ap (λ (i : ℕ). times (image c i) (eq v))
      (ap (λ (l : ℕ). eq_corner times (x ∷ xs) (2 ^ l + v)) (sym same) ∙ eq_corner-upper width times ring x xs v (inside v below))))
      ∙ line moved_sum kept_sum (weighted-lt width times ring kept eq n)
      ∙ sym
      (sum_below-same (λ v. times (image (next_scalars x r c) (eq_corner times xs v)) (eq v))
      (λ v. times (bit_xor (moved v) (times (bit_xor 1 r) (kept v))) (eq v)) n
      (λ v below. ap (λ (i : ℕ). times i (eq v)) (next-image x r c (eq_corner times xs v) (eq-lt xs v wide)))
      ∙ sum_with width times ring moved kept eq (bit_xor 1 r) n)
    where
      n : ℕ
      n = 2 ^ length rs

      eq : ℕ → ℕ
      eq v = eq_corner times rs v

      moved : ℕ → ℕ
      moved v = image c (times x (eq_corner times xs v))

      kept : ℕ → ℕ
      kept v = image c (eq_corner times xs v)

      moved_sum : ℕ
      moved_sum = sum_below (λ v. times (moved v) (eq v)) n

      kept_sum : ℕ
      kept_sum = sum_below (λ v. times (kept v) (eq v)) n

      inside : (v : ℕ) → v < n → v < 2 ^ length xs
      inside v below = subst (λ (l : ℕ). v < 2 ^ l) (sym same) below

      lower : (v : ℕ) → image c (times (bit_xor 1 x) (eq_corner times xs v)) ≡ bit_xor (moved v) (kept v)
      lower v =
          ap (image c)
          (sum_times width 1 times ring 1 x (eq_corner times xs v)
          ∙ ap (λ (z : ℕ). bit_xor z (times x (eq_corner times xs v))) (ring.one (eq_corner times xs v) ∙ mod-eq_of_lt (eq-lt xs v wide))
          ∙ xor_comm (eq_corner times xs v) (times x (eq_corner times xs v)))
          ∙ image-xor c (times x (eq_corner times xs v)) (eq_corner times xs v)

      spread : sum_below (λ v. times (bit_xor (moved v) (kept v)) (eq v)) n ≡ bit_xor moved_sum kept_sum
      spread =
          sum_below-same (λ v. times (bit_xor (moved v) (kept v)) (eq v)) (λ v. bit_xor (times (moved v) (eq v)) (times (kept v) (eq v))) n
          (λ v below. sum_times width 1 times ring (moved v) (kept v) (eq v))
          ∙ sum_of_sums (λ v. times (moved v) (eq v)) (λ v. times (kept v) (eq v)) n

      line : (q p : ℕ) → p < 2 ^ width → on_line times r (bit_xor q p) q ≡ bit_xor q (times (bit_xor 1 r) p)
      line q p fits =
          ap (λ (z : ℕ). bit_xor (bit_xor q p) (times r z)) (ap (λ (z : ℕ). bit_xor z q) (xor_comm q p) ∙ back p q)
          ∙ xor_assoc q p (times r p)
          ∙ ap (bit_xor q)
          (sym (sum_times width 1 times ring 1 r p ∙ ap (λ (z : ℕ). bit_xor z (times r p)) (ring.one p ∙ mod-eq_of_lt fits)))
        where
          back : (a b : ℕ) → bit_xor (bit_xor a b) b ≡ a
          back a b = xor_assoc a b b ∙ ap (bit_xor a) (xor_self b) ∙ xor_zero_r a

-- ---- small fields

-- numbers multiply in a small ring as they do in a field over which it is one
module _ (times small : ℕ → ℕ → ℕ) (w n unit : ℕ) (below : (a b : ℕ) → times a b < 2 ^ (w * n)) (ring : IsRing w unit small)
    (over : (i c a : ℕ) → i < n → c < 2 ^ w → chunk w i (times c a) ≡ small c (chunk w i a)) where
  -- chunks of a number of one chunk
  chunk-one : (i a : ℕ) → a < 2 ^ w → 0 < i → chunk w i a ≡ 0
  chunk-one i a fits past =
      let more : 1 ≤ i = past in
      let grown = mul-le-mul_left w more in
      let wide : 2 ^ w ≤ 2 ^ (w * i) = pow-le-pow_right (omega arith) (omega (arith, grown)) in
      chunk-beyond w i a (omega (arith, fits, wide))

  small-times : 0 < n → (c x : ℕ) → c < 2 ^ w → x < 2 ^ w → times c x ≡ small c x
  small-times some c x c_fits x_fits =
      same-chunks w n (times c x) (small c x) (below c x)
      (let more : 1 ≤ n = some in
      let grown = mul-le-mul_left w more in
      let wide : 2 ^ w ≤ 2 ^ (w * n) = pow-le-pow_right (omega arith) (omega (arith, grown)) in
      let fits = ring.below c x in
      omega (arith, fits, wide))
      (λ i inside. over i c x inside c_fits ∙ same i (cases_lt 0 i))
    where
      same : (i : ℕ) → (0 < i) ⊎ (i ≤ 0) → small c (chunk w i x) ≡ chunk w i (small c x)
      same i (inl past) =
          ap (small c) (chunk-one i x x_fits past) ∙ times-zero w unit small ring c ∙ sym (chunk-one i (small c x) (ring.below c x) past)
      same i (inr none) =
          let first : i ≡ 0 = omega (arith, none) in
          ap (λ (j : ℕ). small c (chunk w j x)) first ∙ ap (small c) (chunk-whole w x x_fits) ∙ sym (chunk-whole w (small c x) (ring.below c x))
          ∙ ap (λ (j : ℕ). chunk w j (small c x)) (sym first)

pub space-over : (width : ℕ) (times small : ℕ → ℕ → ℕ) (w k n v unit : ℕ) → IsRing width 1 times → IsRing v unit small → 0 < w → v ≡ w → n ≡ 2 ^ k
    → width ≡ v * n → ((i c a : ℕ) → i < n → c < 2 ^ v → chunk v i (times c a) ≡ small c (chunk v i a)) → IsSpaceOver width times w k
space-over width times small w k n v unit ring inner some is count bits over = record {
  some = some;
  bits = bits ∙ ap₂ (λ (a b : ℕ). a * b) is count;
  scales = λ i c a inside fits.
      subst (λ (u : ℕ). chunk u i (times c a) ≡ times c (chunk u i a)) is
      (let below : i < n = subst (λ (m : ℕ). i < m) (sym count) inside in
      let small_fits : c < 2 ^ v = subst (λ (u : ℕ). c < 2 ^ u) (sym is) fits in
      over i c a below small_fits
      ∙ sym
      (small-times times small v n unit (λ x y. subst (λ (b : ℕ). times x y < 2 ^ b) bits (ring.below x y)) inner over (omega (arith, below)) c
      (chunk v i a) small_fits (chunk-lt v i a)));
}

-- the field of two elements, inside one of 2 ^ k bits
pub space-bits : (width : ℕ) (times : ℕ → ℕ → ℕ) (k : ℕ) → IsRing width 1 times → width ≡ 2 ^ k → IsSpaceOver width times 1 k
space-bits width times k ring bits = record {
  some = omega arith;
  bits = let once : width ≡ 1 * 2 ^ k = omega (arith, bits) in once;
  scales = scaled;
}
  where
    one-scales : (a i : ℕ) → i < 2 ^ k → chunk 1 i (times 1 a) ≡ times 1 (chunk 1 i a)
    one-scales a i inside =
        let n : ℕ = 2 ^ k in
        let whole = div-add-mod a (2 ^ (1 * n)) in
        let parts : a ≡ a / 2 ^ (1 * n) * 2 ^ (1 * n) + a % 2 ^ (1 * n) = omega (arith, whole) in
        let same : width ≡ 1 * n = omega (arith, bits) in
        let small = chunk-lt 1 i a in
        let one : 1 ≤ width = let some = pow_pos k in omega (arith, some, bits) in
        let wide : 2 ^ 1 ≤ 2 ^ width = pow-le-pow_right (omega arith) one in
        ap (chunk 1 i) (ring.one a ∙ ap (λ (b : ℕ). a % 2 ^ b) same)
        ∙ sym (ap (chunk 1 i) parts ∙ chunk_above 1 n i (a / 2 ^ (1 * n)) (a % 2 ^ (1 * n)) inside)
        ∙ sym (ring.one (chunk 1 i a) ∙ mod-eq_of_lt (omega (arith, small, wide)))

    scaled : (i c a : ℕ) → i < 2 ^ k → c < 2 ^ 1 → chunk 1 i (times c a) ≡ times c (chunk 1 i a)
    scaled i zero a inside fits =
        ap (chunk 1 i) (zero-times width 1 times ring a) ∙ chunk-none 1 i ∙ sym (zero-times width 1 times ring (chunk 1 i a))
    scaled i (suc zero) a inside fits = one-scales a i inside
    scaled i (suc (suc c)) a inside fits = absurd (omega (arith, fits))
