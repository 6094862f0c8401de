-- The rounds of a transposition, over the numbers of the rows.
use Rattle.std.proofs.Common.{◌≡◌, ◌≢◌, ℕ, ◌+◌, ◌*◌, ◌/◌, ◌%◌, ◌^◌, ◌<◌, ◌≤◌, ◌-◌, suc, zero, List, length, get_or, replicate, set, refl, sym, ap, ap₂, ◌∙◌, lit<, arith, subst, inl, inr, ◌⊎◌, get_or-set_same, get_or-set_other}
use Rattle.std.specs.Int.{bit_at}
use Rattle.std.proofs.lemmas.Bool.{cases_eq, cases_lt}
use Rattle.std.proofs.lemmas.List.{get_or-replicate, length-replicate, length-set}
use Rattle.std.proofs.lemmas.Nat.{div-add-mod', div-mul-add, div_below, mod-mul-add, mul-le, pow-add, pow_pos}
use Rattle.std.proofs.Math.Nat.{add-mul, div-one, div-eq_of_lt, mul_assoc}
use native.Mathlib.Nat.{mod-lt, mod-eq_of_lt, zero-mul}
use Rattle.packed_lanes.specs.Parts.{IsBlockSize}
use Rattle.packed_lanes.proofs.BlockLemmas.{block_divides, block_some}
use Rattle.packed_lanes.proofs.BlockPlaces.{mixed}
use Rattle.bits_packed.specs.Lanes.{AreTransposed}
use Rattle.bits_packed.specs.Rounds.{AreMixed, AreRounds, IsMixed, IsPairInterleaved, IsPassTo, IsRowCount, PassGoesOn, first_row}
use Rattle.bits_packed.proofs.RoundPairs.{lower_mixed, upper_mixed}

-- ---- rows that are s apart, and how far each of them is

-- Row number k of those from row i on has come to blocks of `levels` k lanes, and all other rows are those of `before`.
pub record AreAt (width s i : ℕ) (old before now levels : List ℕ) : Type 0 where
  pub at : (k : ℕ) → k < length levels → IsMixed width (get_or levels k 0) old (i + k * s) (get_or now (i + k * s) 0)
  pub others : (r : ℕ) → ((k : ℕ) → k < length levels → r ≢ i + k * s) → get_or now r 0 ≡ get_or before r 0

-- of rows that are s apart, different ones have different places
apart : (s i j k : ℕ) → 0 < s → j ≢ k → i + j * s ≢ i + k * s
apart s i j k some other is = other (sym (number j) ∙ ap (λ (x : ℕ). (x + 0) / s) same ∙ number k)
  where
    number : (x : ℕ) → (x * s + 0) / s ≡ x
    number x = div-mul-add x s 0 some

    same : j * s ≡ k * s
    same = omega arith

-- interleaving rows k and m of a group by blocks of d lanes raises both from rounds below d to rounds below 2 d
pub pair_step : (width q s i d e k m : ℕ) (old before mid now levels : List ℕ) → 0 < s → 0 < d → width ≡ q * (2 * d) → e ≡ 2 * d
    → k < length levels → m < length levels → i + k * s + d ≡ i + m * s → (i + k * s) / d % 2 ≡ 0
    → get_or levels k 0 ≡ d → get_or levels m 0 ≡ d
    → IsPairInterleaved width d (i + k * s) mid now → AreAt width s i old before mid levels
    → AreAt width s i old before now (set (set levels k e) m e)
pair_step width q s i d e k m old before mid now levels step some is double in_k in_m next even level_k level_m pair so_far = record {
  at = λ j less. cases j (inside j less) (cases_eq j m) (cases_eq j k);
  others = λ r out.
      pair.others r (out k (outside k in_k)) (λ here. out m (outside m in_m) (here ∙ next))
      ∙ so_far.others r (λ j less. out j (outside j less));
}
  where
    long : length (set (set levels k e) m e) ≡ length levels
    long = length-set (set levels k e) m e ∙ length-set levels k e

    inside : (j : ℕ) → j < length (set (set levels k e) m e) → j < length levels
    inside j less = subst (λ (z : ℕ). j < z) long less

    outside : (j : ℕ) → j < length levels → j < length (set (set levels k e) m e)
    outside j less = subst (λ (z : ℕ). j < z) (sym long) less

    different : k ≢ m
    different is_same = let same : k * s ≡ m * s = ap (λ (x : ℕ). x * s) is_same in absurd (omega arith)

    upper : IsMixed width d old (i + k * s) (get_or mid (i + k * s) 0)
    upper = subst (λ (l : ℕ). IsMixed width l old (i + k * s) (get_or mid (i + k * s) 0)) level_k (so_far.at k in_k)

    lower : IsMixed width d old (i + k * s + d) (get_or mid (i + k * s + d) 0)
    lower =
        subst (λ (n : ℕ). IsMixed width d old n (get_or mid n 0)) (sym next)
        (subst (λ (l : ℕ). IsMixed width l old (i + m * s) (get_or mid (i + m * s) 0)) level_m (so_far.at m in_m))

    first : IsMixed width (2 * d) old (i + k * s) (get_or now (i + k * s) 0)
    first = upper_mixed width d (i + k * s) _ _ _ old some even upper lower pair.first

    second : IsMixed width (2 * d) old (i + m * s) (get_or now (i + m * s) 0)
    second =
        subst (λ (n : ℕ). IsMixed width (2 * d) old n (get_or now n 0)) next
        (lower_mixed width q d (i + k * s) _ _ _ old some is even upper lower pair.second)

    level : (j l : ℕ) → get_or (set (set levels k e) m e) j 0 ≡ l → IsMixed width l old (i + j * s) (get_or now (i + j * s) 0)
        → IsMixed width (get_or (set (set levels k e) m e) j 0) old (i + j * s) (get_or now (i + j * s) 0)
    level j l is_l there = subst (λ (z : ℕ). IsMixed width z old (i + j * s) (get_or now (i + j * s) 0)) (sym is_l) there

    at_m : get_or (set (set levels k e) m e) m 0 ≡ 2 * d
    at_m = get_or-set_same (set levels k e) m e 0 (subst (λ (z : ℕ). m < z) (sym (length-set levels k e)) in_m) ∙ double

    at_k : get_or (set (set levels k e) m e) k 0 ≡ 2 * d
    at_k = get_or-set_other (set levels k e) m k e 0 different ∙ get_or-set_same levels k e 0 in_k ∙ double

    cases : (j : ℕ) → j < length levels → (j ≡ m) ⊎ (j ≢ m) → (j ≡ k) ⊎ (j ≢ k)
        → IsMixed width (get_or (set (set levels k e) m e) j 0) old (i + j * s) (get_or now (i + j * s) 0)
    cases j less (inl here) other =
        subst (λ (x : ℕ). IsMixed width (get_or (set (set levels k e) m e) x 0) old (i + x * s) (get_or now (i + x * s) 0)) (sym here)
        (level m (2 * d) at_m second)
    cases j less (inr not_m) (inl here) =
        subst (λ (x : ℕ). IsMixed width (get_or (set (set levels k e) m e) x 0) old (i + x * s) (get_or now (i + x * s) 0)) (sym here)
        (level k (2 * d) at_k first)
    cases j less (inr not_m) (inr not_k) =
        level j (get_or levels j 0) (get_or-set_other (set levels k e) m j e 0 not_m ∙ get_or-set_other levels k j e 0 not_k)
        (subst (IsMixed width (get_or levels j 0) old (i + j * s))
        (sym (pair.others (i + j * s) (apart s i j k step not_k) (λ there. apart s i j m step not_m (there ∙ next))))
        (so_far.at j less))

-- ---- the upper rows of the pairs among them

-- the first d rows of a pair of blocks of d rows lie in an even block
upper_block : (d c i : ℕ) → c * (2 * d) ≤ i → i < c * (2 * d) + d → i / d % 2 ≡ 0
upper_block d c i low high =
    let twofold = mul_assoc c 2 d in
    let here : i ≡ c * 2 * d + (i - c * (2 * d)) = omega arith in
    let block : i / d ≡ c * 2 = ap (λ (x : ℕ). x / d) here ∙ div-mul-add (c * 2) d (i - c * (2 * d)) (omega arith) in
    omega (arith, block)

-- t is n times 2 * d, and row k of those that are s apart lies in the upper half of pair number j of blocks of d rows
pub upper_row : (s t i d n j k : ℕ) → 0 < s → first_row s t i ≡ i → t ≡ n * (2 * d) → j * (2 * d) ≤ k * s → k * s + s ≤ j * (2 * d) + d
    → (i + k * s) / d % 2 ≡ 0
upper_row s t i d n j k some first is low high =
    let below : i % s < s = mod-lt i some in
    let spread = add-mul (i / t * n) j (2 * d) in
    let assoc = mul_assoc (i / t) n (2 * d) in
    let whole : i / t * t ≡ i / t * (n * (2 * d)) = ap (λ (x : ℕ). i / t * x) is in
    upper_block d (i / t * n + j) (i + k * s) (omega (arith, spread, assoc, whole, first, low)) (omega (arith, spread, assoc, whole, first, below, high))

-- ---- the rows that belong together

module _ (s t count : ℕ) (some : 0 < s) (is : t ≡ count * s) where
  -- the first of them is that of each
  first_of : (i k : ℕ) → first_row s t i ≡ i → k < count → first_row s t (i + k * s) ≡ i
  first_of i k first less =
      let low : i % s < s = mod-lt i some in
      let more = mul-le (k + 1) s count s (omega arith) (omega arith) in
      let spread = add-mul k 1 s in
      let inside : k * s + i % s < t = omega (arith, more, spread, is) in
      let split = add-mul (i / t * count) k s in
      let assoc = mul_assoc (i / t) count s in
      let whole : i / t * t ≡ i / t * (count * s) = ap (λ (x : ℕ). i / t * x) is in
      let here : i + k * s ≡ i / t * t + (k * s + i % s) = omega (arith, first) in
      let there : i + k * s ≡ (i / t * count + k) * s + i % s = omega (arith, first, split, assoc, whole) in
      let quotient : (i + k * s) / t ≡ i / t = ap (λ (x : ℕ). x / t) here ∙ div-mul-add (i / t) t (k * s + i % s) inside in
      let remainder : (i + k * s) % s ≡ i % s = ap (λ (x : ℕ). x % s) there ∙ mod-mul-add (i / t * count + k) s (i % s) low in
      ap₂ (λ (x y : ℕ). x * t + y) quotient remainder ∙ first

  -- each of them is some times s below the first
  below_first : (r : ℕ) → 0 < count → (k : ℕ) × (k < count) × (r ≡ first_row s t r + k * s)
  below_first r any = (r % t / s, div_below (r % t) s count some (subst (λ (x : ℕ). r % t < x) is (mod-lt r full)), there)
    where
      full : 0 < t
      full = let more = mul-le 1 s count s any (omega arith) in omega (arith, more, is)

      there : r ≡ first_row s t r + r % t / s * s
      there =
          let whole = div-add-mod' r t in
          let part = div-add-mod' (r % t) s in
          let low : r % t % s < s = mod-lt (r % t) some in
          let split = add-mul (r / t * count) (r % t / s) s in
          let assoc = mul_assoc (r / t) count s in
          let turned : r / t * t ≡ r / t * (count * s) = ap (λ (x : ℕ). r / t * x) is in
          let place : r ≡ (r / t * count + r % t / s) * s + r % t % s = omega (arith, whole, part, split, assoc, turned) in
          let same : r % s ≡ r % t % s = ap (λ (x : ℕ). x % s) place ∙ mod-mul-add (r / t * count + r % t / s) s (r % t % s) low in
          omega (arith, whole, part, same)

  -- each of the first s rows of a group is the first row of those that belong to it
  pub group_first : (c i : ℕ) → 0 < count → c * t ≤ i → i < c * t + s → first_row s t i ≡ i
  group_first c i any low high =
      let more = mul-le 1 s count s any (omega arith) in
      let here : i ≡ c * t + (i - c * t) = omega arith in
      let assoc = mul_assoc c count s in
      let whole : c * t ≡ c * (count * s) = ap (λ (x : ℕ). c * x) is in
      let there : i ≡ c * count * s + (i - c * t) = omega (arith, assoc, whole) in
      let quotient : i / t ≡ c = ap (λ (x : ℕ). x / t) here ∙ div-mul-add c t (i - c * t) (omega (arith, more, is)) in
      let remainder : i % s ≡ i - c * t = ap (λ (x : ℕ). x % s) there ∙ mod-mul-add (c * count) s (i - c * t) (omega arith) in
      let turned : i / t * t ≡ c * t = ap (λ (x : ℕ). x * t) quotient in
      omega (arith, turned, remainder)

  -- ---- a pass over all rows

  -- a pass begins with no row done
  pub pass_begins : (width : ℕ) (old now : List ℕ) → AreMixed width s old now → IsPassTo width s t 0 old now
  pass_begins width old now so_far = record {
    done = λ r less below. absurd (omega arith);
    left = λ r less more. so_far r less;
  }

  -- .. and so begins a pass that goes by groups
  pub pass_none : (width : ℕ) (old now : List ℕ) → AreMixed width s old now → IsPassTo width s t (0 * t) old now
  pass_none width old now so_far =
      subst (λ (n : ℕ). IsPassTo width s t n old now) (sym (zero-mul t)) (pass_begins width old now so_far)

  -- a pass over all rows is done: rows mixed below s are mixed below t
  pub pass_ends : (width n : ℕ) (old now : List ℕ) → 0 < count → n ≡ width → IsPassTo width s t n old now → AreMixed width t old now
  pass_ends width n old now any whole so_far r less =
      let place = (below_first r any).2 in so_far.done r less (omega (arith, place, whole))

  -- a pass goes by the rows whose first row is above them
  pub group_passes : (width c n : ℕ) (old now : List ℕ) → 0 < count → n ≡ c * t + s → IsPassTo width s t n old now → IsPassTo width s t ((c + 1) * t) old now
  group_passes width c n old now any at so_far = record {
    done = λ r less below. so_far.done r less (not_above r below);
    left = λ r less more.
        let full = mul-le 1 s count s any (omega arith) in
        let spread = add-mul c 1 t in
        so_far.left r less (omega (arith, full, spread, is, at, more));
  }
    where
      not_above : (r : ℕ) → first_row s t r < (c + 1) * t → first_row s t r < n
      not_above r below = cases (cases_lt c (r / t))
        where
          cases : (c < r / t) ⊎ (r / t ≤ c) → first_row s t r < n
          cases (inl more) = let up = mul-le (c + 1) t (r / t) t (omega arith) (omega arith) in absurd (omega (arith, up, below))
          cases (inr less) =
              let up = mul-le (r / t) t c t less (omega arith) in
              let low : r % s < s = mod-lt r some in
              omega (arith, up, low, at)

  -- a group of rows begins with each of them at level s
  pub rows_begin : (width i : ℕ) (old before : List ℕ) → first_row s t i ≡ i → (k : ℕ) × (k + 1 ≡ count) × (i + k * s < width)
      → IsPassTo width s t i old before → AreAt width s i old before before (replicate count s)
  rows_begin width i old before first room so_far = record {
    at = λ k less. here k (subst (λ (z : ℕ). k < z) (length-replicate count s) less);
    others = λ r out. refl;
  }
    where
      here : (k : ℕ) → k < count → IsMixed width (get_or (replicate count s) k 0) old (i + k * s) (get_or before (i + k * s) 0)
      here k less =
          let up = mul-le k s room.0 s (omega (arith, room.1)) (omega arith) in
          let is_first = first_of i k first less in
          subst (λ (l : ℕ). IsMixed width l old (i + k * s) (get_or before (i + k * s) 0)) (sym (get_or-replicate count k s 0 less))
          (so_far.left (i + k * s) (omega (arith, up, room.2)) (omega (arith, is_first)))

  -- a group of rows at level t ends its part of a pass, which goes on from i to i + 1
  pub rows_end : (width i : ℕ) (old before now levels : List ℕ) → first_row s t i ≡ i → 0 < count → levels ≡ replicate count t
      → AreAt width s i old before now levels → IsPassTo width s t i old before → IsPassTo width s t (i + 1) old now
  rows_end width i old before now levels first any all rows so_far = record {
    done = λ r less below. cases r less below (cases_eq (first_row s t r) i);
    left = λ r less more.
        subst (IsMixed width s old r) (sym (kept r (λ is_first. absurd (omega (arith, is_first, more))))) (so_far.left r less (omega arith));
  }
    where
      long : length levels ≡ count
      long = ap length all ∙ length-replicate count t

      kept : (r : ℕ) → first_row s t r ≢ i → get_or now r 0 ≡ get_or before r 0
      kept r other =
          rows.others r (λ k less here.
          other (ap (first_row s t) here ∙ first_of i k first (subst (λ (z : ℕ). k < z) long less)))

      reached : (k : ℕ) → k < count → IsMixed width t old (i + k * s) (get_or now (i + k * s) 0)
      reached k less =
          subst (λ (l : ℕ). IsMixed width l old (i + k * s) (get_or now (i + k * s) 0))
          (ap (λ (z : List ℕ). get_or z k 0) all ∙ get_or-replicate count k t 0 less)
          (rows.at k (subst (λ (z : ℕ). k < z) (sym long) less))

      cases : (r : ℕ) → r < width → first_row s t r < i + 1 → (first_row s t r ≡ i) ⊎ (first_row s t r ≢ i) → IsMixed width t old r (get_or now r 0)
      cases r less below (inl is_first) =
          let found = below_first r any in
          let here : i + found.0 * s ≡ r = omega (arith, found.2, is_first) in
          subst (λ (z : ℕ). IsMixed width t old z (get_or now z 0)) here (reached found.0 found.1)
      cases r less below (inr other) =
          let lower : first_row s t r < i = grind arith in
          subst (IsMixed width t old r) (sym (kept r other)) (so_far.done r less lower)

-- ---- the lengths of blocks

-- twice a block size below half of the width is a block size
doubled : (width s : ℕ) → IsBlockSize width s → 2 * s < width → IsBlockSize width (2 * s)
doubled width s size less =
    let turned : 2 * s ≡ s * 2 = omega arith in
    (size.0 + 1, turned ∙ ap (λ (x : ℕ). x * 2) size.1 ∙ sym (pow-add 2 size.0 1), less)

-- twice the size of the first of three rounds is a block size
pub twofold_size : (width s i : ℕ) → IsBlockSize width s → i + 7 * s < width → IsBlockSize width (2 * s)
twofold_size width s i size inside = doubled width s size (omega arith)

-- four times the size of the first of three rounds is a block size
pub fourfold_size : (width s i : ℕ) → IsBlockSize width s → i + 7 * s < width → IsBlockSize width (4 * s)
fourfold_size width s i size inside =
    let four : 2 * (2 * s) ≡ 4 * s = omega arith in
    subst (IsBlockSize width) four (doubled width (2 * s) (doubled width s size (omega arith)) (omega arith))

-- four times a block size is one where eight times it is at most the width
pub fourfold_inside : (width s : ℕ) → IsBlockSize width s → 8 * s ≤ width → IsBlockSize width (4 * s)
fourfold_inside width s size fits =
    let some : 0 < s = subst (λ (x : ℕ). 0 < x) (sym size.1) (pow_pos size.0) in
    fourfold_size width s 0 size (omega arith)

-- q times 2 * (4 * s) is q times 8 * s
pub eightfold_fits : (width q s : ℕ) → width ≡ q * (2 * (4 * s)) → width ≡ q * (8 * s)
eightfold_fits width q s is =
    let eight : 2 * (4 * s) ≡ 8 * s = omega arith in
    is ∙ ap (λ (x : ℕ). q * x) eight

-- two rows are some, and so are eight
pub count_some : (n : ℕ) → IsRowCount n → 0 < n
count_some n count = grind (arith, count)

-- a count that is not two is eight
pub count_eight : (n : ℕ) → IsRowCount n → n ≢ 2 → n ≡ 8
count_eight n (inl two) other = absurd (other two)
count_eight n (inr eight) other = eight

-- a row is a whole number of as many blocks as are combined, where it is no shorter
pub blocks_divide : (width log s n rows : ℕ) → width ≡ 2 ^ log → AreRounds width n s rows → (q : ℕ) × (width ≡ q * (n * s))
blocks_divide width log s n rows power (size, inl two, fits, square) =
    let halves = block_divides width log s power size in (halves.0, halves.1 ∙ ap (λ (x : ℕ). halves.0 * (x * s)) (sym two))
blocks_divide width log s n rows power (size, inr eight, fits, square) =
    let four = fourfold_inside width s size (subst (λ (x : ℕ). x * s ≤ width) eight fits) in
    let halves = block_divides width log (4 * s) power four in
    (halves.0, eightfold_fits width halves.0 s halves.1 ∙ ap (λ (x : ℕ). halves.0 * (x * s)) (sym eight))

-- an interleaved pair of rows, with its place rewritten
pub place_is : (width d m : ℕ) {n : ℕ} {before after : List ℕ} → n ≡ m → IsPairInterleaved width d n before after → IsPairInterleaved width d m before after
place_is width d m {n} {before} {after} is pair = subst (λ (x : ℕ). IsPairInterleaved width d x before after) is pair

-- ---- two rows, one round

-- one interleaved pair of rows takes a pass of a single round from i to i + 1
pub pair_done : (width q s i : ℕ) (old before now : List ℕ) → 0 < s → width ≡ q * (2 * s) → first_row s (2 * s) i ≡ i → i + s < width
    → IsPairInterleaved width s i before now → IsPassTo width s (2 * s) i old before → IsPassTo width s (2 * s) (i + 1) old now
pair_done width q s i old before now some is first inside pair so_far =
    let none : i ≡ i + 0 * s = omega arith in
    rows_end s (2 * s) 2 some refl width i old before now (set (set (replicate 2 s) 0 (2 * s)) 1 (2 * s)) first (lit< tt) refl
    (pair_step width q s i s (2 * s) 0 1 old before before now (replicate 2 s) some some is refl (lit< tt) (lit< tt) (omega arith)
    (upper_row s (2 * s) i s 1 0 0 some first (omega arith) (omega arith) (omega arith)) refl refl
    (subst (λ (n : ℕ). IsPairInterleaved width s n before now) none pair)
    (rows_begin s (2 * s) 2 some refl width i old before first (1, refl, omega arith) so_far))
    so_far

-- a pass that combines m rows combines n, which is the same count
pub pass_by : (width s i n m : ℕ) (before after : List ℕ) → n ≡ m → PassGoesOn width s (m * s) i (i + 1) before after
    → PassGoesOn width s (n * s) i (i + 1) before after
pass_by width s i n m before after is goes = subst (λ (x : ℕ). PassGoesOn width s (x * s) i (i + 1) before after) (sym is) goes

-- one interleaved pair takes a pass that combines two rows from i to i + 1
pub two_done : (width log s i n : ℕ) (before now : List ℕ) → width ≡ 2 ^ log → IsBlockSize width s → n ≡ 2 → first_row s (n * s) i ≡ i
    → i + n * s < width + s → IsPairInterleaved width s i before now → PassGoesOn width s (n * s) i (i + 1) before now
two_done width log s i n before now power size two first inside pair =
    let halves = block_divides width log s power size in
    let first_of_two : first_row s (2 * s) i ≡ i = subst (λ (x : ℕ). first_row s (x * s) i ≡ i) two first in
    let within : i + 2 * s < width + s = subst (λ (x : ℕ). i + x * s < width + s) two inside in
    pass_by width s i n 2 before now two (λ old so_far.
    pair_done width halves.0 s i old before now (block_some width s size) halves.1 first_of_two (omega (arith, within)) pair so_far)

-- ---- groups of rows

-- a group of t rows lies within the width
pub groups_fill : (width t c : ℕ) → c < width / t → c * t + t ≤ width
groups_fill width t c less =
    let whole = div-add-mod' width t in
    let up = mul-le (c + 1) t (width / t) t (omega arith) (omega arith) in
    let spread = add-mul c 1 t in
    omega (arith, whole, up, spread)

-- the groups of t rows fill the width
pub groups_are : (width q t c : ℕ) → 0 < t → width ≡ q * t → c ≡ width / t → c * t ≡ width
groups_are width q t c some is all =
    let none : q * t + 0 ≡ q * t = omega arith in
    let count : width / t ≡ q = ap (λ (x : ℕ). x / t) (is ∙ sym none) ∙ div-mul-add q t 0 some in
    ap (λ (x : ℕ). x * t) (all ∙ count) ∙ sym is

-- a pass by all groups is a pass over all rows
pub groups_end : (s count width q : ℕ) {bits c : ℕ} (old now : List ℕ) → 0 < s → 0 < count → width ≡ q * (count * s) → bits ≡ width
    → c ≡ bits / (count * s) → IsPassTo width s (count * s) (c * (count * s)) old now → AreMixed width (count * s) old now
groups_end s count width q {bits} {c} old now some any is row all so_far =
    let more = mul-le 1 s count s any (omega arith) in
    let last : c ≡ width / (count * s) = all ∙ ap (λ (x : ℕ). x / (count * s)) row in
    pass_ends s (count * s) count some refl width (c * (count * s)) old now any
    (groups_are width q (count * s) c (omega (arith, some, more)) is last) so_far

-- ---- all rounds

-- rows before any round
pub nothing_mixed : (width : ℕ) (rows : List ℕ) → AreMixed width 1 rows rows
nothing_mixed width rows i row j lane = ap₂ (λ (x y : ℕ). bit_at (get_or rows x 0) y) (sym (one i j)) (sym (one j i))
  where
    one : (a b : ℕ) → mixed 1 a b ≡ a
    one a b = let whole = div-one a in let none : b % 1 < 1 = mod-lt b (lit< tt) in omega arith

-- rows mixed below the width are transposed
pub all_mixed : (width s : ℕ) (old now : List ℕ) → s ≡ width → AreMixed width s old now → AreTransposed width old now
all_mixed width s old now all so_far i j row lane =
    subst (λ (z : ℕ). AreMixed width z old now) all so_far i row j lane
    ∙ ap₂ (λ (x y : ℕ). bit_at (get_or old x 0) y) (whole i j row lane) (whole j i lane row)
  where
    whole : (a b : ℕ) → a < width → b < width → mixed width a b ≡ b
    whole a b first second =
        let none : a / width * width ≡ 0 * width = ap (λ (x : ℕ). x * width) (div-eq_of_lt first) in
        let all_of_it : b % width ≡ b = mod-eq_of_lt second in
        omega arith

-- rounds that begin at blocks of t lanes are rounds that begin at s, which is the same length
pub rounds_from : (width times s t : ℕ) (before now : List ℕ) → s ≡ t
    → ((old : List ℕ) → AreMixed width t old before → AreMixed width (times * t) old now)
    → (old : List ℕ) → AreMixed width s old before → AreMixed width (times * s) old now
rounds_from width times s t before now is rounds =
    subst (λ (z : ℕ). (old : List ℕ) → AreMixed width z old before → AreMixed width (times * z) old now) (sym is) rounds

-- rows mixed below s are mixed below t = s
pub same_length : (width s t : ℕ) (old now : List ℕ) → s ≡ t → AreMixed width s old now → AreMixed width t old now
same_length width s t old now is = subst (λ (z : ℕ). AreMixed width z old now) is

-- twice a proper block is at most the width
double_fits : (width q s : ℕ) → width ≡ q * (2 * s) → s < width → s * 2 ≤ width
double_fits width zero s is less = absurd (omega arith)
double_fits width (suc q) s is less = let more = mul-le 1 (2 * s) (suc q) (2 * s) (omega arith) (omega arith) in omega (arith, more, is)

-- twice a block size is at most a width that is a power of two
pub double_inside : (width log s : ℕ) → width ≡ 2 ^ log → IsBlockSize width s → 2 * s ≤ width
double_inside width log s power size =
    let halves = block_divides width log s power size in
    let fits = double_fits width halves.0 s halves.1 size.2 in omega (arith, fits)
