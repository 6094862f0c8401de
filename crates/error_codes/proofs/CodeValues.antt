-- Values of words at the roots of a code, by Horner's rule, and that they are the syndromes of a code by checks.
use Rattle.std.proofs.Common.{◌≡◌, ◌≢◌, ◌⊎◌, inl, inr, ℕ, zero, suc, ◌+◌, ◌-◌, ◌^◌, ◌<◌, ◌≤◌, List, ◌++◌, length, set, take, drop, map}
use Rattle.std.proofs.Common.{replicate}
use Rattle.std.proofs.Common.{refl, sym, ◌∙◌, ap, ap₂, arith, below_more}
use Rattle.std.specs.Prelude.{bit_xor, slice_index}
use Rattle.std.proofs.lemmas.List.{get_or-replicate, get_or-set_other, get_or-set_same, get_or_past, length-replicate}
use Rattle.std.proofs.lemmas.List.{get_or-map, get_or-take, get_or_append_left, length-map, length-set, length-take-le}
use Rattle.std.proofs.lemmas.Bool.{cases_lt}
use Rattle.std.proofs.lemmas.Nat.{pow_below, pow_pos, xor_lt}
use lib.Bits.{xor_assoc, xor_zero_r}
use Rattle.field_base.specs.Basis.{sum_below}
use Rattle.field_base.specs.Field.{IsField}
use Rattle.field_base.specs.Powers.{power}
use Rattle.field_base.proofs.RingLemmas.{sum_times}
use Rattle.field_base.proofs.PowerLemmas.{one-times, power-add, power-lt, times-one}
use Rattle.error_codes.specs.Checks.{AreScaled, syndrome}
use Rattle.error_codes.specs.Correcting.{HasOrder, code_value}
use Rattle.error_codes.specs.Generators.{power_point, power_scale}
use Rattle.error_codes.proofs.Decoding.{cancelled}
use Rattle.error_codes.proofs.Generators.{power-nonzero, powers_are_scaled, powers-join}
use Rattle.error_codes.proofs.Moments.{sum-same, sum-times}

-- an entry more of a list that is written from its first place on
pub entry-more : (value : ℕ → ℕ) (room i entry : ℕ) (row : List ℕ)
    → (length row ≡ room) × ((n : ℕ) → n < i → slice_index row n ≡ value n) → i < room → entry ≡ value i
    → (length (set row i entry) ≡ room) × ((n : ℕ) → n < i + 1 → slice_index (set row i entry) n ≡ value n)
entry-more value room i entry row before inside is =
    let long = before.0 in (
      length-set row i entry ∙ long,
      below_more (λ n. slice_index (set row i entry) n ≡ value n) i
          (λ n below. get_or-set_other row i n entry 0 (λ e. absurd (omega (arith, e, below))) ∙ before.1 n below)
          (get_or-set_same row i entry 0 (omega (arith, long, inside)) ∙ is),
    )

-- an array of zeros
pub zeros-at : (n i : ℕ) → slice_index (replicate {A = ℕ} n 0) i ≡ 0
zeros-at n i =
    elim (cases_lt i n) [
      | inl below ↦ get_or-replicate n i 0 0 below
      | inr past ↦ get_or_past (replicate {A = ℕ} n 0) i 0 (let long = length-replicate {A = ℕ} n 0 in
          omega (arith, long, past))
    ]

-- the same from the second place on
pub next-entry : (room j entry first : ℕ) (value : ℕ → ℕ) (row : List ℕ) → 0 < j → j < room
    → (length row ≡ room) × (slice_index row 0 ≡ first) × ((n : ℕ) → n + 1 < j → slice_index row (n + 1) ≡ value n)
    → ((n : ℕ) → n + 1 ≡ j → entry ≡ value n)
    → (length (set row j entry) ≡ room) × (slice_index (set row j entry) 0 ≡ first)
    × ((n : ℕ) → n + 1 < j + 1 → slice_index (set row j entry) (n + 1) ≡ value n)
next-entry room j entry first value row some inside before is =
    let long = before.0 in (
      length-set row j entry ∙ long,
      get_or-set_other row j 0 entry 0 (λ e. absurd (omega (arith, e, some))) ∙ before.1,
      λ n below. pick n below (cases_lt (n + 1) j),
    )
  where
    pick : (n : ℕ) → n + 1 < j + 1 → (n + 1 < j) ⊎ (j ≤ n + 1) → slice_index (set row j entry) (n + 1) ≡ value n
    pick n below (inl less) =
        get_or-set_other row j (n + 1) entry 0 (λ e. absurd (omega (arith, e, less))) ∙ before.2 n less
    pick n below (inr most) =
        let here : n + 1 ≡ j = omega (arith, below, most) in
        ap (slice_index (set row j entry)) here
        ∙ get_or-set_same row j entry 0 (let long = before.0 in omega (arith, long, inside)) ∙ is n here

-- an entry more of a list that is written over another
pub entry-over : (j entry : ℕ) (value : ℕ → ℕ) (row initial : List ℕ) → j < length row → entry ≡ value j
    → ((n : ℕ) → n < j → slice_index row n ≡ value n) × ((n : ℕ) → j ≤ n → slice_index row n ≡ slice_index initial n)
    → ((n : ℕ) → n < j + 1 → slice_index (set row j entry) n ≡ value n)
    × ((n : ℕ) → j + 1 ≤ n → slice_index (set row j entry) n ≡ slice_index initial n)
entry-over j entry value row initial inside is before = (
  below_more (λ n. slice_index (set row j entry) n ≡ value n) j
      (λ n below. get_or-set_other row j n entry 0 (λ e. absurd (omega (arith, e, below))) ∙ before.0 n below)
      (get_or-set_same row j entry 0 inside ∙ is),
  λ n above. get_or-set_other row j n entry 0 (λ e. absurd (omega (arith, e, above)))
      ∙ before.1 n (omega (arith, above)),
)

-- an entry more of a list that is written from its last place on
pub entry-before : (value : ℕ → ℕ) (room count i entry : ℕ) (row : List ℕ) → count ≤ room → i < count → entry ≡ value (count - 1 - i)
    → (length row ≡ room) × ((n : ℕ) → count ≤ n + i → n < count → slice_index row n ≡ value n)
    → (length (set row (count - 1 - i) entry) ≡ room)
    × ((n : ℕ) → count ≤ n + (i + 1) → n < count → slice_index (set row (count - 1 - i) entry) n ≡ value n)
entry-before value room count i entry row inside below is before =
    let long = before.0 in (
      length-set row (count - 1 - i) entry ∙ long,
      λ n above within. pick n above within (cases_lt (n + i) count),
    )
  where
    pick : (n : ℕ) → count ≤ n + (i + 1) → n < count → (n + i < count) ⊎ (count ≤ n + i)
        → slice_index (set row (count - 1 - i) entry) n ≡ value n
    pick n above within (inl less) =
        let here : count - 1 - i ≡ n = omega (arith, above, less, below) in
        let long = before.0 in
        ap (slice_index (set row (count - 1 - i) entry)) (sym here)
        ∙ get_or-set_same row (count - 1 - i) entry 0 (omega (arith, long, inside, below)) ∙ is ∙ ap value here
    pick n above within (inr more) =
        get_or-set_other row (count - 1 - i) n entry 0 (λ e. absurd (omega (arith, e, more, below))) ∙ before.1 n more within

-- powers one after the other
pub next-power : (times : ℕ → ℕ → ℕ) (a n next product : ℕ) → next ≡ power 1 times a n → product ≡ times next a
    → product ≡ power 1 times a (n + 1)
unfolding power
next-power times a n next product next_is product_is =
    product_is ∙ ap (λ (v : ℕ). times v a) next_is ∙ ap (power 1 times a) more
  where
    more : suc n ≡ n + 1
    more = omega arith

pub next-product : (width : ℕ) (times : ℕ → ℕ → ℕ) → IsField width times → (f a n next product : ℕ)
    → next ≡ times f (power 1 times a n) → product ≡ times next a → product ≡ times f (power 1 times a (n + 1))
next-product width times field f a n next product next_is product_is =
    product_is ∙ ap (λ (v : ℕ). times v a) next_is ∙ field.ring.assoc f (power 1 times a n) a
    ∙ ap (times f) (next-power times a n (power 1 times a n) (times (power 1 times a n) a) refl refl)

-- an entry of a front that is mapped
pub front-mapped : (f : ℕ → ℕ) (k : ℕ) (xs mapped : List ℕ) (i : ℕ) → k ≤ length xs → i < k → mapped ≡ map f (take k xs)
    → slice_index (mapped ++ drop k xs) i ≡ f (slice_index xs i)
front-mapped f k xs mapped i inside below is =
    get_or_append_left mapped (drop k xs) 0 i (omega (arith, below, long))
    ∙ ap (λ (l : List ℕ). slice_index l i) is ∙ get_or-map f (take k xs) i 0 0 (omega (arith, below, front))
    ∙ ap f (get_or-take k xs i 0 below)
  where
    front : length (take k xs) ≡ k
    front = length-take-le k xs inside

    long : length mapped ≡ k
    long = ap (λ (l : List ℕ). length l) is ∙ length-map (take k xs) f ∙ front

-- an entry more behind the first k
pub entry-behind : (k j entry : ℕ) (row initial rest : List ℕ) → k + j < length row → entry ≡ slice_index rest j
    → (length row ≡ length initial) × ((i : ℕ) → i < k → slice_index row i ≡ slice_index initial i)
    × ((n : ℕ) → n < j → slice_index row (k + n) ≡ slice_index rest n)
    → (length (set row (k + j) entry) ≡ length initial)
    × ((i : ℕ) → i < k → slice_index (set row (k + j) entry) i ≡ slice_index initial i)
    × ((n : ℕ) → n < j + 1 → slice_index (set row (k + j) entry) (k + n) ≡ slice_index rest n)
entry-behind k j entry row initial rest inside is before = (
  length-set row (k + j) entry ∙ before.0,
  λ i below. get_or-set_other row (k + j) i entry 0 (λ e. absurd (omega (arith, e, below))) ∙ before.1 i below,
  below_more (λ n. slice_index (set row (k + j) entry) (k + n) ≡ slice_index rest n) j
      (λ n below. get_or-set_other row (k + j) (k + n) entry 0 (λ e. absurd (omega (arith, e, below)))
      ∙ before.2 n below)
      (get_or-set_same row (k + j) entry 0 inside ∙ is),
)

module _ (width : ℕ) (times : ℕ → ℕ → ℕ) (wide : 0 < width) (field : IsField width times) where
  one_fits : 1 < 2 ^ width
  one_fits = pow_below 0 width wide

  pub value-lt : (n : ℕ) (word : ℕ → ℕ) (x : ℕ) → code_value times n word x < 2 ^ width
  unfolding sum_below
  value-lt n word x = sum-lt (λ i. times (word i) (power 1 times x (n - 1 - i)))
      (λ i. field.ring.below (word i) (power 1 times x (n - 1 - i))) n
    where
      sum-lt : (f : ℕ → ℕ) → ((i : ℕ) → f i < 2 ^ width) → (n : ℕ) → sum_below f n < 2 ^ width
      sum-lt f each zero = pow_pos width
      sum-lt f each (suc n) = xor_lt width (sum_below f n) (f n) (sum-lt f each n) (each n)

  -- one coefficient more: the value so far times x, and the coefficient
  pub horner-next : (n : ℕ) (word : ℕ → ℕ) (x : ℕ)
      → code_value times (suc n) word x ≡ bit_xor (times (code_value times n word x) x) (times (word n) 1)
  unfolding sum_below power
  horner-next n word x =
      ap₂ bit_xor
      (sum-same (λ i. times (word i) (power 1 times x (suc n - 1 - i)))
      (λ i. times x (times (word i) (power 1 times x (n - 1 - i)))) n
      (λ i below.
      ap (λ (k : ℕ). times (word i) (power 1 times x k)) (higher i below)
      ∙ sym (field.ring.assoc (word i) (power 1 times x (n - 1 - i)) x)
      ∙ field.ring.comm (times (word i) (power 1 times x (n - 1 - i))) x)
      ∙ sum-times width times wide field x (λ i. times (word i) (power 1 times x (n - 1 - i))) n
      ∙ field.ring.comm x (code_value times n word x))
      (ap (λ (k : ℕ). times (word n) (power 1 times x k)) last)
    where
      higher : (i : ℕ) → i < n → suc n - 1 - i ≡ suc (n - 1 - i)
      higher i below = omega (arith, below)

      last : suc n - 1 - n ≡ 0
      last = omega arith

  -- as the code computes it
  pub horner-more : (n : ℕ) (word : ℕ → ℕ) (x value product symbol : ℕ) → symbol < 2 ^ width
      → value ≡ code_value times n word x → product ≡ times value x → symbol ≡ word n
      → bit_xor product symbol ≡ code_value times (n + 1) word x
  horner-more n word x value product symbol fits value_is product_is symbol_is =
      ap₂ bit_xor (product_is ∙ ap (λ (v : ℕ). times v x) value_is)
      (sym (times-one width 1 times field.ring symbol fits) ∙ ap (λ (v : ℕ). times v 1) symbol_is)
      ∙ sym (horner-next n word x) ∙ ap (λ (k : ℕ). code_value times k word x) more
    where
      more : suc n ≡ n + 1
      more = omega arith

  -- the first k coefficients, and the others
  pub value-split : (k n : ℕ) (word : ℕ → ℕ) (x : ℕ)
      → code_value times (k + n) word x
      ≡ bit_xor (times (code_value times k word x) (power 1 times x n)) (code_value times n (λ j. word (k + j)) x)
  unfolding sum_below power
  value-split k zero word x =
      ap (λ (m : ℕ). code_value times m word x) whole
      ∙ sym (times-one width 1 times field.ring (code_value times k word x) (value-lt k word x))
      ∙ sym (xor_zero_r (times (code_value times k word x) 1))
    where
      whole : k + zero ≡ k
      whole = omega arith
  value-split k (suc n) word x =
      ap (λ (m : ℕ). code_value times m word x) next ∙ horner-next (k + n) word x
      ∙ ap (λ (v : ℕ). bit_xor (times v x) (times (word (k + n)) 1)) (value-split k n word x)
      ∙ ap (λ (v : ℕ). bit_xor v (times (word (k + n)) 1))
      (sum_times width 1 times field.ring (times (code_value times k word x) (power 1 times x n))
      (code_value times n rest x) x)
      ∙ xor_assoc (times (times (code_value times k word x) (power 1 times x n)) x)
      (times (code_value times n rest x) x)
      (times (word (k + n)) 1)
      ∙ ap₂ bit_xor (field.ring.assoc (code_value times k word x) (power 1 times x n) x)
      (sym (horner-next n rest x))
    where
      next : k + suc n ≡ suc (k + n)
      next = omega arith

      rest : ℕ → ℕ
      rest j = word (k + j)

  -- the points and scales of the symbols, the last of which has the exponent 0
  pub falling-scaled : (n r b : ℕ) → AreScaled width n (power_point times r) (power_scale times r b)
      → AreScaled width n (λ i. power_point times r (n - 1 - i)) (λ i. power_scale times r b (n - 1 - i))
  falling-scaled n r b scaled = record {
    points = record {
      below = λ i below. scaled.points.below (n - 1 - i) (omega (arith, below));
      differ = λ i j i_below j_below same.
          let equal = scaled.points.differ (n - 1 - i) (n - 1 - j) (omega (arith, i_below))
          (omega (arith, j_below)) same in
          omega (arith, i_below, j_below, equal);
    };
    scales = λ i below. scaled.scales (n - 1 - i) (omega (arith, below));
    nonzero = λ i below. scaled.nonzero (n - 1 - i) (omega (arith, below));
  }

  -- a syndrome is the value at a root
  pub syndrome-value : (n r b m : ℕ) (word : ℕ → ℕ)
      → syndrome times n (λ i. power_point times r (n - 1 - i)) (λ i. power_scale times r b (n - 1 - i)) word m
      ≡ code_value times n word (power 1 times r (b + m))
  syndrome-value n r b m word =
      sum-same (λ i. times (times (power_scale times r b (n - 1 - i)) (word i))
      (power 1 times (power_point times r (n - 1 - i)) m))
      (λ i. times (word i) (power 1 times (power 1 times r (b + m)) (n - 1 - i))) n
      (λ i below.
      ap (λ (z : ℕ). times z (power 1 times (power 1 times r (n - 1 - i)) m))
      (field.ring.comm (power_scale times r b (n - 1 - i)) (word i))
      ∙ field.ring.assoc (word i) (power_scale times r b (n - 1 - i)) (power 1 times (power 1 times r (n - 1 - i)) m)
      ∙ ap (times (word i)) (powers-join width times wide field r b m (n - 1 - i)))

  -- powers below the order differ
  less-differ : (n r : ℕ) → r < 2 ^ width → r ≢ 0 → HasOrder times r n → (i j : ℕ) → i < j → j < n
      → power 1 times r i ≢ power 1 times r j
  less-differ n r fits nonzero order i j less j_below same =
      elim (cancelled width times field (power 1 times r (j - i)) (power 1 times r i) 1
      (power-lt width 1 times field.ring one_fits r (j - i)) (power-lt width 1 times field.ring one_fits r i) one_fits
      (field.ring.comm (power 1 times r (j - i)) (power 1 times r i)
      ∙ sym (power-add width 1 times field.ring one_fits r i (j - i)) ∙ ap (power 1 times r) (whole less) ∙ sym same
      ∙ sym (one-times width 1 times field.ring (power 1 times r i)
      (power-lt width 1 times field.ring one_fits r i)))) [
        | inl one ↦ order (j - i) (omega (arith, less)) (omega (arith, less, j_below)) one
        | inr none ↦ power-nonzero width times wide field r fits nonzero i none
      ]
    where
      whole : i < j → i + (j - i) ≡ j
      whole less = omega (arith, less)

  pub order-scaled : (n r b : ℕ) → r < 2 ^ width → r ≢ 0 → HasOrder times r n
      → AreScaled width n (power_point times r) (power_scale times r b)
  order-scaled n r b fits nonzero order =
      powers_are_scaled width times wide field r b n fits nonzero record {
        below = λ i below. power-lt width 1 times field.ring one_fits r i;
        differ = λ i j i_below j_below same. pick i j i_below j_below same (cases_lt i j) (cases_lt j i);
      }
    where
      pick : (i j : ℕ) → i < n → j < n → power 1 times r i ≡ power 1 times r j → (i < j) ⊎ (j ≤ i) → (j < i) ⊎ (i ≤ j)
          → i ≡ j
      pick i j i_below j_below same (inl less) other = absurd (less-differ n r fits nonzero order i j less j_below same)
      pick i j i_below j_below same (inr most) (inl more) =
          absurd (less-differ n r fits nonzero order j i more i_below (sym same))
      pick i j i_below j_below same (inr most) (inr least) = omega (arith, most, least)

  -- ---- what a code is made of

  -- the roots are powers of one element
  pub root-power : (r b m first value : ℕ) → first ≡ power 1 times r b → value ≡ times first (power 1 times r m)
      → value ≡ power 1 times r (b + m)
  root-power r b m first value first_is value_is =
      value_is ∙ ap (λ (z : ℕ). times z (power 1 times r m)) first_is
      ∙ sym (power-add width 1 times field.ring one_fits r b m)

  -- the syndromes of a word of n symbols
  pub syndrome-read : (n r b m value : ℕ) (word : List ℕ) → length word ≡ n
      → value ≡ code_value times (length word) (slice_index word) (power 1 times r (b + m))
      → value ≡ syndrome times n (λ i. power_point times r (n - 1 - i)) (λ i. power_scale times r b (n - 1 - i))
      (slice_index word) m
  syndrome-read n r b m value word long is =
      is ∙ ap (λ (k : ℕ). code_value times k (slice_index word) (power 1 times r (b + m))) long
      ∙ sym (syndrome-value n r b m (slice_index word))
