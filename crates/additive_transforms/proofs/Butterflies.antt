-- Butterflies of a block whose halves are two slices.
use Rattle.std.proofs.Common.{◌≡◌, ℕ, ◌+◌, ◌<◌, Bool, true, false, List, ◌++◌, length, map, sym, ◌∙◌, ap, ap₂, subst, arith}
use Rattle.std.specs.Prelude.{bit_xor, slice_index, IsTrue}
use Rattle.std.specs.Simd.Lanes.{zip2}
use Rattle.std.proofs.lemmas.Bool.{false≢true}
use Rattle.std.proofs.lemmas.List.{get_or-append-add, get_or_append_left, length-map, map-append}
use Rattle.std.proofs.lemmas.Simd.{get_or-zip2, length-zip2}
use Rattle.ghash_slices.specs.Stages.{add_multiple}
use Rattle.additive_transforms.specs.Stages.{IsButterfly, TakesBlock}
use Rattle.field_base.proofs.RingLemmas.{xor_back}

-- ---- which way

-- where `inverse` is true the inverse butterfly takes the block
pub taken_back : (times : ℕ → ℕ → ℕ) (t half : ℕ) (old new : ℕ → ℕ) (inverse : Bool) → IsTrue inverse → IsButterfly times t half new old
    → TakesBlock inverse times t half old new
taken_back times t half old new true chosen is = is
taken_back times t half old new false chosen is = absurd (false≢true chosen)

-- and else the forward one
pub taken_on : (times : ℕ → ℕ → ℕ) (t half : ℕ) (old new : ℕ → ℕ) (inverse : Bool) → inverse ≡ false → IsButterfly times t half old new
    → TakesBlock inverse times t half old new
taken_on times t half old new false chosen is = is
taken_on times t half old new true chosen is = absurd (false≢true (sym chosen))

-- ---- numbers

module _ (n : ℕ) (xs ys : List ℕ) (long : length xs ≡ n) where
  -- the first n values of two slices one after the other are those of the first
  pub read_lower : (r : ℕ) → r < n → slice_index (xs ++ ys) r ≡ slice_index xs r
  read_lower r below = let within : r < length xs = omega arith in get_or_append_left xs ys 0 r within

  -- and those from n on are those of the second
  pub read_upper : (r : ℕ) → slice_index (xs ++ ys) (n + r) ≡ slice_index ys r
  read_upper r = ap (λ (m : ℕ). slice_index (xs ++ ys) (m + r)) (sym long) ∙ get_or-append-add xs ys r 0

-- place r of a list made place by place
pub read_both : (f : ℕ → ℕ → ℕ) (n : ℕ) (xs ys : List ℕ) → length xs ≡ n → length ys ≡ n → (r : ℕ) → r < n
    → slice_index (zip2 f xs ys) r ≡ f (slice_index xs r) (slice_index ys r)
read_both f n xs ys long long' r below =
    let left : r < length xs = omega arith in
    let right : r < length ys = omega arith in
    get_or-zip2 f xs ys r 0 0 0 left right

module _ (times : ℕ → ℕ → ℕ) (t n : ℕ) (lo hi lo' hi' : List ℕ) (low : length lo ≡ n) (high : length hi ≡ n) where
  -- the forward butterfly of two lists is that of the block that they make
  pub forward_numbers : lo' ≡ zip2 (add_multiple times t) lo hi → hi' ≡ zip2 bit_xor hi lo'
      → IsButterfly times t n (slice_index (lo ++ hi)) (slice_index (lo' ++ hi'))
  forward_numbers low_is high_is =
      record {
        lower =
            λ r below.
            read_lower n lo' hi' low' r below ∙ ap (λ (l : List ℕ). slice_index l r) low_is
            ∙ read_both (add_multiple times t) n lo hi low high r below
            ∙ ap₂ (λ (x y : ℕ). bit_xor x (times t y)) (sym (read_lower n lo hi low r below)) (sym (read_upper n lo hi low r));
        upper =
            λ r below.
            read_upper n lo' hi' low' r ∙ ap (λ (l : List ℕ). slice_index l r) high_is
            ∙ read_both bit_xor n hi lo' high low' r below
            ∙ ap₂ bit_xor (sym (read_upper n lo hi low r)) (sym (read_lower n lo' hi' low' r below));
      }
    where
      low' : length lo' ≡ n
      low' = ap length low_is ∙ length-zip2 (add_multiple times t) lo hi (low ∙ sym high) ∙ low

  -- and so is the inverse one
  pub inverse_numbers : hi' ≡ zip2 bit_xor hi lo → lo' ≡ zip2 (add_multiple times t) lo hi'
      → IsButterfly times t n (slice_index (lo' ++ hi')) (slice_index (lo ++ hi))
  inverse_numbers high_is low_is =
      record {
        lower =
            λ r below.
            read_lower n lo hi low r below
            ∙ sym (ap (λ (x : ℕ). bit_xor x (times t (slice_index hi' r))) (low_read r below)
            ∙ xor_back (slice_index lo r) (times t (slice_index hi' r)))
            ∙ ap₂ (λ (x y : ℕ). bit_xor x (times t y)) (sym (read_lower n lo' hi' low' r below)) (sym (read_upper n lo' hi' low' r));
        upper =
            λ r below.
            read_upper n lo hi low r
            ∙ sym (ap (λ (x : ℕ). bit_xor x (slice_index lo r)) (high_read r below) ∙ xor_back (slice_index hi r) (slice_index lo r))
            ∙ ap₂ bit_xor (sym (read_upper n lo' hi' low' r)) (sym (read_lower n lo hi low r below));
      }
    where
      high' : length hi' ≡ n
      high' = ap length high_is ∙ length-zip2 bit_xor hi lo (high ∙ sym low) ∙ high

      low' : length lo' ≡ n
      low' = ap length low_is ∙ length-zip2 (add_multiple times t) lo hi' (low ∙ sym high') ∙ low

      high_read : (r : ℕ) → r < n → slice_index hi' r ≡ bit_xor (slice_index hi r) (slice_index lo r)
      high_read r below = ap (λ (l : List ℕ). slice_index l r) high_is ∙ read_both bit_xor n hi lo high low r below

      low_read : (r : ℕ) → r < n → slice_index lo' r ≡ bit_xor (slice_index lo r) (times t (slice_index hi' r))
      low_read r below = ap (λ (l : List ℕ). slice_index l r) low_is ∙ read_both (add_multiple times t) n lo hi' low high' r below

-- ---- elements, by their values

module _ {A : Type 0} (value : A → ℕ) (times : ℕ → ℕ → ℕ) (t n : ℕ) (block lo hi lo' hi' : List A) (parts : block ≡ lo ++ hi) (low : length lo ≡ n) (high : length hi ≡ n) where
  -- the lower half has n values
  low_count : length (map value lo) ≡ n
  low_count = length-map lo value ∙ low

  -- and so has the upper half
  high_count : length (map value hi) ≡ n
  high_count = length-map hi value ∙ high

  -- the values of the block are those of its halves
  before : map value block ≡ map value lo ++ map value hi
  before = ap (map value) parts ∙ map-append value lo hi

  -- the forward butterfly of the values of two slices is that of the block that was split
  pub forward_values : map value lo' ≡ zip2 (add_multiple times t) (map value lo) (map value hi)
      → map value hi' ≡ zip2 bit_xor (map value hi) (map value lo')
      → IsButterfly times t n (slice_index (map value block)) (slice_index (map value (lo' ++ hi')))
  forward_values low_is high_is =
      subst (λ (l : List ℕ). IsButterfly times t n (slice_index l) (slice_index (map value (lo' ++ hi')))) (sym before)
      (subst (λ (l : List ℕ). IsButterfly times t n (slice_index (map value lo ++ map value hi)) (slice_index l))
      (sym (map-append value lo' hi'))
      (forward_numbers times t n (map value lo) (map value hi) (map value lo') (map value hi') low_count high_count low_is high_is))

-- the butterflies of the pairs of two slices, whichever way, are that of the block that was split
module _ {A : Type 0} (value : A → ℕ) (times : ℕ → ℕ → ℕ) (t n : ℕ) (block lo hi lo' hi' : List A) (parts : block ≡ lo ++ hi) (low : length lo ≡ n) where
  pub taken_values : (inverse : Bool) → TakesBlock inverse times t (length lo) (slice_index (map value lo ++ map value hi))
      (slice_index (map value lo' ++ map value hi'))
      → TakesBlock inverse times t n (slice_index (map value block)) (slice_index (map value (lo' ++ hi')))
  taken_values inverse is =
      subst (λ (l : List ℕ). TakesBlock inverse times t n (slice_index l) (slice_index (map value (lo' ++ hi'))))
      (sym (ap (map value) parts ∙ map-append value lo hi))
      (subst (λ (l : List ℕ). TakesBlock inverse times t n (slice_index (map value lo ++ map value hi)) (slice_index l))
      (sym (map-append value lo' hi'))
      (subst (λ (k : ℕ). TakesBlock inverse times t k (slice_index (map value lo ++ map value hi)) (slice_index (map value lo' ++ map value hi')))
      low is))
