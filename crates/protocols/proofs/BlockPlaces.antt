-- Places of which one is drawn in each block.
use Rattle.std.proofs.Common.{◌≡◌, ℕ, ◌+◌, ◌-◌, ◌*◌, ◌%◌, ◌^◌, ◌<◌, ◌≤◌, suc, List, length, sym, ◌∙◌, ap, subst, arith, lit<}
use Rattle.std.specs.Prelude.{slice_index}
use Rattle.std.proofs.Math.Nat.{mul-le-mul_right, pow-le-pow_right}
use Rattle.std.proofs.lemmas.List.FromFn.{get_or-map-range_with_len, length-map-range_with_len}
use Rattle.std.proofs.lemmas.Nat.{pow-add, pow_pos}
use native.Mathlib.Nat.{mod-lt}
use Rattle.transcripts.specs.Openings.{AreAscending}
use Rattle.protocols.specs.CommitmentScheme.{block_places, matrix_rows, place_bits, place_count, row_levels, word_levels}

module _ (bits blocks depth : ℕ) (whole : blocks * 2 ^ bits ≡ 2 ^ depth) (numbers : List ℕ) (count : length numbers ≡ blocks) where
  abbrev place : ℕ → ℕ
  place i = i * 2 ^ bits + slice_index numbers i % 2 ^ bits

  place-at : (k : ℕ) → k < length numbers → slice_index (block_places bits numbers) k ≡ place k
  place-at k inside = get_or-map-range_with_len place 0 (length numbers) k k 0 inside (omega arith)

  -- a place is in its block
  within : (k : ℕ) → (k * 2 ^ bits ≤ place k) × (place k < suc k * 2 ^ bits)
  within k =
      let rest = mod-lt (slice_index numbers k) (pow_pos bits) in
      let next : suc k * 2 ^ bits ≡ k * 2 ^ bits + 2 ^ bits = omega arith in
      (omega arith, omega (arith, rest, next))

  -- the places ascend
  pub ascending : AreAscending (2 ^ depth) (block_places bits numbers)
  ascending = record {
    below = λ k inside.
        let inner : k < length numbers = subst (λ (m : ℕ). k < m) long inside in
        let room : suc k * 2 ^ bits ≤ blocks * 2 ^ bits = mul-le-mul_right (2 ^ bits) (subst (λ (m : ℕ). k < m) count inner) in
        let own = (within k).1 in
        subst (λ (p : ℕ). p < 2 ^ depth) (sym (place-at k inner))
        (subst (λ (m : ℕ). place k < m) whole (enough (place k) (suc k * 2 ^ bits) (blocks * 2 ^ bits) own room));
    grow = λ k inside.
        let later : suc k < length numbers = subst (λ (m : ℕ). suc k < m) long inside in
        let first : k < length numbers = omega (arith, later) in
        subst (λ (p : ℕ). p < slice_index (block_places bits numbers) (suc k)) (sym (place-at k first))
        (subst (λ (p : ℕ). place k < p) (sym (place-at (suc k) later))
        (enough (place k) (suc k * 2 ^ bits) (place (suc k)) (within k).1 (within (suc k)).0));
  }
    where
      long : length (block_places bits numbers) ≡ length numbers
      long = length-map-range_with_len place 0 (length numbers)

      enough : (a b c : ℕ) → a < b → b ≤ c → a < c
      enough a b c one other = omega (arith, one, other)

-- the blocks of a commitment have all places
pub blocks-whole : (m n : ℕ) → place_count m n * 2 ^ place_bits m n ≡ 2 ^ word_levels m n
blocks-whole m n =
    sym (pow-add 2 (word_levels m n - place_bits m n) (place_bits m n))
    ∙ ap (λ (b : ℕ). 2 ^ b) (let few : place_bits m n ≤ word_levels m n = omega arith in omega (arith, few))

-- and so many of them are opened
pub places-few : (m n : ℕ) → m ≤ 8 → (numbers : List ℕ) → length numbers ≡ place_count m n → length (block_places (place_bits m n) numbers) ≤ 256
places-few m n few numbers count =
    let up : 2 ^ (word_levels m n - place_bits m n) ≤ 2 ^ 8 = pow-le-pow_right (lit< tt) (let less : word_levels m n - place_bits m n ≤ 8 = omega (arith, few) in less) in
    let long = length-map-range_with_len (λ i. i * 2 ^ place_bits m n + slice_index numbers i % 2 ^ place_bits m n) 0 (length numbers) in
    omega (arith, up, long, count)

-- a table as a matrix
pub matrix-whole : (m n rows levels : ℕ) → rows ≡ matrix_rows m n → levels ≡ row_levels m n → 2 ^ n ≡ 2 ^ rows * 2 ^ levels
matrix-whole m n rows levels is same =
    ap (λ (b : ℕ). 2 ^ b) (let whole : n ≡ rows + levels = omega (arith, is, same) in whole) ∙ pow-add 2 rows levels

-- the columns of a table's extension have room for its own
pub columns-held : (row : ℕ) {size point height all : ℕ} → size ≡ 2 ^ row → point ≡ height → all ≡ 2 ^ 2 * 2 ^ row * 2 ^ height
    → size * 2 ^ point ≤ all
columns-held row {size} {point} {height} {all} one two three =
    subst (λ (s : ℕ). s * 2 ^ point ≤ all) (sym one)
    (subst (λ (p : ℕ). 2 ^ row * 2 ^ p ≤ all) (sym two) (omega (arith, three)))

-- the columns of a table are as many as its tree has leaves, each of as many elements as there are rows
pub columns-counted : (m n : ℕ) {rows depth count : ℕ} → rows ≡ matrix_rows m n → depth ≡ word_levels m n
    → count ≡ 2 ^ 2 * 2 ^ row_levels m n * 2 ^ matrix_rows m n → count ≡ 2 ^ depth * 2 ^ rows
columns-counted m n {rows} {depth} {count} same deep is =
    subst (λ (r : ℕ). count ≡ 2 ^ depth * 2 ^ r) (sym same)
    (subst (λ (d : ℕ). count ≡ 2 ^ d * 2 ^ matrix_rows m n) (sym deep)
    (is ∙ ap (λ (c : ℕ). c * 2 ^ matrix_rows m n) (sym (pow-add 2 2 (row_levels m n)))))
