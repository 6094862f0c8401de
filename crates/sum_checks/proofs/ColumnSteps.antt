-- Columns of rows, and their sums of products.
use Rattle.std.proofs.Common.{◌≡◌, ℕ, zero, suc, ◌+◌, ◌*◌, ◌%◌, ◌<◌, List, [], ◌∷◌, length, map, take, refl, sym, ◌∙◌, ap, ap₂, arith}
use Rattle.std.specs.Prelude.{bit_xor, slice_index}
use Rattle.std.specs.List.{range_with_len}
use Rattle.std.proofs.lemmas.List.{get_or-take, length-take-le}
use Rattle.std.proofs.lemmas.List.FromFn.{get_or-map-range_with_len}
use Rattle.std.proofs.lemmas.Nat.{mul-add-lt, xor_comm}
use lib.Bits.{xor_assoc, xor_zero_r}
use Rattle.field_base.specs.Basis.{product_below, sum_below}
use Rattle.field_base.specs.Powers.{dot_of}
use Rattle.field_base.proofs.BasisSums.{product_below-same, sum_below-add, sum_below-same}
use Rattle.sum_checks.specs.Terms.{row_product}

-- a sum is its first term and the others
sum_from-first : (f : ℕ → ℕ) (n : ℕ) → sum_below f (suc n) ≡ bit_xor (f 0) (sum_below (λ i. f (suc i)) n)
unfolding sum_below
sum_from-first f n =
    let shift : suc n ≡ 1 + n = omega arith in
    ap (sum_below f) shift ∙ sum_below-add f 1 n
    ∙ ap₂ bit_xor (xor_comm 0 (f 0) ∙ xor_zero_r (f 0)) (sum_below-same (λ i. f (1 + i)) (λ i. f (suc i)) n (λ i below. ap f (one-more i)))
  where
    one-more : (i : ℕ) → 1 + i ≡ suc i
    one-more i = omega arith

-- a dot product is the sum over the places of the products of what stands there
pub dot-sum : {A : Type 0} (times : ℕ → ℕ → ℕ) (repr : A → ℕ) (xs ys : List A) → length xs ≡ length ys
    → dot_of times repr xs ys ≡ sum_below (λ i. times (slice_index (map repr xs) i) (slice_index (map repr ys) i)) (length xs)
unfolding sum_below
dot-sum times repr [] [] same = refl
dot-sum times repr [] (y ∷ ys) same = absurd (omega (arith, same))
dot-sum times repr (x ∷ xs) [] same = absurd (omega (arith, same))
dot-sum times repr (x ∷ xs) (y ∷ ys) same =
    ap (bit_xor (times (repr x) (repr y))) (dot-sum times repr xs ys (omega (arith, same)))
    ∙ sym (sum_from-first (λ i. times (slice_index (map repr (x ∷ xs)) i) (slice_index (map repr (y ∷ ys)) i)) (length xs))

-- what a list of a function's values has at a place
pub listed-at : (f : ℕ → ℕ) (n i : ℕ) → i < n → slice_index (map f (range_with_len 0 n)) i ≡ f i
listed-at f n i below = get_or-map-range_with_len f 0 n i i 0 below (omega arith)

-- an element of a row is within
pub entry-within : (row count place size all : ℕ) → all ≡ size * count → row < size → place < count → row * count + place < all
entry-within row count place size all long below inside =
    let less = mul-add-lt row count place size below inside in
    omega (arith, less, long)

-- the sum of ones is the parity of how many there are
ones : (n : ℕ) → sum_below (λ i. 1) n ≡ n % 2
unfolding sum_below
ones zero = refl
ones (suc zero) = refl
ones (suc (suc n)) =
    xor_assoc (sum_below (λ i. 1) n) 1 1 ∙ xor_zero_r (sum_below (λ i. 1) n) ∙ ones n ∙ twice n
  where
    twice : (n : ℕ) → n % 2 ≡ suc (suc n) % 2
    twice n = omega arith

pub no-factors : (times : ℕ → ℕ → ℕ) (count : ℕ) (rows factors : List ℕ) (n unit value : ℕ) → length factors ≡ 0 → unit ≡ 1
    → value ≡ n % 2 * unit → value ≡ sum_below (row_product times count rows factors) n
unfolding product_below
no-factors times count rows [] n unit value none one is =
    let same : value ≡ n % 2 = is ∙ ap (λ (u : ℕ). n % 2 * u) one ∙ once (n % 2) in same ∙ sym (ones n)
  where
    once : (m : ℕ) → m * 1 ≡ m
    once m = omega arith
no-factors times count rows (j ∷ factors) n unit value none one is = absurd (omega (arith, none))

-- the last factor by itself
pub last-factor : (times : ℕ → ℕ → ℕ) (entry : ℕ → ℕ) (factors others : List ℕ) (last : ℕ) → suc last ≡ length factors → others ≡ take last factors
    → times (product_below times (λ k. entry (slice_index others k)) (length others)) (entry (slice_index factors last))
    ≡ product_below times (λ k. entry (slice_index factors k)) (length factors)
unfolding product_below
last-factor times entry factors others last long is =
    ap (λ (p : ℕ). times p (entry (slice_index factors last)))
    (ap (λ (ns : List ℕ). product_below times (λ k. entry (slice_index ns k)) (length ns)) is
    ∙ ap (product_below times (λ k. entry (slice_index (take last factors) k))) (length-take-le last factors (omega (arith, long)))
    ∙ product_below-same times (λ k. entry (slice_index (take last factors) k)) (λ k. entry (slice_index factors k)) last
    (λ k below. ap entry (get_or-take last factors k 0 below)))
    ∙ ap (product_below times (λ k. entry (slice_index factors k))) long
