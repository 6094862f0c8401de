-- Sizes of proofs, which are far below 2 ^ 64.
use Rattle.std.proofs.Common.{◌≡◌, ℕ, ◌+◌, ◌*◌, ◌/◌, ◌^◌, ◌≤◌, List, [], ◌∷◌, length, refl, sym, ap₂, subst, arith, lit<}
use Rattle.std.proofs.Math.Nat.{mul-le-mul_left, mul-le-mul_right}
use Rattle.std.proofs.Math.Nat.{pow-le-pow_right}
use Rattle.prove_sums.specs.Shapes.{columns_in, columns_size, element_count, nodes_in, part, row_size}

-- a power of two below another
pub power-few : {size n : ℕ} (most : ℕ) → size ≡ 2 ^ n → n ≤ most → size ≤ 2 ^ most
power-few most is below = subst (λ (s : ℕ). s ≤ 2 ^ most) (sym is) (pow-le-pow_right (lit< tt) below)

-- a product below its bounds
pub product-few : (a b c d : ℕ) → a ≤ c → b ≤ d → a * b ≤ c * d
product-few a b c d one other =
    let first : a * b ≤ c * b = mul-le-mul_right b one in
    let second : c * b ≤ c * d = mul-le-mul_left c other in
    omega (arith, first, second)

-- ---- parts of the elements of a proof

-- all parts are within
pub parts-room : {F : Type 0} (m n : ℕ) (elements : List F) (row size : ℕ) → length elements ≡ element_count m n → row ≡ row_size m n
    → size ≡ columns_size m n → 2 * n + 4 + row + 2 * size ≤ length elements
parts-room m n elements row size count is same =
    subst (λ (r : ℕ). 2 * n + 4 + r + 2 * size ≤ length elements) (sym is)
    (subst (λ (s : ℕ). 2 * n + 4 + row_size m n + 2 * s ≤ length elements) (sym same)
    (enough (2 * n + 4 + row_size m n + 2 * columns_size m n) (length elements) count))
  where
    enough : (a b : ℕ) → b ≡ a → a ≤ b
    enough a b is = omega (arith, is)

-- a part is that of another beginning and size that are the same
pub part-same : {X : Type 0} (values : List X) {from size begin long : ℕ} → from ≡ begin → size ≡ long → part from size values ≡ part begin long values
part-same values one two = ap₂ (λ (f s : ℕ). part f s values) one two

-- two parts of as many elements behind the row are the columns of both tables
pub columns-read : {F : Type 0} (m n : ℕ) (elements : List F) (row size : ℕ) → row ≡ row_size m n → size ≡ columns_size m n
    → part (2 * n + 1 + 3 + row) size elements ∷ part (2 * n + 1 + 3 + row + size) size elements ∷ []
    ≡ columns_in m n 0 elements ∷ columns_in m n 1 elements ∷ []
columns-read {F} m n elements row size one two =
    ap₂ (λ (a b : List F). a ∷ b ∷ []) (part-same elements (first row (row_size m n) (columns_size m n) one) two)
    (part-same elements (second row (row_size m n) size (columns_size m n) one two) two)
  where
    first : (r rows s : ℕ) → r ≡ rows → 2 * n + 1 + 3 + r ≡ 2 * n + 4 + rows + 0 * s
    first r rows s is = omega (arith, is)

    second : (r rows s sizes : ℕ) → r ≡ rows → s ≡ sizes → 2 * n + 1 + 3 + r + s ≡ 2 * n + 4 + rows + 1 * sizes
    second r rows s sizes is same = omega (arith, is, same)

-- and the halves of the nodes are those that open them
pub nodes-read : (nodes : List (List ℕ)) → part 0 (length nodes / 2) nodes ∷ part (0 + length nodes / 2) (length nodes / 2) nodes ∷ []
    ≡ nodes_in 0 nodes ∷ nodes_in 1 nodes ∷ []
nodes-read nodes =
    ap₂ (λ (a b : List (List ℕ)). a ∷ b ∷ []) (part-same nodes (first (length nodes / 2)) refl) (part-same nodes (second (length nodes / 2)) refl)
  where
    first : (s : ℕ) → 0 ≡ 0 * s
    first s = omega arith

    second : (s : ℕ) → 0 + s ≡ 1 * s
    second s = omega arith
