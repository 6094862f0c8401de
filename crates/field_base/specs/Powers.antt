-- Powers, sums and products in a ring of numbers, under its product `times`, with the one `unit`.
use Rattle.std.specs.Prelude.{◌≡◌, ℕ, zero, suc, ℤ, pos, negsuc, ◌%◌, ◌^◌, ◌<◌, List, [], ◌∷◌, bit_xor, fold}
use Rattle.field_base.specs.Ring.{IsRing}

-- a ^ n: the product of n factors a, and the one for n = 0
unfoldable pub power : ℕ → (ℕ → ℕ → ℕ) → ℕ → ℕ → ℕ
power unit times a zero = unit
power unit times a (suc n) = times (power unit times a n) a

-- the element a squared n times; 0 squarings give the one times a, which is a where a fits the width
unfoldable pub repeated_square : ℕ → (ℕ → ℕ → ℕ) → ℕ → ℕ → ℕ
repeated_square unit times zero a = times unit a
repeated_square unit times (suc n) a = times (repeated_square unit times n a) (repeated_square unit times n a)

-- a + a ^ 2 + a ^ 4 + .. + a ^ 2 ^ (n - 1): the sum of a squared 0, 1, .., n - 1 times
unfoldable pub sum_of_squarings : ℕ → (ℕ → ℕ → ℕ) → ℕ → ℕ → ℕ
sum_of_squarings unit times zero a = 0
sum_of_squarings unit times (suc n) a = bit_xor (sum_of_squarings unit times n a) (repeated_square unit times n a)

-- the sum of the elements of a list, as a number
abbrev pub sum_of : {A : Type 0} → (A → ℕ) → List A → ℕ
sum_of repr xs = fold (λ sum x. bit_xor sum (repr x)) 0 xs

-- the product of the elements of a list, as a number
abbrev pub product_of : {A : Type 0} → ℕ → (ℕ → ℕ → ℕ) → (A → ℕ) → List A → ℕ
product_of unit times repr xs = fold (λ product x. times product (repr x)) unit xs

-- the sum of the products of the elements of two lists, place by place, as a number
abbrev pub dot_of : {A : Type 0} → (ℕ → ℕ → ℕ) → (A → ℕ) → List A → List A → ℕ
dot_of times repr [] ys = 0
dot_of times repr (x ∷ xs) [] = 0
dot_of times repr (x ∷ xs) (y ∷ ys) = bit_xor (times (repr x) (repr y)) (dot_of times repr xs ys)

-- the sum of c[k] a ^ (n + k) over the places k of a list c
unfoldable pub terms_from : {A : Type 0} → ℕ → (ℕ → ℕ → ℕ) → (A → ℕ) → ℕ → ℕ → List A → ℕ
terms_from unit times repr a n [] = 0
terms_from unit times repr a n (c ∷ cs) =
    bit_xor (times (repr c) (power unit times a n)) (terms_from unit times repr a (suc n) cs)

-- the value at a of the polynomial with these coefficients, lowest first: the sum of c[k] a ^ k
abbrev pub value_of : {A : Type 0} → ℕ → (ℕ → ℕ → ℕ) → (A → ℕ) → List A → ℕ → ℕ
value_of unit times repr cs a = terms_from unit times repr a 0 cs

-- 0 for an even integer and 1 for an odd one
abbrev pub parity : ℤ → ℕ
parity (pos n) = n % 2
parity (negsuc n) = suc n % 2

-- in every ring whose one is an element, n squarings raise to the power 2 ^ n
abbrev pub SquaringsArePowers : Type 0
SquaringsArePowers =
    (width unit : ℕ) (times : ℕ → ℕ → ℕ) → IsRing width unit times → unit < 2 ^ width
    → (n a : ℕ) → repeated_square unit times n a ≡ power unit times a (2 ^ n)
