-- Sums of entries are repeated squares: at 128 bits from map to map, and at a lower level since its elements are elements
-- of 128 bits.
use Rattle.std.proofs.Common.{◌≡◌, ◌≢◌, ℕ, zero, suc, ◌+◌, ◌*◌, ◌/◌, ◌%◌, ◌^◌, ◌<◌, ◌≤◌, ◌-◌, List, [], ◌∷◌, get_or, refl, sym, ◌∙◌, ap, ap₂, subst, arith, lit<}
use Rattle.std.specs.Prelude.{bit_xor}
use Rattle.std.proofs.Math.Nat.{two-pow-succ}
use Rattle.std.specs.Int.Bits.{xor_zero_l}
use Rattle.std.proofs.Math.ListN.{get_or-map}
use Rattle.std.proofs.lemmas.Nat.{mod-pow-add, pow_below, pow_pos}
use native.Mathlib.Nat.{mod-eq_of_lt, one-mul, pow-le-pow_right, zero-add, zero-mul}
use lib.Bits.{xor_zero_r}
use Rattle.field_base.specs.LinearMaps.{linear_image}
use Rattle.field_base.specs.Powers.{repeated_square}
use Rattle.field_base.specs.Tower.{tower_mul}
use Rattle.field_base.proofs.AdditiveMaps.{KeepsSums, maps_agree, agree_on_powers-true}
use Rattle.field_base.proofs.BasisColumns.{sum_of_columns, sum_of_columns-nothing, sum_of_columns-sum}
use Rattle.field_base.proofs.LinearMapLemmas.{linear_image-columns}
use Rattle.field_base.proofs.PowerLemmas.{square_xor, repeated_square-add, repeated_square-lt, repeated_square_square, repeated_square-none}
use Rattle.field_base.proofs.TowerProducts.{level-lt, tower_mul-low}
use Rattle.field_base.proofs.TowerRing.{tower_ring}
use Rattle.word_tables.specs.LinearMap.{sum_of_values}
use Rattle.word_tables.proofs.DigitMaps.{sum_of_values_is}
use Rattle.word_tables.proofs.TabledMaps.{Hold, digit_table-at, digit_value, place_tables}
use Rattle.word_tables.proofs.Squares.{square_of, square_of_is}
use Rattle.word_tables.proofs.FrobeniusFacts.{columns_in, columns_twice, map_of, table_at, holds, squares, doubles}

-- ---- at 128 bits

-- a table's map squares n times
abbrev IsSquaring : ℕ → List ℕ → Type 0
IsSquaring n table = (x : ℕ) → x < 2 ^ 128 → map_of table x ≡ repeated_square 1 (tower_mul 7) n x

-- the map of a table keeps sums
map_keeps : (table : List ℕ) → KeepsSums (map_of table)
unfolding map_of
map_keeps table = sum_of_columns-sum (columns_in 32 table)

-- the map of the first table is one squaring
once : IsSquaring 1 (table_at 0)
once x fits =
    maps_agree (map_of (table_at 0)) (λ b. tower_mul 7 b b) (map_keeps (table_at 0))
    (square_xor 128 1 (tower_mul 7) (tower_ring 7)) 128
    (λ i below. agree_on_powers-true (map_of (table_at 0)) (square_of 7) 128 squares i below ∙ square_of_is 7 (2 ^ i)) x fits
    ∙ sym (repeated_square-none 128 1 (tower_mul 7) (tower_ring 7) (tower_mul 7 x x) ((tower_ring 7).below x x))
    ∙ repeated_square_square 128 1 (tower_mul 7) (tower_ring 7) 0 x

-- the value at a power of two is the column of its bit
column_at : (columns : List ℕ) (i : ℕ) → sum_of_columns columns (2 ^ i) ≡ get_or columns i 0
unfolding sum_of_columns
column_at [] i = refl
column_at (c ∷ cs) zero =
    ap₂ bit_xor (one-mul c) (sum_of_columns-nothing cs) ∙ xor_zero_r c
column_at (c ∷ cs) (suc i) =
    let twice = two-pow-succ i in
    let even : 2 ^ suc i % 2 ≡ 0 = omega (arith, twice) in
    let half : 2 ^ suc i / 2 ≡ 2 ^ i = omega (arith, twice) in
    ap₂ (λ (b x : ℕ). bit_xor (b * c) (sum_of_columns cs x)) even half
    ∙ ap (λ (z : ℕ). bit_xor z (sum_of_columns cs (2 ^ i))) (zero-mul c) ∙ xor_zero_l (sum_of_columns cs (2 ^ i)) ∙ column_at cs i

-- columns that are the values of a map at its own columns give it twice at the powers of two
columns_apply : (once again : List ℕ) → again ≡ columns_twice once → (i : ℕ)
    → sum_of_columns again (2 ^ i) ≡ sum_of_columns once (sum_of_columns once (2 ^ i))
columns_apply once again are i =
    column_at again i
    ∙ ap (λ (cs : List ℕ). get_or cs i 0) are
    ∙ ap (get_or (columns_twice once) i) (sym (sum_of_columns-nothing once))
    ∙ get_or-map (sum_of_columns once) once i 0
    ∙ ap (sum_of_columns once) (sym (column_at once i))

-- `columns_apply` for the maps of two tables
twice_at : (first second : List ℕ) → columns_in 32 second ≡ columns_twice (columns_in 32 first) → (i : ℕ)
    → map_of second (2 ^ i) ≡ map_of first (map_of first (2 ^ i))
unfolding map_of
twice_at first second are i = columns_apply (columns_in 32 first) (columns_in 32 second) are i

-- a table whose columns are those of the map of n squarings applied twice is of n + n squarings
twice : (n : ℕ) (first second : List ℕ) → columns_in 32 second ≡ columns_twice (columns_in 32 first) → IsSquaring n first
    → IsSquaring (n + n) second
twice n first second are of_first x fits =
    maps_agree (map_of second) map_twice (map_keeps second) keeps 128 (λ i below. at_power i) x fits
    ∙ ap (map_of first) (of_first x fits)
    ∙ of_first (repeated_square 1 (tower_mul 7) n x) (repeated_square-lt 128 1 (tower_mul 7) (tower_ring 7) n x)
    ∙ sym (repeated_square-add 128 1 (tower_mul 7) (tower_ring 7) n n x)
  where
    map_twice : ℕ → ℕ
    map_twice b = map_of first (map_of first b)

    keeps : KeepsSums map_twice
    keeps a b = ap (map_of first) (map_keeps first a b) ∙ map_keeps first (map_of first a) (map_of first b)

    at_power : (i : ℕ) → map_of second (2 ^ i) ≡ map_twice (2 ^ i)
    at_power i = twice_at first second are i

-- the table of each step, from the one before it
squares_at : (step : ℕ) → step < 6 → IsSquaring (2 ^ step) (table_at step)
squares_at zero below = once
squares_at (suc step) below =
    subst (λ (n : ℕ). IsSquaring n (table_at (suc step))) (sym (two-pow-succ step))
    (twice (2 ^ step) (table_at step) (table_at (suc step)) (doubles step (omega (arith, below)))
    (squares_at step (omega (arith, below))))

-- ---- at every level

-- an element of level k squared n times in a level above is so in level k
lower_level : (j k n x : ℕ) → x < 2 ^ 2 ^ k → repeated_square 1 (tower_mul (j + k)) n x ≡ repeated_square 1 (tower_mul k) n x
unfolding repeated_square
lower_level j k zero x fits = tower_mul-low j k 1 x (pow_below 0 (2 ^ k) (pow_pos k)) fits
lower_level j k (suc n) x fits =
    ap (λ (y : ℕ). tower_mul (j + k) y y) (lower_level j k n x fits)
    ∙ tower_mul-low j k _ _ (repeated_square-lt (2 ^ k) 1 (tower_mul k) (tower_ring k) n x)
    (repeated_square-lt (2 ^ k) 1 (tower_mul k) (tower_ring k) n x)

-- a table of a map holds its values
values_held : (table : List ℕ) → table ≡ place_tables 4 32 (columns_in 32 table) → Hold (digit_value (columns_in 32 table)) 512 table
unfolding columns_in
values_held table is p below =
    ap (λ (t : List ℕ). get_or t p 0) is
    ∙ digit_table-at 32 (columns_in 32 table) refl p below
    ∙ sym (linear_image-columns (columns_in 32 table) (p % 16 * 2 ^ (4 * (p / 16))))

-- the entries of a table at the digits of an element of level k
entries : (n : ℕ) (table : List ℕ) → table ≡ place_tables 4 32 (columns_in 32 table) → IsSquaring n table
    → (k digits x : ℕ) → k ≤ 7 → 2 ^ k ≡ 4 * digits → x < 2 ^ 2 ^ k
    → sum_of_values digits table x ≡ repeated_square 1 (tower_mul k) n x
unfolding map_of
entries n table of_map is k digits x few whole fits =
    sum_of_values_is (columns_in 32 table) table digits x (λ p below. values_held table of_map p (omega (arith, below, some)))
    ∙ ap (linear_image (columns_in 32 table)) (mod-eq_of_lt small)
    ∙ linear_image-columns (columns_in 32 table) x
    ∙ is x wide
    ∙ ap (λ (level : ℕ). repeated_square 1 (tower_mul level) n x) above
    ∙ lower_level (7 - k) k n x fits
  where
    above : 7 ≡ 7 - k + k
    above = omega arith

    some : digits ≤ 32
    some =
        let most : 2 ^ k ≤ 2 ^ 7 = pow-le-pow_right (lit< tt) few in
        omega (arith, most)

    small : x < 2 ^ (4 * digits)
    small = subst (λ (bits : ℕ). x < 2 ^ bits) whole fits

    wide : x < 2 ^ 128
    wide = subst (λ (level : ℕ). x < 2 ^ 2 ^ level) (sym above) (level-lt (7 - k) k x fits)

-- the table of 2^step squarings at the digits of an element of level k
pub squared : (step : ℕ) (table : List ℕ) → step < 6 → table_at step ≡ table → (k digits x : ℕ) → k ≤ 7 → 2 ^ k ≡ 4 * digits
    → x < 2 ^ 2 ^ k → sum_of_values digits table x ≡ repeated_square 1 (tower_mul k) (2 ^ step) x
squared step table below is k digits x few whole fits =
    ap (λ (t : List ℕ). sum_of_values digits t x) (sym is)
    ∙ entries (2 ^ step) (table_at step) (holds step) (squares_at step below) k digits x few whole fits

-- ---- the loop over the bits of a count

-- the bits of a count below n + 1 are bit n and those below
bits_to : (n count : ℕ) → count % 2 ^ (n + 1) ≡ count / 2 ^ n % 2 * 2 ^ n + count % 2 ^ n
bits_to n count =
    let next : n + 1 ≡ 1 + n = omega arith in
    ap (λ (m : ℕ). count % 2 ^ m) next ∙ mod-pow-add count 1 n

-- a map for bit n of the count, where it is set
pub bit_set : (k n count x value squared : ℕ) → count / 2 ^ n % 2 ≡ 1
    → value ≡ repeated_square 1 (tower_mul k) (count % 2 ^ n) x → squared ≡ repeated_square 1 (tower_mul k) (2 ^ n) value
    → squared ≡ repeated_square 1 (tower_mul k) (count % 2 ^ (n + 1)) x
bit_set k n count x value squared set so_far step =
    let one_more : count % 2 ^ (n + 1) ≡ 2 ^ n + count % 2 ^ n =
    bits_to n count ∙ ap (λ (bit : ℕ). bit * 2 ^ n + count % 2 ^ n) set ∙ ap (λ (p : ℕ). p + count % 2 ^ n) (one-mul (2 ^ n)) in
    step ∙ ap (repeated_square 1 (tower_mul k) (2 ^ n)) so_far
    ∙ sym (repeated_square-add (2 ^ k) 1 (tower_mul k) (tower_ring k) (2 ^ n) (count % 2 ^ n) x)
    ∙ ap (λ (m : ℕ). repeated_square 1 (tower_mul k) m x) (sym one_more)

-- and none where it is not
pub bit_clear : (k n count x value : ℕ) → count / 2 ^ n % 2 ≢ 1
    → value ≡ repeated_square 1 (tower_mul k) (count % 2 ^ n) x → value ≡ repeated_square 1 (tower_mul k) (count % 2 ^ (n + 1)) x
bit_clear k n count x value clear so_far =
    let zero_bit : count / 2 ^ n % 2 ≡ 0 = omega arith in
    let same : count % 2 ^ (n + 1) ≡ count % 2 ^ n =
    bits_to n count ∙ ap (λ (bit : ℕ). bit * 2 ^ n + count % 2 ^ n) zero_bit ∙ ap (λ (p : ℕ). p + count % 2 ^ n) (zero-mul (2 ^ n)) ∙ zero-add (count % 2 ^ n) in
    so_far ∙ ap (λ (m : ℕ). repeated_square 1 (tower_mul k) m x) (sym same)
