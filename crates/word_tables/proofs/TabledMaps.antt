-- Tables of linear maps: what a checked table sums to, and the entries of a table that is made.
use Rattle.std.proofs.Common.{◌≡◌, ◌≢◌, ℕ, zero, suc, ◌+◌, ◌*◌, ◌/◌, ◌%◌, ◌^◌, ◌<◌, ◌≤◌, List, ◌∷◌, [], ◌++◌, length, take, drop, get_or, get_or-set_other, get_or-set_same, below_more, length-drop, length-take-le, take-append-drop, refl, sym, ◌∙◌, ap, ap₂, subst, arith, lit<}
use Rattle.std.specs.Prelude.{bit_xor, slice_index}
use Rattle.std.specs.Int.Bits.{xor_zero_l}
use Rattle.std.proofs.Math.ListN.{set}
use Rattle.std.proofs.Math.Nat.{div-eq_of_lt, mul-suc, mul-zero, mul_assoc, two-pow-succ}
use Rattle.std.proofs.lemmas.List.{get_or-append-add, get_or_append_left}
use Rattle.std.proofs.lemmas.Nat.{mod_low, pow-add, pow_pos, shl-shr, xor_comm}
use native.Mathlib.Nat.{add-zero, mod-lt, mul-one, one-mul, zero-mul}
use lib.Bits.{xor_shifted, xor_zero_r}
use Rattle.field_base.specs.ByteTables.{sum_of_entries}
use Rattle.field_base.specs.LinearMaps.{linear_image}
use Rattle.field_base.proofs.AdditiveMaps.{KeepsSums}
use Rattle.field_base.proofs.BasisColumns.{sum_of_columns, sum_of_columns-append, sum_of_columns-mod, sum_of_columns-nothing, sum_of_columns-sum}
use Rattle.field_base.proofs.ByteTableSums.{sum_of_entries_is}
use Rattle.field_base.proofs.CarrylessProduct.{xor_shl}
use Rattle.field_base.proofs.LinearMapLemmas.{image_enters, image_stays, images_end, linear_image-columns, the_linear_map}

-- ---- a sum of images, one after another

-- where no bit is left, the sum is whole
pub no_bit_left : (images : List ℕ) (place sum rest : ℕ) → rest ≡ 0 → bit_xor sum (linear_image (drop place images) rest) ≡ sum
no_bit_left images place sum rest none =
    ap (λ (bits : ℕ). bit_xor sum (linear_image (drop place images) bits)) none
    ∙ ap (bit_xor sum) (linear_image-columns (drop place images) 0 ∙ sum_of_columns-nothing (drop place images)) ∙ xor_zero_r sum

-- the steps of such a sum and its two ends
pub ruleset image_steps = (image_enters, image_stays, images_end, no_bit_left)

-- ---- a table that is a literal

-- each number, and behind it its sum with c
unfoldable pub with_sums : ℕ → List ℕ → List ℕ
with_sums c [] = []
with_sums c (y ∷ ys) = y ∷ bit_xor c y ∷ with_sums c ys

-- the values at 0, 1, 2, .. of the map by these columns, each by one sum
unfoldable pub values_of : List ℕ → List ℕ
values_of [] = 0 ∷ []
values_of (c ∷ cs) = with_sums c (values_of cs)

-- the tables of the values at the digits of each place, of n columns a place
unfoldable pub place_tables : ℕ → ℕ → List ℕ → List ℕ
place_tables n zero columns = []
place_tables n (suc places) columns = values_of (take n columns) ++ place_tables n places (drop n columns)

-- there are twice as many
length-with_sums : (c : ℕ) (ys : List ℕ) → length (with_sums c ys) ≡ 2 * length ys
unfolding with_sums
length-with_sums c [] = refl
length-with_sums c (y ∷ ys) = let more = length-with_sums c ys in omega (arith, more)

-- at an even place stands a number, and at an odd one a sum
with_sums-at : (c : ℕ) (ys : List ℕ) (x : ℕ) → x < 2 * length ys
    → get_or (with_sums c ys) x 0 ≡ bit_xor (x % 2 * c) (get_or ys (x / 2) 0)
unfolding with_sums
with_sums-at c [] x inside = absurd (omega (arith, inside))
with_sums-at c (y ∷ ys) zero inside = sym (ap (λ (z : ℕ). bit_xor z y) (zero-mul c) ∙ xor_zero_l y)
with_sums-at c (y ∷ ys) (suc zero) inside = sym (ap (λ (z : ℕ). bit_xor z y) (one-mul c))
with_sums-at c (y ∷ ys) (suc (suc x)) inside =
    let parity : suc (suc x) % 2 ≡ x % 2 = omega arith in
    let half : suc (suc x) / 2 ≡ suc (x / 2) = omega arith in
    with_sums-at c ys x (omega (arith, inside))
    ∙ sym (ap₂ (λ (b h : ℕ). bit_xor (b * c) (get_or (y ∷ ys) h 0)) parity half)

-- n columns have 2^n values
length-values_of : (columns : List ℕ) → length (values_of columns) ≡ 2 ^ length columns
unfolding values_of
length-values_of [] = refl
length-values_of (c ∷ cs) =
    let double = two-pow-succ (length cs) in
    let all = length-with_sums c (values_of cs) in
    let half = length-values_of cs in
    omega (arith, double, all, half)

-- the value at place x is that of the map
values_of-at : (columns : List ℕ) (x : ℕ) → x < 2 ^ length columns → get_or (values_of columns) x 0 ≡ sum_of_columns columns x
unfolding values_of sum_of_columns
values_of-at [] zero inside = refl
values_of-at [] (suc x) inside = absurd (omega (arith, inside))
values_of-at (c ∷ cs) x inside =
    let double = two-pow-succ (length cs) in
    let half = length-values_of cs in
    with_sums-at c (values_of cs) x (omega (arith, inside, double, half))
    ∙ ap (bit_xor (x % 2 * c)) (values_of-at cs (x / 2) (omega (arith, inside, double)))

-- the columns from place n on at x are all of them at x 2^n
from_place : (columns : List ℕ) (n x : ℕ) → n ≤ length columns
    → sum_of_columns columns (x * 2 ^ n) ≡ sum_of_columns (drop n columns) x
from_place columns n x enough =
    ap (λ (cs : List ℕ). sum_of_columns cs (x * 2 ^ n)) (sym (take-append-drop n columns))
    ∙ sum_of_columns-append (take n columns) (drop n columns) (x * 2 ^ n)
    ∙ ap₂ bit_xor below (ap (λ (m : ℕ). sum_of_columns (drop n columns) (x * 2 ^ n / 2 ^ m)) first
    ∙ ap (sum_of_columns (drop n columns)) (shl-shr x n))
    ∙ xor_comm 0 (sum_of_columns (drop n columns) x) ∙ xor_zero_r (sum_of_columns (drop n columns) x)
  where
    first : length (take n columns) ≡ n
    first = length-take-le n columns enough

    none : x * 2 ^ n % 2 ^ n ≡ 0
    none = ap (λ (y : ℕ). y % 2 ^ n) (sym (add-zero (x * 2 ^ n))) ∙ mod_low x n 0 (pow_pos n)

    below : sum_of_columns (take n columns) (x * 2 ^ n) ≡ 0
    below =
        sym (sum_of_columns-mod (take n columns) (x * 2 ^ n))
        ∙ ap (λ (m : ℕ). sum_of_columns (take n columns) (x * 2 ^ n % 2 ^ m)) first
        ∙ ap (sum_of_columns (take n columns)) none ∙ sum_of_columns-nothing (take n columns)

-- the first n columns alone at x below 2^n
to_place : (columns : List ℕ) (n x : ℕ) → n ≤ length columns → x < 2 ^ n → sum_of_columns columns x ≡ sum_of_columns (take n columns) x
to_place columns n x enough fits =
    ap (λ (cs : List ℕ). sum_of_columns cs x) (sym (take-append-drop n columns))
    ∙ sum_of_columns-append (take n columns) (drop n columns) x
    ∙ ap (bit_xor (sum_of_columns (take n columns) x)) (ap (λ (m : ℕ). sum_of_columns (drop n columns) (x / 2 ^ m)) first
    ∙ ap (sum_of_columns (drop n columns)) (div-eq_of_lt fits) ∙ sum_of_columns-nothing (drop n columns))
    ∙ xor_zero_r (sum_of_columns (take n columns) x)
  where
    first : length (take n columns) ≡ n
    first = length-take-le n columns enough

module _ (n : ℕ) where
  -- a digit moved up by one place more
  one_up : (d j : ℕ) → d * 2 ^ (n * j) * 2 ^ n ≡ d * 2 ^ (n * suc j)
  one_up d j =
      mul_assoc d (2 ^ (n * j)) (2 ^ n)
      ∙ ap (λ (z : ℕ). d * z) (sym (pow-add 2 (n * j) n) ∙ ap (λ (e : ℕ). 2 ^ e) (sym (mul-suc n j)))

  module _ (places : ℕ) (columns : List ℕ) (whole : length columns ≡ n * suc places) where
    enough : n ≤ length columns
    enough = let more = mul-suc n places in omega (arith, whole, more)

    first : length (take n columns) ≡ n
    first = length-take-le n columns enough

    others : length (drop n columns) ≡ n * places
    others = let more = mul-suc n places in omega (arith, whole, more, length-drop n columns)

    size : length (values_of (take n columns)) ≡ 2 ^ n
    size = length-values_of (take n columns) ∙ ap (λ (k : ℕ). 2 ^ k) first

    -- the lowest digit
    at_first : (d : ℕ) → d < 2 ^ n → get_or (values_of (take n columns) ++ place_tables n places (drop n columns)) (2 ^ n * 0 + d) 0
        ≡ sum_of_columns columns (d * 2 ^ (n * 0))
    at_first d small =
        let place : 2 ^ n * 0 + d ≡ d = omega arith in
        ap (λ (i : ℕ). get_or (values_of (take n columns) ++ place_tables n places (drop n columns)) i 0) place
        ∙ get_or_append_left (values_of (take n columns)) _ 0 d (subst (λ (s : ℕ). d < s) (sym size) small)
        ∙ values_of-at (take n columns) d (subst (λ (k : ℕ). d < 2 ^ k) (sym first) small)
        ∙ sym (to_place columns n d enough small)
        ∙ ap (sum_of_columns columns) (sym (ap (λ (e : ℕ). d * 2 ^ e) (mul-zero n) ∙ mul-one d))

    -- a higher one, by what holds of the other places
    at_other : (j d : ℕ)
        → get_or (place_tables n places (drop n columns)) (2 ^ n * j + d) 0 ≡ sum_of_columns (drop n columns) (d * 2 ^ (n * j))
        → get_or (values_of (take n columns) ++ place_tables n places (drop n columns)) (2 ^ n * suc j + d) 0
        ≡ sum_of_columns columns (d * 2 ^ (n * suc j))
    at_other j d holds =
        let more = mul-suc (2 ^ n) j in
        let place : 2 ^ n * suc j + d ≡ length (values_of (take n columns)) + (2 ^ n * j + d) = omega (arith, more, size) in
        ap (λ (i : ℕ). get_or (values_of (take n columns) ++ place_tables n places (drop n columns)) i 0) place
        ∙ get_or-append-add (values_of (take n columns)) _ (2 ^ n * j + d) 0
        ∙ holds ∙ sym (from_place columns n (d * 2 ^ (n * j)) enough)
        ∙ ap (sum_of_columns columns) (one_up d j)

  -- the entry of digit d at place j is the value of the map there
  pub place_tables-at : (places : ℕ) (columns : List ℕ) → length columns ≡ n * places → (j d : ℕ) → j < places → d < 2 ^ n
      → get_or (place_tables n places columns) (2 ^ n * j + d) 0 ≡ sum_of_columns columns (d * 2 ^ (n * j))
  unfolding place_tables
  place_tables-at zero columns whole j d inside small = absurd (omega (arith, inside))
  place_tables-at (suc places) columns whole zero d inside small = at_first places columns whole d small
  place_tables-at (suc places) columns whole (suc j) d inside small =
      at_other places columns whole j d
      (place_tables-at places (drop n columns) (others places columns whole) j d (omega (arith, inside)) small)

-- the entry at place p of a table for digits to base 16, and of one for bytes
pub digit_table-at : (places : ℕ) (columns : List ℕ) → length columns ≡ 4 * places → (p : ℕ) → p < 16 * places
    → get_or (place_tables 4 places columns) p 0 ≡ sum_of_columns columns (p % 16 * 2 ^ (4 * (p / 16)))
digit_table-at places columns whole p inside =
    let place : p ≡ 16 * (p / 16) + p % 16 = omega arith in
    ap (λ (i : ℕ). get_or (place_tables 4 places columns) i 0) place
    ∙ place_tables-at 4 places columns whole (p / 16) (p % 16) (omega (arith, inside)) (mod-lt p (lit< tt))

byte_table-at : (places : ℕ) (columns : List ℕ) → length columns ≡ 8 * places → (p : ℕ) → p < 256 * places
    → get_or (place_tables 8 places columns) p 0 ≡ sum_of_columns columns (p % 256 * 2 ^ (8 * (p / 256)))
byte_table-at places columns whole p inside =
    let place : p ≡ 256 * (p / 256) + p % 256 = omega arith in
    ap (λ (i : ℕ). get_or (place_tables 8 places columns) i 0) place
    ∙ place_tables-at 8 places columns whole (p / 256) (p % 256) (omega (arith, inside)) (mod-lt p (lit< tt))

-- so the sums of such a table are the map
pub tabled : (rows : ℕ) (columns table : List ℕ) (x : ℕ) → table ≡ place_tables 8 rows columns → length columns ≡ 8 * rows
    → sum_of_entries rows table x ≡ sum_of_columns columns x
tabled rows columns table x same whole =
    sum_of_entries_is (λ y. y) (sum_of_columns columns) (λ a b. refl) (sum_of_columns-sum columns) table rows x
    (λ p below. ap (λ (t : List ℕ). get_or t p 0) same ∙ byte_table-at rows columns whole p below)
    ∙ ap (λ (n : ℕ). sum_of_columns columns (x % 2 ^ n)) (sym whole)
    ∙ sum_of_columns-mod columns x

-- the sum over the table of a byte is the byte's entry
pub one_entry : (table : List ℕ) (x : ℕ) → x < 256 → get_or table x 0 ≡ sum_of_entries 1 table x
unfolding sum_of_entries
one_entry table x fits =
    let byte : x ≡ 256 * 0 + x / 1 % 256 = omega (arith, fits) in
    ap (slice_index table) byte ∙ sym (xor_zero_r (slice_index table (256 * 0 + x / 1 % 256))) ∙ xor_comm (slice_index table (256 * 0 + x / 1 % 256)) 0

-- the columns stand in the table at the powers of two of each byte
unfoldable pub columns_in : ℕ → List ℕ → List ℕ
columns_in zero table = []
columns_in (suc rows) table =
    slice_index table 1 ∷ slice_index table 2 ∷ slice_index table 4 ∷ slice_index table 8 ∷ slice_index table 16
    ∷ slice_index table 32 ∷ slice_index table 64 ∷ slice_index table 128 ∷ columns_in rows (drop 256 table)

-- a table of so many bytes has eight columns for each
pub length-columns_in : (rows : ℕ) (table : List ℕ) → length (columns_in rows table) ≡ 8 * rows
unfolding columns_in
length-columns_in zero table = refl
length-columns_in (suc rows) table =
    ap (λ (n : ℕ). suc (suc (suc (suc (suc (suc (suc (suc n)))))))) (length-columns_in rows (drop 256 table)) ∙ eight_more rows
  where
    eight_more : (n : ℕ) → suc (suc (suc (suc (suc (suc (suc (suc (8 * n)))))))) ≡ 8 * suc n
    eight_more n = omega arith

-- ---- a table that is made

-- the first n places hold the values of v
abbrev pub Hold : (ℕ → ℕ) → ℕ → List ℕ → Type 0
Hold v n table = (p : ℕ) → p < n → get_or table p 0 ≡ v p

-- one entry more
pub entry_set : (v : ℕ → ℕ) (table : List ℕ) (place entry : ℕ) → place < length table → entry ≡ v place → Hold v place table
    → Hold v (place + 1) (set table place entry)
entry_set v table place entry within is entries =
    below_more _ _
    (λ p below. let other : p ≢ place = omega arith in rw get_or-set_other (entries p below))
    (rw get_or-set_same is)

-- the linear map of given images keeps sums
linear_image-sum : (images : List ℕ) → KeepsSums (linear_image images)
linear_image-sum images = (the_linear_map images).of_sum

-- four columns at the lowest digit, and the others at what is left
by_digits : (columns : List ℕ) (x : ℕ) → 4 ≤ length columns
    → sum_of_columns columns x ≡ bit_xor (sum_of_columns (take 4 columns) (x % 16)) (sum_of_columns (drop 4 columns) (x / 16))
by_digits columns x enough =
    ap (λ (cs : List ℕ). sum_of_columns cs x) (sym (take-append-drop 4 columns))
    ∙ sum_of_columns-append (take 4 columns) (drop 4 columns) x
    ∙ ap₂ bit_xor
    (sym (sum_of_columns-mod (take 4 columns) x) ∙ ap (λ (n : ℕ). sum_of_columns (take 4 columns) (x % 2 ^ n)) four)
    (ap (λ (n : ℕ). sum_of_columns (drop 4 columns) (x / 2 ^ n)) four)
  where
    four : length (take 4 columns) ≡ 4
    four = length-take-le 4 columns enough

-- the four images from place n on, at a digit d, are the map at d 2^n
pub value_at_digit : (images : List ℕ) (n d : ℕ) → d < 16 → n + 4 ≤ length images
    → linear_image (take 4 (drop n images)) d ≡ linear_image images (d * 2 ^ n)
value_at_digit images n d small enough =
    let digit : d % 16 ≡ d = omega arith in
    let nothing : d / 16 ≡ 0 = omega arith in
    let within : n ≤ length images = omega (arith, enough) in
    let four : 4 ≤ length (drop n images) = omega (arith, enough, length-drop n images) in
    linear_image-columns (take 4 (drop n images)) d
    ∙ sym (by_digits (drop n images) d four
    ∙ ap₂ bit_xor (ap (sum_of_columns (take 4 (drop n images))) digit)
    (ap (sum_of_columns (drop 4 (drop n images))) nothing ∙ sum_of_columns-nothing (drop 4 (drop n images)))
    ∙ xor_zero_r (sum_of_columns (take 4 (drop n images)) d))
    ∙ sym (from_place images n d within) ∙ sym (linear_image-columns images (d * 2 ^ n))

-- the value of the map that has these images at digit p % 16 of place p / 16
abbrev pub digit_value : List ℕ → ℕ → ℕ
digit_value images p = linear_image images (p % 16 * 2 ^ (4 * (p / 16)))

-- and at byte p % 256 of place p / 256
abbrev pub byte_value : List ℕ → ℕ → ℕ
byte_value images p = linear_image images (p % 256 * 2 ^ (8 * (p / 256)))

-- two digits make a byte
two_digits : (j l h : ℕ) → l < 16 → bit_xor (l * 2 ^ (8 * j)) (h * 2 ^ (8 * j + 4)) ≡ (h * 16 + l) * 2 ^ (8 * j)
two_digits j l h small =
    ap (λ (y : ℕ). bit_xor (l * 2 ^ (8 * j)) y) (ap (λ (y : ℕ). h * y) (pow-add 2 (8 * j) 4) ∙ moved (2 ^ (8 * j)))
    ∙ xor_shl (8 * j) l (h * 16)
    ∙ ap (λ (y : ℕ). y * 2 ^ (8 * j)) (xor_comm l (h * 16) ∙ xor_shifted h 4 l small)
  where
    moved : (p : ℕ) → h * (p * 16) ≡ h * 16 * p
    moved p = omega arith

-- an entry for a byte is the sum of the values at its two digits to base 16
pub byte_of_digits : (images values : List ℕ) → Hold (digit_value images) 512 values → (p : ℕ) → p < 4096
    → bit_xor (get_or values (32 * (p / 256) + p % 16) 0) (get_or values (32 * (p / 256) + 16 + p % 256 / 16) 0)
    ≡ byte_value images p
byte_of_digits images values held p below =
    let low_inside : 32 * (p / 256) + p % 16 < 512 = omega arith in
    let high_inside : 32 * (p / 256) + 16 + p % 256 / 16 < 512 = omega arith in
    let low_digit : (32 * (p / 256) + p % 16) % 16 ≡ p % 16 = omega arith in
    let low_place : 4 * ((32 * (p / 256) + p % 16) / 16) ≡ 8 * (p / 256) = omega arith in
    let high_digit : (32 * (p / 256) + 16 + p % 256 / 16) % 16 ≡ p % 256 / 16 = omega arith in
    let high_place : 4 * ((32 * (p / 256) + 16 + p % 256 / 16) / 16) ≡ 8 * (p / 256) + 4 = omega arith in
    let byte : p % 256 / 16 * 16 + p % 16 ≡ p % 256 = omega arith in
    ap₂ bit_xor
    (held (32 * (p / 256) + p % 16) low_inside
    ∙ ap₂ (λ (d n : ℕ). linear_image images (d * 2 ^ n)) low_digit low_place)
    (held (32 * (p / 256) + 16 + p % 256 / 16) high_inside
    ∙ ap₂ (λ (d n : ℕ). linear_image images (d * 2 ^ n)) high_digit high_place)
    ∙ sym (linear_image-sum images (p % 16 * 2 ^ (8 * (p / 256))) (p % 256 / 16 * 2 ^ (8 * (p / 256) + 4)))
    ∙ ap (linear_image images)
    (two_digits (p / 256) (p % 16) (p % 256 / 16) (mod-lt p (lit< tt)) ∙ ap (λ (b : ℕ). b * 2 ^ (8 * (p / 256))) byte)

-- the sum of the entries of a table that holds the values at bytes is the map
pub made_table : (images table : List ℕ) → length images ≡ 128 → Hold (byte_value images) 4096 table → (x : ℕ)
    → sum_of_entries 16 table x ≡ linear_image images x
made_table images table whole held x =
    sum_of_entries_is (λ y. y) (linear_image images) (λ a b. refl) (linear_image-sum images) table 16 x held
    ∙ linear_image-columns images (x % 2 ^ 128)
    ∙ ap (λ (n : ℕ). sum_of_columns images (x % 2 ^ n)) (sym whole)
    ∙ sum_of_columns-mod images x ∙ sym (linear_image-columns images x)
