-- The linear map of given images: by its columns one after another, and one image more.
use Rattle.std.proofs.Common.{◌≡◌, ◌≢◌, ℕ, zero, suc, ◌+◌, ◌*◌, ◌/◌, ◌%◌, ◌^◌, ◌<◌, ◌≤◌, true, eqb, List, [], ◌∷◌, length, drop, get_or, drop-cons, refl, sym, ◌∙◌, ap, ap₂, arith}
use Rattle.std.specs.Prelude.{bit_and, bit_xor, slice_index}
use Rattle.std.specs.Int.{bit_at}
use Rattle.std.proofs.lemmas.List.{drop_all}
use Rattle.std.proofs.lemmas.Nat.{and_mask}
use Rattle.std.proofs.lemmas.Nat.Bits.{bit_at_lowest}
use Rattle.std.proofs.lemmas.Bool.{eqb-true}
use native.Mathlib.Nat.{zero-add, zero-mul, one-mul}
use lib.Bits.{xor_assoc, xor_comm, xor_zero_r}
use Rattle.field_base.specs.Basis.{sum_below}
use Rattle.field_base.specs.LinearMaps.{linear_image, IsTheLinearMapOf}
use Rattle.field_base.proofs.AdditiveMaps.{KeepsSums, maps_agree}
use Rattle.field_base.proofs.BasisColumns.{sum_of_columns, sum_of_columns-nothing, sum_of_columns-sum}
use Rattle.field_base.proofs.TableChecks.{passes, passes_at}
use Rattle.field_base.proofs.BasisSums.{sum_below-add, sum_below-same, bit_at-add}

-- the images are the columns
pub linear_image-columns : (images : List ℕ) (x : ℕ) → linear_image images x ≡ sum_of_columns images x
unfolding linear_image sum_of_columns sum_below
linear_image-columns [] x = refl
linear_image-columns (image ∷ images) x =
    let first : suc (length images) ≡ 1 + length images = omega arith in
    ap (sum_below (λ j. bit_at x j * slice_index (image ∷ images) j)) first
    ∙ sum_below-add (λ j. bit_at x j * slice_index (image ∷ images) j) 1 (length images)
    ∙ ap₂ bit_xor
    (ap (λ (d : ℕ). d * image) (bit_at_lowest x))
    (sum_below-same (λ j. bit_at x (1 + j) * slice_index (image ∷ images) (1 + j))
    (λ j. bit_at (x / 2) j * slice_index images j) (length images)
    (λ j below. ap₂ (λ (d a : ℕ). d * a) (bit_at-add x 1 j) (next j))
    ∙ linear_image-columns images (x / 2))
  where
    next : (j : ℕ) → slice_index (image ∷ images) (1 + j) ≡ slice_index images j
    next j =
        let one_more : 1 + j ≡ suc j = omega arith in
        ap (slice_index (image ∷ images)) one_more

-- the map of the images from a place on, by the image there and those after it
pub image_from : (images : List ℕ) (place rest : ℕ) → place < length images → linear_image (drop place images) rest
    ≡ bit_xor (rest % 2 * get_or images place 0) (linear_image (drop (place + 1) images) (rest / 2))
unfolding sum_of_columns
image_from images place rest within =
    let next : suc place ≡ place + 1 = omega arith in
    linear_image-columns (drop place images) rest
    ∙ ap (λ (cs : List ℕ). sum_of_columns cs rest)
    (drop-cons images place 0 within ∙ ap (λ (n : ℕ). get_or images place 0 ∷ drop n images) next)
    ∙ ap (bit_xor (rest % 2 * get_or images place 0)) (sym (linear_image-columns (drop (place + 1) images) (rest / 2)))

-- where the lowest bit is set, the image at a place enters a sum
pub image_enters : (images : List ℕ) (place sum rest : ℕ) → place < length images → bit_and rest 1 ≡ 1
    → bit_xor (bit_xor sum (get_or images place 0)) (linear_image (drop (place + 1) images) (rest / 2))
    ≡ bit_xor sum (linear_image (drop place images) rest)
image_enters images place sum rest within set =
    xor_assoc sum (get_or images place 0) _
    ∙ ap (bit_xor sum)
    (ap (λ (y : ℕ). bit_xor y (linear_image (drop (place + 1) images) (rest / 2)))
    (sym (ap (λ (d : ℕ). d * get_or images place 0) (sym (and_mask rest 1) ∙ set) ∙ one-mul (get_or images place 0)))
    ∙ sym (image_from images place rest within))

-- and where it is not, the sum stays
pub image_stays : (images : List ℕ) (place sum rest : ℕ) → place < length images → bit_and rest 1 ≢ 1
    → bit_xor sum (linear_image (drop (place + 1) images) (rest / 2)) ≡ bit_xor sum (linear_image (drop place images) rest)
image_stays images place sum rest within clear =
    ap (bit_xor sum)
    (sym (xor_comm 0 (linear_image (drop (place + 1) images) (rest / 2)) ∙ xor_zero_r _)
    ∙ ap (λ (y : ℕ). bit_xor y (linear_image (drop (place + 1) images) (rest / 2)))
    (sym (ap (λ (d : ℕ). d * get_or images place 0) none ∙ zero-mul (get_or images place 0)))
    ∙ sym (image_from images place rest within))
  where
    none : rest % 2 ≡ 0
    none = let is : bit_and rest 1 ≡ rest % 2 = and_mask rest 1 in omega (arith, is, clear)

-- past the last image nothing is left
pub images_end : (images : List ℕ) (place sum rest : ℕ) → length images ≤ place
    → bit_xor sum (linear_image (drop place images) rest) ≡ sum
unfolding linear_image sum_below
images_end images place sum rest past =
    ap (λ (others : List ℕ). bit_xor sum (linear_image others rest)) (drop_all place images past) ∙ xor_zero_r sum

-- ---- what the map is

-- the map of given columns takes bit j to column j
sum_of_columns-bit : (images : List ℕ) (j : ℕ) → sum_of_columns images (2 ^ j) ≡ slice_index images j
unfolding sum_of_columns
sum_of_columns-bit [] j = refl
sum_of_columns-bit (image ∷ images) zero =
    ap₂ bit_xor (one-mul image) (sum_of_columns-nothing images) ∙ xor_zero_r image
sum_of_columns-bit (image ∷ images) (suc j) =
    let even : 2 ^ suc j % 2 ≡ 0 = omega arith in
    let half : 2 ^ suc j / 2 ≡ 2 ^ j = omega arith in
    ap₂ bit_xor (ap (λ (d : ℕ). d * image) even ∙ zero-mul image) (ap (sum_of_columns images) half ∙ sum_of_columns-bit images j)
    ∙ xor_comm 0 (slice_index images j) ∙ xor_zero_r (slice_index images j)

-- `linear_image` is the one map that keeps sums and takes bit j to image j
pub the_linear_map : (images : List ℕ) → IsTheLinearMapOf images (linear_image images)
the_linear_map images = record { of_sum = sums; of_bit = bits; only = alone }
  where
    sums : KeepsSums (linear_image images)
    sums a b =
        linear_image-columns images (bit_xor a b) ∙ sum_of_columns-sum images a b
        ∙ sym (ap₂ bit_xor (linear_image-columns images a) (linear_image-columns images b))

    bits : (j : ℕ) → j < length images → linear_image images (2 ^ j) ≡ slice_index images j
    bits j below = linear_image-columns images (2 ^ j) ∙ sum_of_columns-bit images j

    alone : (g : ℕ → ℕ) → KeepsSums g → ((j : ℕ) → j < length images → g (2 ^ j) ≡ slice_index images j)
        → (x : ℕ) → x < 2 ^ length images → g x ≡ linear_image images x
    alone g keeps agrees =
        maps_agree g (linear_image images) keeps sums (length images) (λ j below. agrees j below ∙ sym (bits j below))

-- columns that are the values at 1, 2, 4, .. of a map that keeps sums give the map
pub columns_checked : (f : ℕ → ℕ) → KeepsSums f → (columns : List ℕ)
    → passes (λ j column. eqb column (f (2 ^ j))) 0 columns ≡ true → (x : ℕ) → x < 2 ^ length columns
    → sum_of_columns columns x ≡ f x
columns_checked f keeps columns pass x fits =
    sym (linear_image-columns columns x) ∙ sym ((the_linear_map columns).only f keeps column_is x fits)
  where
    column_is : (j : ℕ) → j < length columns → f (2 ^ j) ≡ slice_index columns j
    column_is j below =
        sym (eqb-true (get_or columns j 0) (f (2 ^ (0 + j))) (passes_at (λ i column. eqb column (f (2 ^ i))) 0 columns j pass below)
        ∙ ap (λ (i : ℕ). f (2 ^ i)) (zero-add j))
