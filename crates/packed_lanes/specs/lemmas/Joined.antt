-- The words of a block, and its number, of which they are the digits. These lemmas stand here since the impls of blocks name them.
use Rattle.std.proofs.Common.{◌≡◌, ℕ, ◌+◌, ◌*◌, ◌/◌, ◌%◌, ◌^◌, ◌<◌, suc, zero, true, List, [], ◌∷◌, length, get_or, set, refl, sym, ap, ap₂, ◌∙◌, arith, subst, length-set, get_or-set_same, get_or-set_other}
use Rattle.std.specs.Prelude.{◌-◌, replicate}
use Rattle.std.specs.Bool.{nat_eq, nat_lt}
use Rattle.std.specs.List.{list_all}
use Rattle.std.proofs.lemmas.Bool.{and_from, and_parts, eqb-true, lt-ltb, ltb-true}
use Rattle.std.proofs.lemmas.Bool.Decides.{nat_tests}
use Rattle.std.proofs.Math.Nat.{div-one, zero-div}
use Rattle.std.proofs.lemmas.Nat.{pow_pos, pow-add, shr-shr, mod_low, shr_high, mul-add-lt}
use Rattle.std.proofs.lemmas.List.{length-replicate}
use native.Mathlib.Nat.{mod-eq_of_lt}
use Rattle.field_base.specs.Chunks.{chunk, chunks, joined}
use Rattle.packed_lanes.specs.lemmas.Chunk.{chunks-front}
use Rattle.packed_lanes.specs.Parts.{is_whole, IsWithPart}

-- each word of a list that passes the test is below 2 ^ width
pub words_below : (width : ℕ) (words : List ℕ) → list_all (λ word. nat_lt word (2 ^ width)) words ≡ true → (i : ℕ) → get_or words i 0 < 2 ^ width
words_below width [] whole i = pow_pos width
words_below width (word ∷ words) whole zero = ltb-true word (2 ^ width) (and_parts (nat_lt word (2 ^ width)) (list_all (λ x. nat_lt x (2 ^ width)) words) whole).0
words_below width (word ∷ words) whole (suc i) =
    words_below width words (and_parts (nat_lt word (2 ^ width)) (list_all (λ x. nat_lt x (2 ^ width)) words) whole).1 i

-- a list of numbers below 2 ^ width passes the test
pub all_below : (width : ℕ) (words : List ℕ) → ((i : ℕ) → get_or words i 0 < 2 ^ width) → list_all (λ word. nat_lt word (2 ^ width)) words ≡ true
all_below width [] below = refl
all_below width (word ∷ words) below =
    and_from (nat_lt word (2 ^ width)) (list_all (λ x. nat_lt x (2 ^ width)) words) (lt-ltb word (2 ^ width) (below 0)) (all_below width words (λ i. below (suc i)))

-- a number is itself
same_number : (n : ℕ) → nat_eq n n ≡ true
same_number n = grind (arith, nat_tests)

-- with one word replaced by a number below 2 ^ width, all words still are below it
pub set_below : (width : ℕ) (words : List ℕ) → ((i : ℕ) → get_or words i 0 < 2 ^ width) → (i v : ℕ) → v < 2 ^ width
    → (k : ℕ) → get_or (set words i v) k 0 < 2 ^ width
set_below width [] below i v fits k = pow_pos width
set_below width (word ∷ words) below zero v fits zero = fits
set_below width (word ∷ words) below zero v fits (suc k) = below (suc k)
set_below width (word ∷ words) below (suc i) v fits zero = below 0
set_below width (word ∷ words) below (suc i) v fits (suc k) = set_below width words (λ j. below (suc j)) i v fits k

-- the number of n words is below 2 ^ (width * n)
joined-lt : (width : ℕ) (words : List ℕ) → ((i : ℕ) → get_or words i 0 < 2 ^ width) → joined width words < 2 ^ (width * length words)
unfolding joined
joined-lt width [] below = pow_pos (width * 0)
joined-lt width (word ∷ words) below =
    let rest = joined-lt width words (λ i. below (suc i)) in
    let less = mul-add-lt (joined width words) (2 ^ width) word (2 ^ (width * length words)) rest (below 0) in
    let power = pow-add 2 width (width * length words) in
    let places : width * suc (length words) ≡ width + width * length words = omega arith in
    rw (places, power) less

-- digit k of the number of a list is word k
pub joined-part : (width : ℕ) (words : List ℕ) → ((i : ℕ) → get_or words i 0 < 2 ^ width) → (k : ℕ) → chunk width k (joined width words) ≡ get_or words k 0
unfolding joined
joined-part width [] below k = ap (λ (x : ℕ). x % 2 ^ width) (zero-div (2 ^ (width * k))) ∙ mod-eq_of_lt (pow_pos width)
joined-part width (word ∷ words) below zero =
    let none : width * 0 ≡ 0 = omega arith in
    ap (λ (x : ℕ). (joined width words * 2 ^ width + word) / 2 ^ x % 2 ^ width) none
    ∙ ap (λ (x : ℕ). x % 2 ^ width) (div-one (joined width words * 2 ^ width + word))
    ∙ mod_low (joined width words) width word (below 0)
joined-part width (word ∷ words) below (suc k) =
    let more : width * suc k ≡ width + width * k = omega arith in
    ap (λ (x : ℕ). (joined width words * 2 ^ width + word) / 2 ^ x % 2 ^ width) more
    ∙ ap (λ (x : ℕ). x % 2 ^ width) (sym (shr-shr (joined width words * 2 ^ width + word) width (width * k)))
    ∙ ap (λ (x : ℕ). x / 2 ^ (width * k) % 2 ^ width) (shr_high (joined width words) width word (below 0))
    ∙ joined-part width words (λ i. below (suc i)) k

-- the words are the digits of their number
pub joined-parts : (width : ℕ) (words : List ℕ) → ((i : ℕ) → get_or words i 0 < 2 ^ width) → words ≡ chunks width (length words) (joined width words)
unfolding joined chunks
joined-parts width [] below = refl
joined-parts width (word ∷ words) below =
    ap₂ (λ (x : ℕ) (xs : List ℕ). x ∷ xs)
    (sym (mod_low (joined width words) width word (below 0)))
    (joined-parts width words (λ i. below (suc i))
    ∙ ap (chunks width (length words)) (sym (shr_high (joined width words) width word (below 0))))
    ∙ sym (chunks-front width (length words) (joined width words * 2 ^ width + word))

-- the number of a list with word i replaced
pub joined-set : (width : ℕ) (words : List ℕ) → ((i : ℕ) → get_or words i 0 < 2 ^ width) → (i v : ℕ) → i < length words → v < 2 ^ width
    → IsWithPart width (length words) (joined width words) i v (joined width (set words i v))
joined-set width words below i v inside fits = (
  joined-part width (set words i v) after i ∙ get_or-set_same words i v 0 inside,
  λ k less other. joined-part width (set words i v) after k ∙ get_or-set_other words i k v 0 other ∙ sym (joined-part width words below k),
)
  where
    after : (k : ℕ) → get_or (set words i v) k 0 < 2 ^ width
    after k = set_below width words below i v fits k

-- lists of the same length and number are equal
pub same_words : (width : ℕ) (xs ys : List ℕ) → ((i : ℕ) → get_or xs i 0 < 2 ^ width) → ((i : ℕ) → get_or ys i 0 < 2 ^ width)
    → length xs ≡ length ys → joined width xs ≡ joined width ys → xs ≡ ys
unfolding joined
same_words width [] [] left right long same = refl
same_words width [] (y ∷ ys) left right long same = absurd (omega arith)
same_words width (x ∷ xs) [] left right long same = absurd (omega arith)
same_words width (x ∷ xs) (y ∷ ys) left right long same =
    ap₂ (λ (z : ℕ) (zs : List ℕ). z ∷ zs)
    (sym (mod_low (joined width xs) width x (left 0)) ∙ ap (λ (z : ℕ). z % 2 ^ width) same ∙ mod_low (joined width ys) width y (right 0))
    (same_words width xs ys (λ i. left (suc i)) (λ i. right (suc i)) (omega arith)
    (sym (shr_high (joined width xs) width x (left 0)) ∙ ap (λ (z : ℕ). z / 2 ^ width) same ∙ shr_high (joined width ys) width y (right 0)))

-- a whole list has `count` words
pub whole-length : (width count : ℕ) (words : List ℕ) → is_whole width count words ≡ true → length words ≡ count
whole-length width count words whole =
    eqb-true (length words) count (and_parts (nat_eq (length words) count) (list_all (λ x. nat_lt x (2 ^ width)) words) whole).0

-- each word of a whole list is below 2 ^ width
pub whole-below : (width count : ℕ) (words : List ℕ) → is_whole width count words ≡ true → (i : ℕ) → get_or words i 0 < 2 ^ width
whole-below width count words whole =
    words_below width words (and_parts (nat_eq (length words) count) (list_all (λ x. nat_lt x (2 ^ width)) words) whole).1

-- a list of `count` words below 2 ^ width is whole
pub whole_from : (width count : ℕ) (words : List ℕ) → length words ≡ count → ((i : ℕ) → get_or words i 0 < 2 ^ width) → is_whole width count words ≡ true
whole_from width count words long below =
    and_from (nat_eq (length words) count) (list_all (λ x. nat_lt x (2 ^ width)) words)
    (ap (λ (n : ℕ). nat_eq n count) long ∙ same_number count) (all_below width words below)

-- the number of a whole list is below 2 ^ (width * count)
pub whole_joined-lt : (width count : ℕ) (words : List ℕ) → is_whole width count words ≡ true → joined width words < 2 ^ (width * count)
whole_joined-lt width count words whole =
    subst (λ (n : ℕ). joined width words < 2 ^ (width * n)) (whole-length width count words whole)
    (joined-lt width words (whole-below width count words whole))

-- whole lists of the same number are equal
pub same_from_joined : (width count : ℕ) (xs ys : List ℕ) → is_whole width count xs ≡ true → is_whole width count ys ≡ true
    → joined width xs ≡ joined width ys → xs ≡ ys
same_from_joined width count xs ys left right =
    same_words width xs ys (whole-below width count xs left) (whole-below width count ys right)
    (whole-length width count xs left ∙ sym (whole-length width count ys right))

-- a whole list is the first `count` digits of its number
pub chunks_of_whole : (width count : ℕ) (words : List ℕ) → is_whole width count words ≡ true → words ≡ chunks width count (joined width words)
chunks_of_whole width count words whole =
    joined-parts width words (whole-below width count words whole)
    ∙ ap (λ (n : ℕ). chunks width n (joined width words)) (whole-length width count words whole)

-- replacing word i of a whole list replaces digit i of its number
pub with_part : (width count : ℕ) (words : List ℕ) → is_whole width count words ≡ true → (i v : ℕ) → i < count → v < 2 ^ width
    → IsWithPart width count (joined width words) i v (joined width (set words i v))
with_part width count words whole i v inside fits =
    let long = whole-length width count words whole in
    subst (λ (n : ℕ). IsWithPart width n (joined width words) i v (joined width (set words i v))) long
    (joined-set width words (whole-below width count words whole) i v (subst (λ (n : ℕ). i < n) (sym long) inside) fits)

-- a whole list stays whole when a word is replaced
pub whole-set : (width count : ℕ) (words : List ℕ) → is_whole width count words ≡ true → (i v : ℕ) → v < 2 ^ width
    → is_whole width count (set words i v) ≡ true
whole-set width count words whole i v fits =
    whole_from width count (set words i v) (length-set words i v ∙ whole-length width count words whole)
    (set_below width words (whole-below width count words whole) i v fits)

-- a list that repeats a word below 2 ^ width is whole
pub whole-replicate : (width count v : ℕ) → v < 2 ^ width → is_whole width count (replicate count v) ≡ true
whole-replicate width count v fits = whole_from width count (replicate count v) (length-replicate count v) (each count)
  where
    each : (n i : ℕ) → get_or (replicate n v) i 0 < 2 ^ width
    each zero i = pow_pos width
    each (suc n) zero = fits
    each (suc n) (suc i) = each n i

-- zeros have the number 0
pub joined-zeros : (width count : ℕ) → joined width (replicate count 0) ≡ 0
unfolding joined
joined-zeros width zero = refl
joined-zeros width (suc count) = ap (λ (x : ℕ). x * 2 ^ width + 0) (joined-zeros width count) ∙ nothing (2 ^ width)
  where
    nothing : (n : ℕ) → 0 * n + 0 ≡ 0
    nothing n = omega arith

-- words of ones have the number 2 ^ (width * count) - 1
pub joined-ones : (width count : ℕ) → joined width (replicate count (2 ^ width - 1)) ≡ 2 ^ (width * count) - 1
unfolding joined
joined-ones width zero = let none : width * 0 ≡ 0 = omega arith in ap (λ (x : ℕ). 2 ^ x - 1) (sym none)
joined-ones width (suc count) =
    let places : width * suc count ≡ width * count + width = omega arith in
    let whole : 2 ^ (width * suc count) ≡ 2 ^ (width * count) * 2 ^ width = ap (λ (x : ℕ). 2 ^ x) places ∙ pow-add 2 (width * count) width in
    let below = ap (λ (x : ℕ). x * 2 ^ width + (2 ^ width - 1)) (joined-ones width count) in
    let some = pow_pos width in
    let more = pow_pos (width * count) in
    below ∙ ones_more (2 ^ (width * count)) (2 ^ width) more some ∙ ap (λ (x : ℕ). x - 1) (sym whole)
  where
    ones_more : (a b : ℕ) → 0 < a → 0 < b → (a - 1) * b + (b - 1) ≡ a * b - 1
    ones_more (suc a) (suc b) _ _ = grind arith
    ones_more zero b less _ = absurd (omega arith)
    ones_more (suc a) zero _ less = absurd (omega arith)
