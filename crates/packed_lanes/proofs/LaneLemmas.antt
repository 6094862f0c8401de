-- The bits of parts of a number, of a number with a run of bits replaced, and of two numbers whose blocks are exchanged.
use Rattle.std.proofs.Common.{◌≡◌, ℕ, ◌+◌, ◌*◌, ◌/◌, ◌%◌, ◌^◌, ◌<◌, ◌≤◌, ◌-◌, Bool, true, min, sym, ap, ap₂, ◌∙◌, arith, inl, inr, ◌⊎◌, subst}
use Rattle.std.specs.Prelude.{bit_and, bit_xor}
use Rattle.std.specs.Int.{bit_at}
use Rattle.std.proofs.lemmas.Nat.{pow_pos, shr-shr, xor_shr, xor_mod, and_shr, and_mod, and_mask, div_below}
use Rattle.std.proofs.lemmas.Nat.Bits.{bit_at_cat_low, bit_at_cat_high, bit_at_and, bit_at_xor, bit_at-zero, bit_at-lt, bit_at_above, ones_shr, same_from_bits_below}
use native.Mathlib.Nat.{mod-lt}
use Rattle.field_base.specs.Chunks.{chunk}
use Rattle.packed_lanes.specs.Parts.{HasEvenBlocks, HasFirstBlocks, HasSecondBlocks, IsRowOf, IsWithField, IsZipped, difference}
use Rattle.packed_lanes.proofs.BlockPlaces.{before_quotient, odd_is_above}
use Rattle.std.proofs.lemmas.Bool.{cases_lt}
use Rattle.field_base.proofs.BasisSums.{bit_at-mod}

-- bit j of what is left after k bits is bit k + j
pub bit_at_shr : (n k j : ℕ) → bit_at (n / 2 ^ k) j ≡ bit_at n (k + j)
bit_at_shr n k j = ap (λ (x : ℕ). x % 2) (shr-shr n k j)

-- lane j of a number lies in part j / w, at its place j % w
pub lane-part : (w n i j : ℕ) → j < w → bit_at (chunk w i n) j ≡ bit_at n (w * i + j)
lane-part w n i j less = bit_at-mod (n / 2 ^ (w * i)) w j less ∙ bit_at_shr n (w * i) j

-- a digit of an exclusive or is that of the digits
pub part_xor : (w a b i : ℕ) → chunk w i (bit_xor a b) ≡ bit_xor (chunk w i a) (chunk w i b)
part_xor w a b i = ap (λ (x : ℕ). x % 2 ^ w) (xor_shr a b (w * i)) ∙ xor_mod (a / 2 ^ (w * i)) (b / 2 ^ (w * i)) w

-- a digit of a conjunction is that of the digits
pub part_and : (w a b i : ℕ) → chunk w i (bit_and a b) ≡ bit_and (chunk w i a) (chunk w i b)
part_and w a b i = ap (λ (x : ℕ). x % 2 ^ w) (and_shr a b (w * i)) ∙ and_mod (a / 2 ^ (w * i)) (b / 2 ^ (w * i)) w

-- a power of two is not 0
pub power_some : (k n : ℕ) → n ≡ 2 ^ k → 0 < n
power_some k n is = subst (λ (x : ℕ). 0 < x) (sym is) (pow_pos k)

-- numbers of equal parts are equal
pub same_from_parts : (w count a b : ℕ) → 0 < w → a < 2 ^ (w * count) → b < 2 ^ (w * count)
    → ((i : ℕ) → i < count → chunk w i a ≡ chunk w i b) → a ≡ b
same_from_parts w count a b some a_fits b_fits same =
    same_from_bits_below (w * count) a b a_fits b_fits each
  where
    each : (j : ℕ) → j < w * count → bit_at a j ≡ bit_at b j
    each j less =
        let inside : j % w < w = mod-lt j some in
        let part : j / w < count = div_below j w count some (subst (λ (x : ℕ). j < x) (omega arith) less) in
        let place : w * (j / w) + j % w ≡ j = omega arith in
        ap (bit_at a) (sym place) ∙ sym (lane-part w a (j / w) (j % w) inside) ∙ ap (λ (x : ℕ). bit_at x (j % w)) (same (j / w) part)
        ∙ lane-part w b (j / w) (j % w) inside ∙ ap (bit_at b) place

-- a shift by s has no bit below s
bit_at_shl_low : (n s j : ℕ) → j < s → bit_at (n * 2 ^ s) j ≡ 0
bit_at_shl_low n s j less = ap (λ (x : ℕ). bit_at x j) (omega arith) ∙ bit_at_cat_low n s 0 j less ∙ bit_at-zero j

-- from s on, a shift by s has the bits of the number
bit_at_shl_high : (n s j : ℕ) → s ≤ j → bit_at (n * 2 ^ s) j ≡ bit_at n (j - s)
bit_at_shl_high n s j more = ap (λ (x : ℕ). bit_at x j) (omega arith) ∙ bit_at_cat_high n s 0 j (pow_pos s) more

-- a bit and 1 is the bit
min_one : (x y : ℕ) → x < 2 → y ≡ 1 → min x y ≡ x
min_one x y less is = omega arith

-- a bit and 0 is 0
min_zero : (x y : ℕ) → y ≡ 0 → min x y ≡ 0
min_zero x y is = omega arith

-- in an even block, the difference is the sum of the left bit a block further and the right bit
even_difference : (w s kept left right j : ℕ) → HasEvenBlocks w s kept → j < w → j / s % 2 ≡ 0
    → bit_at (difference s kept left right) j ≡ (bit_at left (s + j) + bit_at right j) % 2
even_difference w s kept left right j even less is =
    bit_at_and (bit_xor (left / 2 ^ s) right) kept j
    ∙ min_one (bit_at (bit_xor (left / 2 ^ s) right) j) (bit_at kept j) (bit_at-lt (bit_xor (left / 2 ^ s) right) j) (even j less ∙ omega arith)
    ∙ bit_at_xor (left / 2 ^ s) right j ∙ ap (λ (x : ℕ). (x + bit_at right j) % 2) (bit_at_shr left s j)

-- in an odd block there is no difference
odd_difference : (w s kept left right j : ℕ) → HasEvenBlocks w s kept → j < w → j / s % 2 ≡ 1
    → bit_at (difference s kept left right) j ≡ 0
odd_difference w s kept left right j even less is =
    bit_at_and (bit_xor (left / 2 ^ s) right) kept j
    ∙ min_zero (bit_at (bit_xor (left / 2 ^ s) right) j) (bit_at kept j) (even j less ∙ omega arith)

-- x + (x + y) = y, modulo 2
twice : (x y : ℕ) → x < 2 → y < 2 → (x + (x + y) % 2) % 2 ≡ y
twice x y p q = omega arith

-- y + (x + y) = x, modulo 2
twice_right : (x y : ℕ) → x < 2 → y < 2 → (y + (x + y) % 2) % 2 ≡ x
twice_right x y p q = omega arith

-- x + 0 = x, modulo 2
alone : (x y : ℕ) → x < 2 → y ≡ 0 → (x + y) % 2 ≡ x
alone x y p q = omega arith

-- the first result of the exchange: even blocks of the left operand, and below each odd block the even one of the right
first_even : (w s kept left right j : ℕ) → 0 < s → HasEvenBlocks w s kept → j < w → j / s % 2 ≡ 0
    → bit_at (bit_xor left (difference s kept left right * 2 ^ s % 2 ^ w)) j ≡ bit_at left j
first_even w s kept left right j some even less is =
    bit_at_xor left (difference s kept left right * 2 ^ s % 2 ^ w) j
    ∙ alone (bit_at left j) (bit_at (difference s kept left right * 2 ^ s % 2 ^ w) j) (bit_at-lt left j)
    (bit_at-mod (difference s kept left right * 2 ^ s) w j less ∙ cases (cases_lt j s))
  where
    cases : (j < s) ⊎ (s ≤ j) → bit_at (difference s kept left right * 2 ^ s) j ≡ 0
    cases (inl below) = bit_at_shl_low (difference s kept left right) s j below
    cases (inr more) =
        let before = before_quotient s j some more in
        bit_at_shl_high (difference s kept left right) s j more
        ∙ odd_difference w s kept left right (j - s) even (omega arith) (omega arith)

-- the odd blocks of the first result are the even ones of the right operand
first_odd : (w s kept left right j : ℕ) → 0 < s → HasEvenBlocks w s kept → j < w → j / s % 2 ≡ 1
    → bit_at (bit_xor left (difference s kept left right * 2 ^ s % 2 ^ w)) j ≡ bit_at right (j - s)
first_odd w s kept left right j some even less is =
    let more = odd_is_above s j some is in
    let before = before_quotient s j some more in
    let place : s + (j - s) ≡ j = omega arith in
    bit_at_xor left (difference s kept left right * 2 ^ s % 2 ^ w) j
    ∙ ap (λ (x : ℕ). (bit_at left j + x) % 2)
    (bit_at-mod (difference s kept left right * 2 ^ s) w j less ∙ bit_at_shl_high (difference s kept left right) s j more
    ∙ even_difference w s kept left right (j - s) even (omega arith) (omega arith)
    ∙ ap (λ (x : ℕ). (bit_at left x + bit_at right (j - s)) % 2) place)
    ∙ twice (bit_at left j) (bit_at right (j - s)) (bit_at-lt left j) (bit_at-lt right (j - s))

-- the even blocks of the second result are the odd ones of the left operand
second_even : (w s kept left right j : ℕ) → HasEvenBlocks w s kept → j < w → j / s % 2 ≡ 0
    → bit_at (bit_xor right (difference s kept left right)) j ≡ bit_at left (j + s)
second_even w s kept left right j even less is =
    bit_at_xor right (difference s kept left right) j
    ∙ ap (λ (x : ℕ). (bit_at right j + x) % 2) (even_difference w s kept left right j even less is)
    ∙ twice_right (bit_at left (s + j)) (bit_at right j) (bit_at-lt left (s + j)) (bit_at-lt right j)
    ∙ ap (bit_at left) (omega arith)

-- the odd blocks of the second result are those of the right operand
second_odd : (w s kept left right j : ℕ) → HasEvenBlocks w s kept → j < w → j / s % 2 ≡ 1
    → bit_at (bit_xor right (difference s kept left right)) j ≡ bit_at right j
second_odd w s kept left right j even less is =
    bit_at_xor right (difference s kept left right) j
    ∙ alone (bit_at right j) (bit_at (difference s kept left right) j) (bit_at-lt right j) (odd_difference w s kept left right j even less is)

-- moving the difference up, and adding it to the left operand, gives the first result of interleaving
pub first_blocks : (w s kept left right : ℕ) → 0 < s → HasEvenBlocks w s kept
    → HasFirstBlocks w s left right (bit_xor left (difference s kept left right * 2 ^ s % 2 ^ w))
first_blocks w s kept left right some even j less =
    (first_even w s kept left right j some even less, first_odd w s kept left right j some even less)

-- adding the difference to the right operand gives the second result of interleaving
pub second_blocks : (w s kept left right : ℕ) → HasEvenBlocks w s kept → HasSecondBlocks w s left right (bit_xor right (difference s kept left right))
second_blocks w s kept left right even j less = (second_even w s kept left right j even less, second_odd w s kept left right j even less)

-- a run of bits replaced by its difference from them
pub field_bits : (w s m word value : ℕ) → s + m ≤ w
    → IsWithField w s m word value (bit_xor word (bit_and (bit_xor (word / 2 ^ s) value) (2 ^ m - 1) * 2 ^ s % 2 ^ w))
field_bits w s m word value fits = (inside, below, above)
  where
    change : ℕ
    change = bit_and (bit_xor (word / 2 ^ s) value) (2 ^ m - 1)

    at : (j : ℕ) → j < w → bit_at (bit_xor word (change * 2 ^ s % 2 ^ w)) j ≡ (bit_at word j + bit_at (change * 2 ^ s) j) % 2
    at j less = bit_at_xor word (change * 2 ^ s % 2 ^ w) j ∙ ap (λ (x : ℕ). (bit_at word j + x) % 2) (bit_at-mod (change * 2 ^ s) w j less)

    inside : (j : ℕ) → j < m → bit_at (bit_xor word (change * 2 ^ s % 2 ^ w)) (s + j) ≡ bit_at value j
    inside j less =
        let place : s + j - s ≡ j = omega arith in
        at (s + j) (omega arith)
        ∙ ap (λ (x : ℕ). (bit_at word (s + j) + x) % 2)
        (bit_at_shl_high change s (s + j) (omega arith) ∙ ap (bit_at change) place
        ∙ ap (λ (x : ℕ). bit_at x j) (and_mask (bit_xor (word / 2 ^ s) value) m)
        ∙ bit_at-mod (bit_xor (word / 2 ^ s) value) m j less ∙ bit_at_xor (word / 2 ^ s) value j
        ∙ ap (λ (x : ℕ). (x + bit_at value j) % 2) (bit_at_shr word s j))
        ∙ twice (bit_at word (s + j)) (bit_at value j) (bit_at-lt word (s + j)) (bit_at-lt value j)

    below : (j : ℕ) → j < s → bit_at (bit_xor word (change * 2 ^ s % 2 ^ w)) j ≡ bit_at word j
    below j less =
        at j (omega arith) ∙ alone (bit_at word j) (bit_at (change * 2 ^ s) j) (bit_at-lt word j) (bit_at_shl_low change s j less)

    above : (j : ℕ) → s + m ≤ j → j < w → bit_at (bit_xor word (change * 2 ^ s % 2 ^ w)) j ≡ bit_at word j
    above j more less =
        at j less
        ∙ alone (bit_at word j) (bit_at (change * 2 ^ s) j) (bit_at-lt word j)
        (bit_at_shl_high change s j (omega arith)
        ∙ ap (λ (x : ℕ). bit_at x (j - s)) (and_mask (bit_xor (word / 2 ^ s) value) m)
        ∙ bit_at_above (bit_xor (word / 2 ^ s) value % 2 ^ m) m (j - s) (mod-lt (bit_xor (word / 2 ^ s) value) (pow_pos m)) (omega arith))

-- what an operation that goes bit by bit gives of words it gives of rows of them
same_as_zipped : {A : Type 0} (w count bits left right result : ℕ) (number : A → ℕ) (gives : A → A → A → Type 0) (op : ℕ → ℕ → ℕ)
    → 0 < w → bits ≡ w * count → ((a b : ℕ) → a < 2 ^ bits → b < 2 ^ bits → op a b < 2 ^ bits)
    → ((a b i : ℕ) → chunk w i (op a b) ≡ op (chunk w i a) (chunk w i b))
    → left < 2 ^ bits → right < 2 ^ bits → result < 2 ^ bits
    → ((x y z : A) → gives x y z → number z ≡ op (number x) (number y)) → IsZipped w number gives count left right result → result ≡ op left right
same_as_zipped w count bits left right result number gives op some is fits parts left_fits right_fits result_fits law zipped =
    same_from_parts w count result (op left right) some
    (subst (λ (n : ℕ). result < 2 ^ n) is result_fits) (subst (λ (n : ℕ). op left right < 2 ^ n) is (fits left right left_fits right_fits))
    (λ i less. let word = zipped i less in sym word.6 ∙ law word.0 word.1 word.2 word.5 ∙ ap₂ op word.3 word.4 ∙ sym (parts left right i))

-- rows that are zipped word by word, by what computes `op` on words, are a row whose number is `op` of their numbers
pub row_of_zipped : {R A : Type 0} (of : R → ℕ) (is_whole : R → Bool) (w count bits : ℕ) (left right row : R) (number : A → ℕ) (gives : A → A → A → Type 0)
    (op : ℕ → ℕ → ℕ) → 0 < w → bits ≡ w * count → ((a b : ℕ) → a < 2 ^ bits → b < 2 ^ bits → op a b < 2 ^ bits)
    → ((a b i : ℕ) → chunk w i (op a b) ≡ op (chunk w i a) (chunk w i b))
    → ((x : R) → is_whole x ≡ true → of x < 2 ^ bits) → is_whole left ≡ true → is_whole right ≡ true → is_whole row ≡ true
    → ((x y z : A) → gives x y z → number z ≡ op (number x) (number y)) → IsZipped w number gives count (of left) (of right) (of row)
    → IsRowOf of is_whole (op (of left) (of right)) row
row_of_zipped of is_whole w count bits left right row number gives op some is fits parts range left_whole right_whole whole law zipped = record {
  number = same_as_zipped w count bits (of left) (of right) (of row) number gives op some is fits parts (range left left_whole) (range right right_whole) (range row whole) law zipped;
  whole = whole;
}

-- the lowest bits, as the highest moved down
pub low_ones : (w m : ℕ) → m ≤ w → (2 ^ w - 1) / 2 ^ (w - m) ≡ 2 ^ m - 1
low_ones w m fits =
    let count : w - (w - m) ≡ m = omega arith in
    ones_shr w (w - m) (omega arith) ∙ ap (λ (x : ℕ). 2 ^ x - 1) count
