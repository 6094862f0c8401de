-- Derivatives of the columns of a strip: of two halves of rows, and of the elements of the words.
use Rattle.std.proofs.Common.{◌≡◌, inl, inr, ℕ, suc, ◌+◌, ◌-◌, ◌*◌, ◌/◌, ◌%◌, ◌^◌, ◌<◌, ◌≤◌, List, ◌++◌, length, get_or, map, refl, sym, ◌∙◌, ap, ap₂, arith, lit<}
use Rattle.std.specs.Prelude.{bit_xor, slice_index}
use Rattle.std.proofs.Math.Nat.{pow-le-pow_right, two-pow-succ}
use Rattle.std.proofs.lemmas.Bool.{cases_lt}
use Rattle.std.proofs.lemmas.List.{get_or-append-add, get_or_append_left, length-append}
use Rattle.additive_transforms.specs.Columns.{column_of}
use Rattle.field_base.specs.Tower.{tower_mul}
use Rattle.ghash_slices.specs.Cantor.{point, polynomial_value}
use Rattle.additive_transforms.specs.Words.{level_element}
use Rattle.word_tables.specs.Cantor.{cantor_vector}
use Rattle.reed_solomon.specs.Blocks.{AreSlopes}
use Rattle.reed_solomon.specs.Columns.{AreDerivedRows, AreFirstDerivedRows, ArePutWords, HoldWordValues}
use Rattle.reed_solomon.specs.Derivatives.{derived}
use Rattle.additive_transforms.proofs.CantorSums.{value-same}
use Rattle.field_base.proofs.TowerRing.{tower_ring}
use Rattle.std.proofs.lemmas.Nat.{pow_pos}
use Rattle.reed_solomon.proofs.CodedColumns.{column_word, held}
use Rattle.reed_solomon.proofs.FirstValues.{lowest_only}
use Rattle.reed_solomon.proofs.DerivedValues.{derived-high, derived-low, derived-mod, derived-none, derived-same}
use lib.Arith.{digits_lt}

-- half of the words are half of the rows
pub half_rows : (half levels width words : ℕ) → suc half ≡ levels → words ≡ 2 ^ levels * width → words / 2 ≡ 2 ^ half * width
half_rows half levels width words next all =
    let twice : 2 ^ levels * width ≡ (2 ^ half + 2 ^ half) * width =
    ap (λ (k : ℕ). 2 ^ k * width) (sym next) ∙ ap (λ (k : ℕ). k * width) (two-pow-succ half) in
    let parts : (2 ^ half + 2 ^ half) * width ≡ 2 * (2 ^ half * width) = omega arith in
    omega (arith, all, twice, parts)

-- and the others are as many
pub other_rows : (half levels width words front back : ℕ) → suc half ≡ levels → words ≡ 2 ^ levels * width → front ≡ words / 2
    → back + front ≡ words → back ≡ 2 ^ half * width
other_rows half levels width words front back next all split rest =
    let first = half_rows half levels width words next all in
    let twice : 2 ^ levels * width ≡ (2 ^ half + 2 ^ half) * width =
    ap (λ (k : ℕ). 2 ^ k * width) (sym next) ∙ ap (λ (k : ℕ). k * width) (two-pow-succ half) in
    let parts : (2 ^ half + 2 ^ half) * width ≡ 2 * (2 ^ half * width) = omega arith in
    omega (arith, all, twice, parts, first, split, rest)

module _ {W : Type 0} (number : W → ℕ) (zero_word : W) (width : ℕ) where
  -- of one row there is none
  pub derived_row : number zero_word ≡ 0 → (old new : List W) → ArePutWords zero_word 0 width (λ c. zero_word) old new
      → AreDerivedRows number zero_word 0 width old new
  derived_row nothing old new put k c below inside =
      let first : k ≡ 0 = omega (arith, below) in
      let start : 0 * width + c ≡ 0 + c = omega arith in
      ap (λ (s : ℕ). number (get_or new (s * width + c) zero_word)) first
      ∙ ap (λ (s : ℕ). number (get_or new s zero_word)) start
      ∙ ap number (put.written c inside) ∙ nothing
      ∙ sym (derived-none (λ i. number (get_or old (i * width + c) zero_word)) k)

  module _ (half : ℕ) (lower upper : List W) (front : length lower ≡ 2 ^ half * width) where
    abbrev word : ℕ → ℕ → ℕ
    word c i = number (get_or (lower ++ upper) (i * width + c) zero_word)

    in_lower : (i c : ℕ) → i < 2 ^ half → c < width → word c i ≡ number (get_or lower (i * width + c) zero_word)
    in_lower i c below inside =
        let within = digits_lt below inside in
        ap number (get_or_append_left lower upper zero_word (i * width + c) (omega (arith, front, within)))

    behind : (list tail : List W) (i c : ℕ) → length list ≡ 2 ^ half * width
        → get_or (list ++ tail) ((2 ^ half + i) * width + c) zero_word ≡ get_or tail (i * width + c) zero_word
    behind list tail i c long =
        let split : (2 ^ half + i) * width + c ≡ 2 ^ half * width + (i * width + c) = omega arith in
        ap (λ (s : ℕ). get_or (list ++ tail) s zero_word) (split ∙ ap (λ (s : ℕ). s + (i * width + c)) (sym long))
        ∙ get_or-append-add list tail (i * width + c) zero_word

    -- the derivative of the lower half and the upper half itself, added, are that of the whole
    sum_derived : (k c lower_part upper_part : ℕ) → k < 2 ^ half → c < width
        → lower_part ≡ derived half (λ i. number (get_or lower (i * width + c) zero_word)) k
        → upper_part ≡ number (get_or upper (k * width + c) zero_word)
        → bit_xor lower_part upper_part ≡ derived (suc half) (word c) k
    sum_derived k c lower_part upper_part early inside lower_is upper_is =
        ap₂ bit_xor
        (lower_is
        ∙ sym (derived-same half (word c) (λ i. number (get_or lower (i * width + c) zero_word)) (λ i less. in_lower i c less inside) k))
        (upper_is ∙ sym (ap number (behind lower upper k c front)))
        ∙ sym (derived-low half (word c) k early)

    -- of the first rows of two halves
    pub derived_first : (few : ℕ) → few ≤ half → (new_lower rows others added : List W) → new_lower ≡ rows ++ others
        → length rows ≡ 2 ^ few * width → length added ≡ length rows → AreFirstDerivedRows number zero_word half few width lower new_lower
        → ((i : ℕ) → i < length rows
        → number (get_or added i zero_word) ≡ bit_xor (number (get_or rows i zero_word)) (number (get_or upper i zero_word)))
        → AreFirstDerivedRows number zero_word (suc half) few width (lower ++ upper) ((added ++ others) ++ upper)
    derived_first few fewer new_lower rows others added parts long same lower_is sums k c below inside =
        let more : 2 ^ few ≤ 2 ^ half = pow-le-pow_right (lit< tt) fewer in
        let within = digits_lt below inside in
        let place : k * width + c < length rows = omega (arith, long, within) in
        let here : k * width + c < length added = omega (arith, place, same) in
        ap number
        (get_or_append_left (added ++ others) upper zero_word (k * width + c)
        (let all = length-append added others in omega (arith, here, all))
        ∙ get_or_append_left added others zero_word (k * width + c) here)
        ∙ sums (k * width + c) place
        ∙ sum_derived k c _ _ (omega (arith, below, more)) inside
        (sym (ap number (ap (λ (l : List W). get_or l (k * width + c) zero_word) parts
        ∙ get_or_append_left rows others zero_word (k * width + c) place))
        ∙ lower_is k c below inside) refl

    module _ (new_lower added new_upper : List W) (same : length added ≡ length lower)
        (lower_is : AreDerivedRows number zero_word half width lower new_lower)
        (upper_is : AreDerivedRows number zero_word half width upper new_upper)
        (sums : (i : ℕ) → i < length lower
        → number (get_or added i zero_word) ≡ bit_xor (number (get_or new_lower i zero_word)) (number (get_or upper i zero_word))) where
      -- of two halves
      pub derived_halves : AreDerivedRows number zero_word (suc half) width (lower ++ upper) (added ++ new_upper)
      derived_halves k c below inside =
          elim (cases_lt k (2 ^ half)) [
            | inl early ↦
                let within = digits_lt early inside in
                let place : k * width + c < length lower = omega (arith, front, within) in
                ap number (get_or_append_left added new_upper zero_word (k * width + c) (omega (arith, place, same)))
                ∙ sums (k * width + c) place
                ∙ sum_derived k c _ _ early inside (lower_is k c early inside) refl
            | inr late ↦
                let s : ℕ = k - 2 ^ half in
                let place : 2 ^ half + s ≡ k = omega (arith, late) in
                let twice = two-pow-succ half in
                ap (λ (q : ℕ). number (get_or (added ++ new_upper) (q * width + c) zero_word)) (sym place)
                ∙ ap number (behind added new_upper s c (same ∙ front))
                ∙ upper_is s c (omega (arith, below, late, twice)) inside
                ∙ sym (derived-same half (λ i. word c (2 ^ half + i)) (λ i. number (get_or upper (i * width + c) zero_word))
                (λ i less. ap number (behind lower upper i c front)) s)
                ∙ sym (derived-high half (word c) k late)
          ]

-- the first rows by themselves
pub derived_front : {W : Type 0} (number : W → ℕ) (nil : W) (n few width : ℕ) (old all rows others : List W)
    → AreFirstDerivedRows number nil n few width old all → all ≡ rows ++ others → length rows ≡ 2 ^ few * width
    → AreFirstDerivedRows number nil n few width old rows
derived_front number nil n few width old all rows others are parts long k c below inside =
    let within = digits_lt below inside in
    ap number
    (sym (get_or_append_left rows others nil (k * width + c) (omega (arith, long, within)))
    ∙ ap (λ (l : List _). get_or l (k * width + c) nil) (sym parts))
    ∙ are k c below inside

module _ {W : Type 0} (number : W → ℕ) (zero_word : W) (level n width c : ℕ) (inside : c < width) where
  abbrev element : W → ℕ
  element = level_element number level

  abbrev of_column : List W → ℕ → ℕ
  of_column words = slice_index (column_of width c (map element words))

  module _ (low : level ≤ 7) (few : ℕ) (fewer : few ≤ n) (room : n ≤ 2 ^ level) (words slopes : List W) (long : length words ≡ 2 ^ n * width)
      (also : length slopes ≡ 2 ^ few * width)
      (are : (k : ℕ) → k < 2 ^ few
      → number (get_or slopes (k * width + c) zero_word) ≡ derived n (λ i. number (get_or words (i * width + c) zero_word)) k) where
    derived_word : (k : ℕ) → k < 2 ^ few → of_column slopes k ≡ derived n (of_column words) k
    derived_word k below =
        column_word element zero_word level few width c inside slopes also k below
        ∙ ap (λ (v : ℕ). v % 2 ^ 2 ^ level) (are k below)
        ∙ derived-mod (2 ^ level) n (λ i. number (get_or words (i * width + c) zero_word)) k
        ∙ derived-same n (λ i. element (get_or words (i * width + c) zero_word)) (of_column words)
        (λ i less. sym (column_word element zero_word level n width c inside words long i less)) k

    -- what a forward transform of the first rows leaves of a derivative
    pub derived_values : (z : ℕ) (values : List W) → z ≡ 0 → length values ≡ 2 ^ few * width
        → HoldWordValues element level z width c slopes values → (p : ℕ) → p < 2 ^ few
        → element (get_or values (p * width + c) zero_word)
        ≡ polynomial_value (tower_mul level) n (derived n (of_column words)) (point (2 ^ level) cantor_vector 0 p)
    derived_values z values origin count holds p below =
        held element zero_word level few width c inside z slopes values also count holds p below
        ∙ ap (λ (y : ℕ). polynomial_value (tower_mul level) few (of_column slopes) (point (2 ^ level) cantor_vector y p)) origin
        ∙ value-same (2 ^ level) (tower_mul level) (pow_pos level) (tower_ring level) few (of_column slopes) (derived n (of_column words))
        (point (2 ^ level) cantor_vector 0 p) derived_word
        ∙ lowest_only level low few n (derived n (of_column words)) p fewer room below

-- what two transforms of one column leave, with a derivative between them
pub slopes_are : {W : Type 0} (number : W → ℕ) (nil : W) (level n : ℕ) → level ≤ 7 → n ≤ 2 ^ level → (known coefficients derivative slopes : List W)
    (y z : ℕ) → y ≡ 0 → z ≡ 0 → length known ≡ 2 ^ n → length coefficients ≡ 2 ^ n → length derivative ≡ 2 ^ n → length slopes ≡ 2 ^ n
    → HoldWordValues (level_element number level) level y 1 0 coefficients known → AreDerivedRows number nil n 1 coefficients derivative
    → HoldWordValues (level_element number level) level z 1 0 derivative slopes
    → AreSlopes (level_element number level) nil level n known slopes
slopes_are number nil level n low room known coefficients derivative slopes y z origin also_origin long count same all known_are derived_are values_are =
    let element = level_element number level in
    record {
      coefficients = column_of 1 0 (map element coefficients);
      values = λ p below.
          at_place p known
          (held element nil level n 1 0 (lit< tt) y coefficients known (rows count) (rows long) known_are p below
          ∙ ap (λ (x : ℕ). polynomial_value (tower_mul level) n (slice_index (column_of 1 0 (map element coefficients)))
          (point (2 ^ level) cantor_vector x p)) origin);
      derivative = λ p below.
          at_place p slopes
          (derived_values number nil level n 1 0 (lit< tt) low n (omega arith) room coefficients derivative (rows count) (rows same)
          (λ k less. derived_are k 0 less (lit< tt)) z slopes also_origin (rows all) values_are p below);
    }
  where
    rows : {words : ℕ} → words ≡ 2 ^ n → words ≡ 2 ^ n * 1
    rows is = omega (arith, is)

    at_place : (p : ℕ) {v : ℕ} (list : List _) → level_element number level (get_or list (p * 1 + 0) nil) ≡ v
        → level_element number level (get_or list p nil) ≡ v
    at_place p list is =
        let place : p ≡ p * 1 + 0 = omega arith in ap (λ (s : ℕ). level_element number level (get_or list s nil)) place ∙ is
