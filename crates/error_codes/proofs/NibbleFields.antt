-- The field of 16 elements as a part of the bytes: what holds of each element by computation, and so of words of them.
use Rattle.std.proofs.Common.{◌≡◌, inl, inr, ℕ, zero, suc, ◌+◌, ◌-◌, ◌*◌, ◌/◌, ◌%◌, ◌^◌, ◌<◌, Bool, true, false, ◌&&◌, ◌||◌, eqb}
use Rattle.std.proofs.Common.{List, length, map, refl, sym, ◌∙◌, ap, arith, lit<}
use Rattle.std.specs.Prelude.{bit_xor, nat_eq, not, slice_index}
use Rattle.std.proofs.lemmas.Bool.{and_parts, cases_lt, eqb-true}
use Rattle.std.proofs.lemmas.Bool.Decides.{eqb_tells}
use Rattle.std.proofs.lemmas.List.{get_or-map, get_or_past, length-map}
use Rattle.std.proofs.lemmas.Nat.{xor_lt}
use Rattle.field_base.specs.Basis.{sum_below}
use Rattle.field_base.specs.Carryless.{carryless, carryless_in}
use Rattle.field_base.specs.Field.{IsField}
use Rattle.field_base.specs.Powers.{power, repeated_square}
use Rattle.field_base.specs.Remainder.{mul_mod, rem, rem_in}
use Rattle.field_base.specs.Ring.{IsRing}
use Rattle.field_base.proofs.PowerLemmas.{power-add, power-lt, power-mul}
use Rattle.field_base.proofs.RemainderRing.{mul_mod_ring}
use Rattle.reed_solomon.specs.ByteFields.{byte_times}
use Rattle.error_codes.specs.Correcting.{HasOrder, HasRoots, code_value}
use Rattle.error_codes.specs.Nibbles.{AreNibbles, lowered, nibble_root, nibble_times, raised}
use Rattle.reed_solomon.specs.declared.byte_field.ByteField.TheVariants.{Qr}
use Rattle.error_codes.specs.declared.nibble_code.literals.TheConstants.{IMAGES}
use Rattle.reed_solomon.proofs.ByteFields.{bytes_are_fields}
use Rattle.error_codes.proofs.Encoding.{value-same}
use Rattle.error_codes.proofs.Moments.{sum-same}

-- the bytes of which the field is a part
abbrev pub bytes : ℕ → ℕ → ℕ
bytes = byte_times Qr

pub bytes_field : IsField 8 bytes
bytes_field = bytes_are_fields Qr

pub nibble_ring : IsRing 4 1 nibble_times
nibble_ring = mul_mod_ring 4 0x13 (lit< tt) refl

-- the sixteenth power
abbrev pub frobenius : ℕ → ℕ
frobenius x = repeated_square 1 bytes 4 x

-- ---- each element tried

holds_below : (ℕ → Bool) → ℕ → Bool
holds_below test zero = true
holds_below test (suc n) = test n && holds_below test n

holds_at : (test : ℕ → Bool) (n : ℕ) → holds_below test n ≡ true → (i : ℕ) → i < n → test i ≡ true
unfolding holds_below
holds_at test zero passed i below = absurd (omega (arith, below))
holds_at test (suc n) passed i below =
    let parts = and_parts (test n) (holds_below test n) passed in
    elim (eqb_tells i n) [
      | inl same ↦ ap test same.1 ∙ parts.0
      | inr other ↦ holds_at test n parts.1 i (earlier i n below other.1)
    ]
  where
    earlier : (i n : ℕ) → i < suc n → (i ≡ n → ⊥) → i < n
    earlier i n below different = omega (arith, below, different)

keeps_sum : ℕ → ℕ → Bool
keeps_sum x y = eqb (raised (bit_xor x y)) (bit_xor (raised x) (raised y))

keeps_product : ℕ → ℕ → Bool
keeps_product x y = eqb (raised (nibble_times x y)) (mul_mod 8 0x11d (raised x) (raised y))

is_returned : ℕ → Bool
is_returned x = eqb (lowered (raised x)) x && eqb (raised x % 256) (raised x)

is_kept : ℕ → Bool
is_kept x = eqb (repeated_square 1 (mul_mod 8 0x11d) 4 (raised x)) (raised x)

is_image : ℕ → Bool
is_image b = not (eqb (lowered b % 16) (lowered b)) || eqb (raised (lowered b)) b

is_part : ℕ → Bool
is_part b = not (eqb (repeated_square 1 (mul_mod 8 0x11d) 4 b) b) || eqb (lowered b % 16) (lowered b)

sums_pass : holds_below (λ x. holds_below (keeps_sum x) 16) 16 ≡ true
unfolding holds_below keeps_sum
sums_pass = refl

products_pass : holds_below (λ x. holds_below (keeps_product x) 16) 16 ≡ true
unfolding mul_mod rem rem_in carryless carryless_in holds_below keeps_product
products_pass = refl

returned_pass : holds_below is_returned 16 ≡ true
unfolding holds_below is_returned
returned_pass = refl

kept_pass : holds_below is_kept 16 ≡ true
unfolding mul_mod rem rem_in carryless carryless_in repeated_square holds_below is_kept
kept_pass = refl

images_pass : holds_below is_image 256 ≡ true
unfolding holds_below is_image
images_pass = refl

parts_pass : holds_below is_part 256 ≡ true
unfolding mul_mod rem rem_in carryless carryless_in repeated_square holds_below is_part
parts_pass = refl

-- ---- and so

pub raised-xor : (x y : ℕ) → x < 16 → y < 16 → raised (bit_xor x y) ≡ bit_xor (raised x) (raised y)
unfolding keeps_sum
raised-xor x y x_fits y_fits =
    eqb-true (raised (bit_xor x y)) (bit_xor (raised x) (raised y))
    (holds_at (keeps_sum x) 16 (holds_at (λ z. holds_below (keeps_sum z) 16) 16 sums_pass x x_fits) y y_fits)

pub raised-times : (x y : ℕ) → x < 16 → y < 16 → raised (nibble_times x y) ≡ bytes (raised x) (raised y)
unfolding keeps_product
raised-times x y x_fits y_fits =
    eqb-true (raised (nibble_times x y)) (mul_mod 8 0x11d (raised x) (raised y))
    (holds_at (keeps_product x) 16 (holds_at (λ z. holds_below (keeps_product z) 16) 16 products_pass x x_fits) y y_fits)

pub lowered-raised : (x : ℕ) → x < 16 → lowered (raised x) ≡ x
unfolding is_returned
lowered-raised x fits =
    eqb-true (lowered (raised x)) x
    (and_parts (eqb (lowered (raised x)) x) (eqb (raised x % 256) (raised x)) (holds_at is_returned 16 returned_pass x fits)).0

pub raised-fits : (x : ℕ) → x < 16 → raised x < 256
unfolding is_returned
raised-fits x fits =
    let same = eqb-true (raised x % 256) (raised x)
    (and_parts (eqb (lowered (raised x)) x) (eqb (raised x % 256) (raised x)) (holds_at is_returned 16 returned_pass x fits)).1 in
    omega (arith, same)

pub raised-kept : (x : ℕ) → x < 16 → frobenius (raised x) ≡ raised x
unfolding is_kept
raised-kept x fits =
    eqb-true (repeated_square 1 (mul_mod 8 0x11d) 4 (raised x)) (raised x) (holds_at is_kept 16 kept_pass x fits)

-- of two tests that one of them passes, not the first
second : (p q : Bool) → (not p || q) ≡ true → p ≡ true → q ≡ true
second true q passed is = passed
second false q passed is = absurd (cc)

equal : (a b : ℕ) → a ≡ b → eqb a b ≡ true
equal a b is =
    elim (eqb_tells a b) [
      | inl same ↦ same.0
      | inr other ↦ absurd (other.1 is)
    ]

pub raised-lowered : (b : ℕ) → b < 256 → lowered b < 16 → raised (lowered b) ≡ b
unfolding is_image
raised-lowered b inside fits =
    let small : lowered b % 16 ≡ lowered b = omega (arith, fits) in
    eqb-true (raised (lowered b)) b
    (second (eqb (lowered b % 16) (lowered b)) (eqb (raised (lowered b)) b) (holds_at is_image 256 images_pass b inside)
    (equal (lowered b % 16) (lowered b) small))

pub kept-lowered : (b : ℕ) → b < 256 → frobenius b ≡ b → lowered b < 16
unfolding is_part
kept-lowered b inside kept =
    let small = eqb-true (lowered b % 16) (lowered b)
    (second (eqb (repeated_square 1 (mul_mod 8 0x11d) 4 b) b) (eqb (lowered b % 16) (lowered b))
    (holds_at is_part 256 parts_pass b inside) (equal (repeated_square 1 (mul_mod 8 0x11d) 4 b) b kept)) in
    omega (arith, small)

-- an element has the image of no other symbol
pub raised-same : (a s : ℕ) → s < 16 → raised a ≡ raised s → a ≡ s
raised-same a s fits same =
    elim (cases_lt a 16) [
      | inl below ↦ sym (lowered-raised a below) ∙ ap lowered same ∙ lowered-raised s fits
      | inr past ↦
          let none : 16 ≡ s =
          ap lowered (sym (get_or_past IMAGES a 2 past) ∙ same) ∙ lowered-raised s fits in
          absurd (omega (arith, none, fits))
    ]

pub marks-raised : (a s : ℕ) → s < 16 → nat_eq (raised a) (raised s) ≡ nat_eq a s
marks-raised a s fits =
    elim (eqb_tells a s) [
      | inl same ↦ equal (raised a) (raised s) (ap raised same.1) ∙ sym same.0
      | inr other ↦ elim (eqb_tells (raised a) (raised s)) [
        | inl equals ↦ absurd (other.1 (raised-same a s fits equals.1))
        | inr differs ↦ differs.0 ∙ sym other.0
      ]
    ]

-- ---- powers and values

one_fits : 1 < 2 ^ 4
one_fits = lit< tt

pub nibble-power-lt : (x k : ℕ) → power 1 nibble_times x k < 16
nibble-power-lt x k = power-lt 4 1 nibble_times nibble_ring one_fits x k

pub raised-power : (x k : ℕ) → x < 16 → raised (power 1 nibble_times x k) ≡ power 1 bytes (raised x) k
unfolding power
raised-power x zero fits = refl
raised-power x (suc k) fits =
    raised-times (power 1 nibble_times x k) x (nibble-power-lt x k) fits
    ∙ ap (λ (v : ℕ). bytes v (raised x)) (raised-power x k fits)

sum-lt : (f : ℕ → ℕ) → ((i : ℕ) → f i < 16) → (n : ℕ) → sum_below f n < 16
unfolding sum_below
sum-lt f each zero = lit< tt
sum-lt f each (suc n) = xor_lt 4 (sum_below f n) (f n) (sum-lt f each n) (each n)

raised-sum : (f : ℕ → ℕ) → ((i : ℕ) → f i < 16) → (n : ℕ) → raised (sum_below f n) ≡ sum_below (λ i. raised (f i)) n
unfolding sum_below
raised-sum f each zero = refl
raised-sum f each (suc n) =
    raised-xor (sum_below f n) (f n) (sum-lt f each n) (each n)
    ∙ ap (λ (v : ℕ). bit_xor v (raised (f n))) (raised-sum f each n)

nibble-value-lt : (n : ℕ) (word : ℕ → ℕ) (x : ℕ) → code_value nibble_times n word x < 16
nibble-value-lt n word x =
    sum-lt (λ i. nibble_times (word i) (power 1 nibble_times x (n - 1 - i)))
    (λ i. nibble_ring.below (word i) (power 1 nibble_times x (n - 1 - i))) n

raised-value : (n : ℕ) (word : ℕ → ℕ) (x : ℕ) → ((i : ℕ) → i < n → word i < 16) → x < 16
    → raised (code_value nibble_times n word x) ≡ code_value bytes n (λ i. raised (word i)) (raised x)
raised-value n word x fits x_fits =
    raised-sum (λ i. nibble_times (word i) (power 1 nibble_times x (n - 1 - i)))
    (λ i. nibble_ring.below (word i) (power 1 nibble_times x (n - 1 - i))) n
    ∙ sum-same (λ i. raised (nibble_times (word i) (power 1 nibble_times x (n - 1 - i))))
    (λ i. bytes (raised (word i)) (power 1 bytes (raised x) (n - 1 - i))) n
    (λ i below.
    raised-times (word i) (power 1 nibble_times x (n - 1 - i)) (fits i below) (nibble-power-lt x (n - 1 - i))
    ∙ ap (bytes (raised (word i))) (raised-power x (n - 1 - i) x_fits))

-- the value of a word of images at a power of an image
value-raised : (root m : ℕ) (word : List ℕ) → root < 16 → AreNibbles (length word) word
    → code_value bytes (length (map raised word)) (slice_index (map raised word)) (power 1 bytes (raised root) m)
    ≡ raised (code_value nibble_times (length word) (slice_index word) (power 1 nibble_times root m))
value-raised root m word fits elements =
    ap (λ (k : ℕ). code_value bytes k (slice_index (map raised word)) (power 1 bytes (raised root) m)) (length-map word raised)
    ∙ value-same 8 bytes (lit< tt) bytes_field (length word) (slice_index (map raised word)) (λ i. raised (slice_index word i))
    (power 1 bytes (raised root) m) (λ i below. get_or-map raised word i 0 0 below)
    ∙ ap (code_value bytes (length word) (λ i. raised (slice_index word i))) (sym (raised-power root m fits))
    ∙ sym (raised-value (length word) (slice_index word) (power 1 nibble_times root m) elements (nibble-power-lt root m))

pub raised-roots : (root first checks : ℕ) (word : List ℕ) → root < 16 → AreNibbles (length word) word
    → HasRoots nibble_times root first checks word → HasRoots bytes (raised root) first checks (map raised word)
raised-roots root first checks word fits elements roots = λ m below.
    value-raised root (first + m) word fits elements ∙ ap raised (roots m below)

pub lowered-roots : (root first checks : ℕ) (word : List ℕ) → root < 16 → AreNibbles (length word) word
    → HasRoots bytes (raised root) first checks (map raised word) → HasRoots nibble_times root first checks word
lowered-roots root first checks word fits elements roots = λ m below.
    sym (lowered-raised (code_value nibble_times (length word) (slice_index word) (power 1 nibble_times root (first + m)))
    (nibble-value-lt (length word) (slice_index word) (power 1 nibble_times root (first + m))))
    ∙ ap lowered (sym (value-raised root (first + m) word fits elements) ∙ roots m below)

-- ---- orders

pub raised-order : (root n : ℕ) → root < 16 → HasOrder nibble_times root n → HasOrder bytes (raised root) n
raised-order root n fits order d some below one =
    order d some below
    (sym (lowered-raised (power 1 nibble_times root d) (nibble-power-lt root d))
    ∙ ap lowered (raised-power root d fits ∙ one))

pub lowered-order : (root n : ℕ) → root < 16 → HasOrder bytes (raised root) n → HasOrder nibble_times root n
lowered-order root n fits order d some below one =
    order d some below (sym (raised-power root d fits) ∙ ap raised one)

-- the generator of the bytes gives that of the field
generator-raised : power 1 bytes 2 17 ≡ raised 2
unfolding mul_mod rem rem_in carryless carryless_in power
generator-raised = refl

whole-round : power 1 nibble_times 2 15 ≡ 1
unfolding mul_mod rem rem_in carryless carryless_in power
whole-round = refl

one-squared : nibble_times 1 1 ≡ 1
unfolding mul_mod rem rem_in carryless carryless_in
one-squared = refl

ones : (q : ℕ) → power 1 nibble_times 1 q ≡ 1
unfolding power
ones zero = refl
ones (suc q) = ap (λ (v : ℕ). nibble_times v 1) (ones q) ∙ one-squared

pub root-raised : (step : ℕ) → power 1 bytes 2 (17 * (step % 15)) ≡ raised (nibble_root step)
root-raised step =
    power-mul 8 1 bytes bytes_field.ring (lit< tt) 2 17 (step % 15) ∙ ap (λ (g : ℕ). power 1 bytes g (step % 15)) generator-raised
    ∙ sym (raised-power 2 (step % 15) (lit< tt)) ∙ ap raised round
  where
    split : 15 * (step / 15) + step % 15 ≡ step
    split = omega arith

    small : power 1 nibble_times 2 (step % 15) % 16 ≡ power 1 nibble_times 2 (step % 15)
    small = let fits = nibble-power-lt 2 (step % 15) in omega (arith, fits)

    round : power 1 nibble_times 2 (step % 15) ≡ power 1 nibble_times 2 step
    round =
        sym (nibble_ring.one (power 1 nibble_times 2 (step % 15)) ∙ small)
        ∙ ap (λ (v : ℕ). nibble_times v (power 1 nibble_times 2 (step % 15)))
        (sym (power-mul 4 1 nibble_times nibble_ring one_fits 2 15 (step / 15)
        ∙ ap (λ (v : ℕ). power 1 nibble_times v (step / 15)) whole-round ∙ ones (step / 15)))
        ∙ sym (power-add 4 1 nibble_times nibble_ring one_fits 2 (15 * (step / 15)) (step % 15))
        ∙ ap (power 1 nibble_times 2) split
