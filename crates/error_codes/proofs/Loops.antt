-- Steps of loops: what differs, gathered in a byte, and shares byte by byte.
use Rattle.std.proofs.Common.{◌≡◌, ℕ, ◌+◌, ◌-◌, ◌*◌, ◌/◌, ◌%◌, ◌<◌, ◌≤◌, inl, inr, List, length, drop, refl, sym, ◌∙◌, ap, ap₂, subst, arith}
use Rattle.std.specs.Prelude.{◌↔◌, bit_or, bit_xor, slice_index}
use Rattle.std.proofs.lemmas.Bool.{cases_lt}
use Rattle.std.proofs.lemmas.List.FromFn.{get_or-map-range_with_len, length-map-range_with_len}
use Rattle.std.proofs.lemmas.Nat.{div-mul-add, le_or_l, le_or_r, mod-mul-add, mul-add-lt, xor_comm}
use lib.Bits.{xor_self}
use native.Mathlib.Numerals.{add-one}
use Rattle.field_base.specs.Powers.{power, value_of}
use Rattle.field_base.proofs.Horner.{horner_start, horner_step, value_of-cons}
use Rattle.field_base.proofs.PowerLemmas.{times-one}
use Rattle.field_base.proofs.RingLemmas.{xor_nothing}
use Rattle.reed_solomon.specs.ByteFields.{byte_times}
use Rattle.error_codes.specs.Sharing.{AreSplit, bytes_at, share_byte}
use Rattle.reed_solomon.specs.declared.byte_field.ByteField.{ByteField}
use Rattle.reed_solomon.proofs.ByteFields.{bytes_are_fields}

-- a byte gathers whether something holds at every place so far
pub gathered : (P : ℕ → Type 0) (n before more : ℕ) → ((before ≡ 0) ↔ ((j : ℕ) → j < n → P j)) → ((more ≡ 0) ↔ P n)
    → (bit_or before more ≡ 0) ↔ ((j : ℕ) → j < n + 1 → P j)
gathered P n before more so_far here = (
  λ nothing j below.
      elim (cases_lt j n) [
        | inl earlier ↦ so_far.0 (omega (arith, nothing, le_or_l before more)) j earlier
        | inr later ↦ subst P (last j n below later) (here.0 (omega (arith, nothing, le_or_r before more)))
      ],
  λ all. ap₂ bit_or (so_far.1 (λ j below. all j (omega (arith, below)))) (here.1 (all n (omega arith))),
)
  where
    last : (j n : ℕ) → j < n + 1 → n ≤ j → n ≡ j
    last j n below later = omega (arith, below, later)

-- the difference of two bytes is 0 where they are equal
pub differs : (value share wanted : ℕ) → value ≡ wanted → (bit_xor value share ≡ 0) ↔ (wanted ≡ share)
differs value share wanted is = (
  λ nothing. sym is ∙ xor_nothing value share nothing,
  λ same. ap (λ (z : ℕ). bit_xor z share) (is ∙ same) ∙ xor_self share,
)

-- ---- Horner's rule over the drawn coefficients

-- before the first of them the value is 0
pub no_coefficient : (field : ByteField) (others size place index : ℕ) (draws : List ℕ)
    → 0 ≡ value_of 1 (byte_times field) (λ c. c) (drop (others - 0) (bytes_at size others draws place)) index
no_coefficient field others size place index draws =
    horner_start 8 1 (byte_times field) (bytes_are_fields field).ring (λ c. c) index 0 (others - 0) (bytes_at size others draws place)
    (let long = length-map-range_with_len (λ i. slice_index draws (i * size + place)) 0 others in omega (arith, long)) refl

-- one more makes what came so far the upper part
pub next_coefficient : (field : ByteField) (others size place index value back row product : ℕ) (draws : List ℕ) → back < others
    → row ≡ others - 1 - back → product ≡ byte_times field value index → slice_index draws (row * size + place) < 256
    → value ≡ value_of 1 (byte_times field) (λ c. c) (drop (others - back) (bytes_at size others draws place)) index
    → bit_xor product (slice_index draws (row * size + place))
    ≡ value_of 1 (byte_times field) (λ c. c) (drop (others - (back + 1)) (bytes_at size others draws place)) index
next_coefficient field others size place index value back row product draws within row_is product_is fits so_far =
    horner_step 8 1 (byte_times field) (bytes_are_fields field).ring (λ c. c) index value (bit_xor product drawn) (others - back) rows drawn
    (omega (arith, within)) (let long = length-map-range_with_len at 0 others in omega (arith, long)) fits
    (sym (get_or-map-range_with_len at 0 others (others - back - 1) row drawn (omega (arith, within)) (omega (arith, within, row_is)))) so_far
    (ap (λ (z : ℕ). bit_xor z drawn) product_is)
    ∙ ap (λ (n : ℕ). value_of 1 (byte_times field) (λ c. c) (drop n rows) index) (omega (arith, within))
  where
    at : ℕ → ℕ
    at i = slice_index draws (i * size + place)

    rows : List ℕ
    rows = bytes_at size others draws place

    drawn : ℕ
    drawn = slice_index draws (row * size + place)

-- and the byte of the secret comes last
pub last_coefficient : (field : ByteField) (others place index value back product : ℕ) (secret draws : List ℕ) → back ≡ others
    → product ≡ byte_times field value index → slice_index secret place < 256
    → value ≡ value_of 1 (byte_times field) (λ c. c) (drop (others - back) (bytes_at (length secret) others draws place)) index
    → bit_xor product (slice_index secret place) ≡ share_byte field others secret draws index place
last_coefficient field others place index value back product secret draws all product_is fits so_far =
    ap (λ (z : ℕ). bit_xor z own) product_is ∙ xor_comm (byte_times field value index) own
    ∙ ap (λ (z : ℕ). bit_xor own (byte_times field z index))
    (so_far ∙ ap (λ (n : ℕ). value_of 1 (byte_times field) (λ c. c) (drop n rows) index) none)
    ∙ sym (value_of-cons 8 1 (byte_times field) (bytes_are_fields field).ring (λ c. c) index own rows fits)
  where
    own : ℕ
    own = slice_index secret place

    rows : List ℕ
    rows = bytes_at (length secret) others draws place

    none : others - back ≡ 0
    none = omega (arith, all)

-- ---- shares

-- bytes that are right at each place are right in each share
pub split_at : (field : ByteField) (others count all : ℕ) (secret draws shares : List ℕ) → all ≡ count * length secret
    → ((p : ℕ) → p < all → slice_index shares p ≡ share_byte field others secret draws (p / length secret + 1) (p % length secret))
    → AreSplit field others count secret draws shares
split_at field others count all secret draws shares whole each i j within inside =
    each (i * length secret + j) (let place = mul-add-lt i (length secret) j count within inside in omega (arith, place, whole))
    ∙ ap₂ (λ (m n : ℕ). share_byte field others secret draws (m + 1) n) (div-mul-add i (length secret) j inside) (mod-mul-add i (length secret) j inside)

-- ---- syndromes

-- the first term of a share is its scaled byte
pub first-term : (field : ByteField) (scale byte index : ℕ)
    → byte_times field scale byte ≡ byte_times field (byte_times field scale byte) (power 1 (byte_times field) index 0)
unfolding power
first-term field scale byte index =
    sym (times-one 8 1 (byte_times field) (bytes_are_fields field).ring (byte_times field scale byte) ((bytes_are_fields field).ring.below scale byte))

-- and each other is the product of that before by the index
pub next-term : (field : ByteField) (first index m term : ℕ)
    → term ≡ byte_times field first (power 1 (byte_times field) index m)
    → byte_times field index term ≡ byte_times field first (power 1 (byte_times field) index (m + 1))
unfolding power
next-term field first index m term is =
    ap (byte_times field index) is ∙ (bytes_are_fields field).ring.comm index (byte_times field first (power 1 (byte_times field) index m))
    ∙ (bytes_are_fields field).ring.assoc first (power 1 (byte_times field) index m) index
    ∙ ap (λ (n : ℕ). byte_times field first (power 1 (byte_times field) index n)) (sym (add-one m))
