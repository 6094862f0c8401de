-- The field of 16 elements modulo x^4 + x + 1 (ISO/IEC 24778, the mode message of Aztec codes). An element is a number below 16, of
-- which bit i is the coefficient of x^i.
use Rattle.std.specs.Prelude.{ℕ, ◌<◌, List, slice_index, slice_index_or}
use Rattle.field_base.specs.Powers.{power}
use Rattle.field_base.specs.Remainder.{mul_mod}
use Rattle.error_codes.specs.Correcting.{IsMeant}
use Rattle.error_codes.specs.declared.nibble_code.literals.TheConstants.{IMAGES, SYMBOLS}

-- the product of two elements
abbrev pub nibble_times : ℕ → ℕ → ℕ
nibble_times = mul_mod 4 0x13

-- the power of x, a generator of the elements other than 0, with this exponent
abbrev pub nibble_root : ℕ → ℕ
nibble_root step = power 1 nibble_times 2 step

-- the first n symbols of a word are elements
abbrev pub AreNibbles : ℕ → List ℕ → Type 0
AreNibbles n word = (i : ℕ) → i < n → slice_index word i < 16

-- a code word of elements that a received word of n symbols stands for
abbrev pub IsMeantNibbles : ℕ → ℕ → ℕ → ℕ → List ℕ → List ℕ → List ℕ → Type 0
IsMeantNibbles root first n checks received erasures sent =
    AreNibbles n sent × IsMeant nibble_times root first n checks received erasures sent

-- ---- the field as a part of the bytes modulo x^8 + x^4 + x^3 + x^2 + 1

-- the image of an element; what is no element has a byte that is no image
abbrev pub raised : ℕ → ℕ
raised symbol = slice_index_or IMAGES symbol 2

-- the element whose image a byte is, or 16
abbrev pub lowered : ℕ → ℕ
lowered byte = slice_index SYMBOLS byte
