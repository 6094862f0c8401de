-- Numbers as hexadecimal text, and as decimal digits, the highest digit first.
use Rattle.std.specs.Prelude.{◌≡◌, ℕ, zero, suc, ◌+◌, ◌-◌, ◌*◌, ◌/◌, ◌%◌, ◌^◌, ◌<◌, ◌==◌, ◌&&◌, nat_le, if◌then◌else◌, List, [], ◌∷◌, length, slice_index, Option, Some, None}
use Rattle.std.specs.Option.{option_and_then}
use Rattle.hex.specs.Hex.{hex_digit_value, lower_digits}

-- the number that is written by the digits of n and then these characters, in either case; None where one is no digit
unfoldable pub number_after : ℕ → List ℕ → Option ℕ
number_after n [] = Some n
number_after n (digit ∷ rest) = option_and_then (λ value. number_after (n * 16 + value) rest) (hex_digit_value digit)

-- the value of a decimal digit; None for another character
abbrev pub decimal_digit : ℕ → Option ℕ
decimal_digit character = if nat_le 48 character && nat_le character 57 then Some (character - 48) else None

-- the number that is written by the decimal digits of n and then these characters; None where one is no digit
unfoldable pub decimal_after : ℕ → List ℕ → Option ℕ
decimal_after n [] = Some n
decimal_after n (digit ∷ rest) = option_and_then (λ value. decimal_after (n * 10 + value) rest) (decimal_digit digit)

-- the number of an operand, which is a word of exactly two digits for each byte of an element
unfoldable pub operand_value : ℕ → List ℕ → Option ℕ
operand_value bytes word = if length word == 2 * bytes then number_after 0 word else None

-- the digits of n below the place of 16 ^ count, in lower case
unfoldable pub low_digits : ℕ → ℕ → List ℕ
low_digits zero n = []
low_digits (suc count) n = slice_index lower_digits (n / 16 ^ count % 16) ∷ low_digits count n

-- the text of a number, two digits for each of so many bytes
abbrev pub hex_text : ℕ → ℕ → List ℕ
hex_text bytes n = low_digits (2 * bytes) n

-- the text of a number is an operand, and its number is that number
abbrev pub TextIsReadBack : Type 0
TextIsReadBack = (bytes n : ℕ) → n < 256 ^ bytes → operand_value bytes (hex_text bytes n) ≡ Some n
