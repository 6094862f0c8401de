-- Words and their halves, and double words, in lanes: the low words in the lanes of one vector, the high words in those of another. A vector is the list of
-- its lanes.
use Rattle.std.specs.Prelude.{◌≡◌, ℕ, List, ◌+◌, ◌*◌, ◌/◌, ◌%◌, ◌^◌, bit_and, bit_xor, map}
use Rattle.std.specs.Simd.Lanes.{zip2}
use Rattle.field_base.specs.Carryless.{carryless}

-- the double words of the low words and the high words, place by place
abbrev pub double_words : List ℕ → List ℕ → List ℕ
double_words lows highs = zip2 (λ low high. high * 2 ^ 64 + low) lows highs

-- the numbers of four words each, the lowest words first, place by place
abbrev pub quadruple_words : List ℕ → List ℕ → List ℕ → List ℕ → List ℕ
quadruple_words w0 w1 w2 w3 = zip2 (λ low high. high * 2 ^ 128 + low) (double_words w0 w1) (double_words w2 w3)

-- the low half of each word
abbrev pub low_halves : List ℕ → List ℕ
low_halves = map (λ a. bit_and a 0xffff_ffff)

-- the high half of each word
abbrev pub high_halves : List ℕ → List ℕ
high_halves = map (λ a. a / 2 ^ 32)

-- each word and its high half, of whose sum the low half is that of both halves
abbrev pub sums_of_halves : List ℕ → List ℕ
sums_of_halves words = zip2 bit_xor words (high_halves words)

-- the low and the high words of the carryless products of two lists of words, place by place
abbrev pub AreWordProducts : List ℕ → List ℕ → List ℕ → List ℕ → Type 0
AreWordProducts left right lows highs =
    (lows ≡ zip2 (λ a b. carryless a b % 2 ^ 64) left right) × (highs ≡ zip2 (λ a b. carryless a b / 2 ^ 64) left right)

-- the products of the low halves, of the high halves and of their sums
pub record AreHalfProducts (left right low high both : List ℕ) : Type 0 where
  pub of_low : low ≡ zip2 (λ a b. carryless a b % 2 ^ 64) (low_halves left) (low_halves right)
  pub of_high : high ≡ zip2 (λ a b. carryless a b % 2 ^ 64) (low_halves (high_halves left)) (low_halves (high_halves right))
  pub of_both : both ≡ zip2 (λ a b. carryless a b % 2 ^ 64) (low_halves (sums_of_halves left)) (low_halves (sums_of_halves right))
