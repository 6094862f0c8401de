-- Reed-Solomon codes over bytes as standards state them (ISO/IEC 18004, ETSI EN 300 421, CCSDS 131.0-B): the first
-- symbol of a word is the coefficient of the highest power, and a code word is 0 at root^first, .., root^(first +
-- checks - 1).
use Rattle.std.specs.Prelude.{◌≡◌, ◌≢◌, ℕ, ◌+◌, ◌-◌, ◌*◌, ◌^◌, ◌<◌, ◌≤◌, List, [], ◌∷◌, length, slice_index, Bool, false}
use Rattle.std.specs.Prelude.{nat_eq, ◌||◌}
use Rattle.field_base.specs.Basis.{sum_below}
use Rattle.field_base.specs.Powers.{power}
use Rattle.field_slices.specs.Marks.{marked_below}
use Rattle.error_codes.specs.Words.{is_wrong}

-- the value at x of the polynomial with the n coefficients word 0, .., word (n - 1), the highest first
abbrev pub code_value : (ℕ → ℕ → ℕ) → ℕ → (ℕ → ℕ) → ℕ → ℕ
code_value times n word x = sum_below (λ i. times (word i) (power 1 times x (n - 1 - i))) n

-- the polynomial of a word is 0 at all roots
abbrev pub HasRoots : (ℕ → ℕ → ℕ) → ℕ → ℕ → ℕ → List ℕ → Type 0
HasRoots times root first checks word =
    (m : ℕ) → m < checks → code_value times (length word) (slice_index word) (power 1 times root (first + m)) ≡ 0

-- no power of an element with an exponent between 0 and n is 1, so that its powers below n differ
abbrev pub HasOrder : (ℕ → ℕ → ℕ) → ℕ → ℕ → Type 0
HasOrder times root n = (d : ℕ) → 0 < d → d < n → power 1 times root d ≢ 1

-- place i is in a list of places
abbrev pub is_listed : List ℕ → ℕ → Bool
is_listed [] i = false
is_listed (p ∷ ps) i = nat_eq p i || is_listed ps i

-- A code word over a field of 2 ^ width elements that a received word of n symbols with erased places stands for (J. L. Massey,
-- Shift-register synthesis and BCH decoding, 1969, for errors; G. D. Forney, On decoding BCH codes, 1965, for erasures too): twice the number of the
-- places at which they differ, the erased aside, and the number of the erased are no more than there are checks.
pub record IsMeantIn (width : ℕ) (times : ℕ → ℕ → ℕ) (root first n checks : ℕ) (received erasures sent : List ℕ)
    : Type 0 where
  pub count : length sent ≡ n
  pub symbols : (i : ℕ) → i < n → slice_index sent i < 2 ^ width
  pub roots : HasRoots times root first checks sent
  pub near :
      2 * marked_below (is_wrong (λ i. i) (slice_index received) (is_listed erasures) (slice_index sent)) n
      + marked_below (is_listed erasures) n ≤ checks

-- the same of bytes
abbrev pub IsMeant : (ℕ → ℕ → ℕ) → ℕ → ℕ → ℕ → ℕ → List ℕ → List ℕ → List ℕ → Type 0
IsMeant times root first n checks received erasures sent = IsMeantIn 8 times root first n checks received erasures sent
