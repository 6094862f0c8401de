-- Binary BCH codes in the narrow sense (R. C. Bose and D. K. Ray-Chaudhuri, On a class of error correcting binary group codes, 1960; A.
-- Hocquenghem, Codes correcteurs d'erreurs, 1959): words of bits whose polynomial is 0 at root, root^2, .., root^checks, where checks is twice
-- the number of errors. A bit is the symbol 0 or 1.
use Rattle.std.specs.Prelude.{◌≡◌, ◌↔◌, ℕ, ◌+◌, ◌<◌, List, Bool, true, slice_index}
use Rattle.field_base.specs.Powers.{power, repeated_square}
use Rattle.field_slices.specs.Marks.{marked_below}
use Rattle.error_codes.specs.Correcting.{IsMeant}

-- the first n symbols of a word are bits
abbrev pub AreBinary : ℕ → List ℕ → Type 0
AreBinary n word = (i : ℕ) → i < n → slice_index word i < 2

-- an element is root^e, for an e from 1 to `checks`, squared some times: a root of each word of bits that is 0 at root^e
pub record IsConjugate (times : ℕ → ℕ → ℕ) (root checks b : ℕ) : Type 0 where
  pub exponent : ℕ
  pub within : exponent < checks
  pub squarings : ℕ
  pub few : squarings < 8
  pub is : b ≡ repeated_square 1 times squarings (power 1 times root (1 + exponent))

-- these marks are those of the conjugates
abbrev pub MarkConjugates : (ℕ → ℕ → ℕ) → ℕ → ℕ → (ℕ → Bool) → Type 0
MarkConjugates times root checks marked = (b : ℕ) → b < 256 → (marked b ≡ true) ↔ IsConjugate times root checks b

-- there are so many conjugates: the degree of the generator polynomial, the least multiple of the minimal polynomials of the roots
abbrev pub AreConjugates : (ℕ → ℕ → ℕ) → ℕ → ℕ → ℕ → Type 0
AreConjugates times root checks count =
    (marked : ℕ → Bool) → MarkConjugates times root checks marked → count ≡ marked_below marked 256

-- there are fewer than n
abbrev pub HasFewConjugates : (ℕ → ℕ → ℕ) → ℕ → ℕ → ℕ → Type 0
HasFewConjugates times root checks n =
    (marked : ℕ → Bool) → MarkConjugates times root checks marked → marked_below marked 256 < n

-- an element is a number of squarings below k of another
abbrev pub IsSquaring : (ℕ → ℕ → ℕ) → ℕ → ℕ → ℕ → Type 0
IsSquaring times root k b = (s : ℕ) × (s < k) × (b ≡ repeated_square 1 times s root)

-- a word of bits that a received word stands for, as `IsMeant`
abbrev pub IsMeantBits : (ℕ → ℕ → ℕ) → ℕ → ℕ → ℕ → List ℕ → List ℕ → List ℕ → Type 0
IsMeantBits times root n checks received erasures sent = AreBinary n sent × IsMeant times root 1 n checks received erasures sent
