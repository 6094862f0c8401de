-- Linear codes over a field of characteristic two whose elements are numbers, and words near them. A word of n symbols is a function, of
-- which the values at the places 0, 1, .., n - 1 count, and a matrix is a function from rows to words. Columns are counted, not symbols, by
-- marks: so matrices are near together where the same marks serve for both.
use Rattle.std.specs.Prelude.{◌≡◌, ℕ, ◌+◌, ◌-◌, ◌*◌, ◌^◌, ◌<◌, ◌≤◌, Bool, false, bit_xor}
use Rattle.field_base.specs.Basis.{sum_below}
use Rattle.field_base.specs.Field.{IsField}
use Rattle.field_base.specs.PolynomialRoots.{AreDistinctBelow}
use Rattle.field_slices.specs.Marks.{marked_below}

-- ---- codes

-- the sum of the rows of a generator matrix of so many rows, each times a symbol of the message
abbrev pub encoded : (ℕ → ℕ → ℕ) → ℕ → (ℕ → ℕ → ℕ) → (ℕ → ℕ) → ℕ → ℕ
encoded times size generator message p = sum_below (λ j. times (message j) (generator j p)) size

-- a word of n symbols is a code word
pub record IsWordOf (times : ℕ → ℕ → ℕ) (size n : ℕ) (generator : ℕ → ℕ → ℕ) (word : ℕ → ℕ) : Type 0 where
  pub message : ℕ → ℕ
  pub is : (p : ℕ) → p < n → word p ≡ encoded times size generator message p

-- two words of n symbols have the same symbol at each place that is not marked
abbrev pub AgreeUnmarked : ℕ → (ℕ → Bool) → (ℕ → ℕ) → (ℕ → ℕ) → Type 0
AgreeUnmarked n marked one other = (p : ℕ) → p < n → marked p ≡ false → one p ≡ other p

-- two code words that differ at fewer than d places are the same
abbrev pub HasDistance : (ℕ → ℕ → ℕ) → ℕ → ℕ → (ℕ → ℕ → ℕ) → ℕ → Type 0
HasDistance times size n generator d =
    (one other : ℕ → ℕ) → IsWordOf times size n generator one → IsWordOf times size n generator other
    → (marked : ℕ → Bool) → marked_below marked n < d → AgreeUnmarked n marked one other
    → (p : ℕ) → p < n → one p ≡ other p

-- ---- words near a code

-- A matrix of so many rows is near the code: it is a matrix of code words, but for at most e columns.
pub record IsNear (times : ℕ → ℕ → ℕ) (size n : ℕ) (generator : ℕ → ℕ → ℕ) (e height : ℕ) (word : ℕ → ℕ → ℕ) : Type 0 where
  pub matrix : ℕ → ℕ → ℕ
  pub rows : (i : ℕ) → i < height → IsWordOf times size n generator (matrix i)
  pub marked : ℕ → Bool
  pub few : marked_below marked n ≤ e
  pub same : (i : ℕ) → i < height → AgreeUnmarked n marked (word i) (matrix i)

-- the symbols of a matrix are elements of the field
abbrev pub HaveSymbols : ℕ → ℕ → ℕ → (ℕ → ℕ → ℕ) → Type 0
HaveSymbols width n height word = (i p : ℕ) → i < height → p < n → word i p < 2 ^ width

-- u + x v
abbrev pub on_affine : (ℕ → ℕ → ℕ) → (ℕ → ℕ → ℕ) → (ℕ → ℕ → ℕ) → ℕ → ℕ → ℕ → ℕ
on_affine times u v x i p = bit_xor (u i p) (times x (v i p))

-- Two matrices are near the code together: but for at most e columns, the same for both, they are matrices of code words.
pub record AreNearTogether (times : ℕ → ℕ → ℕ) (size n : ℕ) (generator : ℕ → ℕ → ℕ) (e height : ℕ) (u v : ℕ → ℕ → ℕ) : Type 0 where
  pub one : ℕ → ℕ → ℕ
  pub other : ℕ → ℕ → ℕ
  pub one_rows : (i : ℕ) → i < height → IsWordOf times size n generator (one i)
  pub other_rows : (i : ℕ) → i < height → IsWordOf times size n generator (other i)
  pub marked : ℕ → Bool
  pub few : marked_below marked n ≤ e
  pub one_same : (i : ℕ) → i < height → AgreeUnmarked n marked (u i) (one i)
  pub other_same : (i : ℕ) → i < height → AgreeUnmarked n marked (v i) (other i)

-- Lines that are near a code at more than `lucky` points are near it as a whole, of matrices of any height: where u + x v is near for more
-- different x than that, u and v are near together. So of u and v that are not, at most so many u + x v are near.
abbrev pub HasGap : ℕ → (ℕ → ℕ → ℕ) → ℕ → ℕ → (ℕ → ℕ → ℕ) → ℕ → ℕ → Type 0
HasGap width times size n generator e lucky =
    (height : ℕ) (u v : ℕ → ℕ → ℕ) → HaveSymbols width n height v
    → (m : ℕ) (x : ℕ → ℕ) → AreDistinctBelow m (2 ^ width) x → lucky < m
    → ((j : ℕ) → j < m → IsNear times size n generator e height (on_affine times u v (x j)))
    → AreNearTogether times size n generator e height u v

-- ---- laws

-- The line lemma for every linear code, within a third of its distance: e + 1 points are few (R. Roth and G. Zémor, in S. Ames, C. Hazay,
-- Y. Ishai and M. Venkitasubramaniam, Ligero: lightweight sublinear arguments without a trusted setup, 2022).
abbrev pub LinesAreNear : Type 0
LinesAreNear =
    (width : ℕ) (times : ℕ → ℕ → ℕ) (size n d : ℕ) (generator : ℕ → ℕ → ℕ) → 0 < width → IsField width times
    → HasDistance times size n generator d
    → (e : ℕ) → 3 * e < d → HasGap width times size n generator e (e + 1)

-- `LinesAreNear` by counting triples of points, for every linear code of distance d = n - c, whose words agree at c indices at most, and
-- ((n - e) / n) ^ 3 > c / n + (d / n) (e + 2) / (s n): s n - 1 points are few (after E. Ben-Sasson, L. Goldberg, S. Kopparty and S. Saraf,
-- DEEP-FRI: sampling outside the box improves soundness, 2019, the one-and-a-half Johnson distance).
abbrev pub TriplesAreNear : Type 0
TriplesAreNear =
    (width : ℕ) (times : ℕ → ℕ → ℕ) (size n d : ℕ) (generator : ℕ → ℕ → ℕ) → 0 < width → IsField width times
    → HasDistance times size n generator d
    → (e c g s : ℕ) → c + d ≡ n → g + e ≡ n → s * (n * n * c) + n * d * (e + 2) < s * (g * g * g)
    → HasGap width times size n generator e (s * n - 1)
