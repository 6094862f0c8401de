-- Openings of a matrix that a prover has committed to, whatever it is, at points: a verifier reads some of its columns and a word that the
-- prover sends, which is to be what the point folds the matrix to (S. Ames, C. Hazay, Y. Ishai and M. Venkitasubramaniam, Ligero, 2017,
-- section 4.1; A. Golovnev, J. Lee, S. Setty, J. Thaler and R. Wahby, Brakedown, 2021, section 4; B. Diamond and J. Posen, Proximity
-- testing with logarithmic randomness, 2023).
use Rattle.std.specs.Prelude.{◌≡◌, ◌≢◌, ◌⊎◌, ℕ, zero, suc, ◌+◌, ◌-◌, ◌*◌, ◌^◌, ◌<◌, ◌≤◌, Bool, true, cond, not, ◌&&◌}
use Rattle.std.specs.Prelude.{List, [], ◌∷◌, length, nat_eq, slice_index}
use Rattle.field_base.specs.Field.{IsField}
use Rattle.field_slices.specs.Codes.{HasDistance, HasGap, HaveSymbols, IsNear, IsWordOf}
use Rattle.field_slices.specs.Folds.{IsLuckyAt, rows_folded}
use Rattle.field_slices.specs.Marks.{marked_below, total}

-- whether a word is not, at place p, what a point folds a matrix of 2 ^ h rows to
abbrev pub misses : (ℕ → ℕ → ℕ) → ℕ → (ℕ → ℕ → ℕ) → List ℕ → (ℕ → ℕ) → ℕ → Bool
misses times h word point row p = not (nat_eq (row p) (rows_folded times h point word 0 p))

-- A matrix is near one of code words, and the word is what the point folds that one to.
pub record IsOpened (times : ℕ → ℕ → ℕ) (size n : ℕ) (generator : ℕ → ℕ → ℕ) (e h : ℕ) (word : ℕ → ℕ → ℕ) (point : List ℕ) (row : ℕ → ℕ)
    : Type 0 where
  pub near : IsNear times size n generator e (2 ^ h) word
  pub folds : (p : ℕ) → p < n → row p ≡ rows_folded times h point near.matrix 0 p

-- there is at most one matrix of code words that a matrix is near
abbrev pub NearIsUnique : Type 0
NearIsUnique =
    (times : ℕ → ℕ → ℕ) (size n d : ℕ) (generator : ℕ → ℕ → ℕ) → HasDistance times size n generator d
    → (e height : ℕ) (word : ℕ → ℕ → ℕ) → 2 * e < d
    → (one other : IsNear times size n generator e height word)
    → (i : ℕ) → i < height → (p : ℕ) → p < n → one.matrix i p ≡ other.matrix i p

-- Soundness at a point that is drawn behind the matrix: a code word is what the point folds the one near matrix of code words to, or a
-- coordinate is lucky, or the word misses what the point folds the matrix to at more than e places.
abbrev pub OpeningsNeedLuck : Type 0
OpeningsNeedLuck =
    (width : ℕ) (times : ℕ → ℕ → ℕ) (size n d : ℕ) (generator : ℕ → ℕ → ℕ) → 0 < width → IsField width times
    → HasDistance times size n generator d
    → (e h : ℕ) (word : ℕ → ℕ → ℕ) (point : List ℕ) (row : ℕ → ℕ) → 2 * e < d
    → HaveSymbols width n (2 ^ h) word → length point ≡ h → IsWordOf times size n generator row
    → IsOpened times size n generator e h word point row
    ⊎ ((k : ℕ) × IsLuckyAt times size n generator e h word point k)
    ⊎ (e < marked_below (misses times h word point row) n)

-- Soundness at any point: of a matrix that is near one of code words, a code word that is not what the point folds that one to misses at
-- d - e places or more.
abbrev pub OtherRowsMiss : Type 0
OtherRowsMiss =
    (width : ℕ) (times : ℕ → ℕ → ℕ) (size n d : ℕ) (generator : ℕ → ℕ → ℕ) → 0 < width → IsField width times
    → HasDistance times size n generator d
    → (e h : ℕ) (word : ℕ → ℕ → ℕ) (point : List ℕ) (row : ℕ → ℕ) → length point ≡ h
    → IsWordOf times size n generator row
    → (near : IsNear times size n generator e (2 ^ h) word)
    → (p : ℕ) → p < n → row p ≢ rows_folded times h point near.matrix 0 p
    → d ≤ marked_below (misses times h word point row) n + e

-- ---- how many challenges and places let a verifier accept

-- the sum of f over all lists of so many numbers below a bound
unfoldable pub sum_lists : ℕ → ℕ → (List ℕ → ℕ) → ℕ
sum_lists zero bound f = f []
sum_lists (suc q) bound f = total (λ x. sum_lists q bound (λ xs. f (x ∷ xs))) bound

-- a list of so many numbers below a bound
pub record AreNumbersBelow (q bound : ℕ) (numbers : List ℕ) : Type 0 where
  pub count : length numbers ≡ q
  pub below : (i : ℕ) → i < q → slice_index numbers i < bound

-- Of a matrix that is not near the code, at most h lucky F ^ (h - 1) of the F ^ h points fold it to a word that is, F the elements of the
-- field: so many do at which a test holds that holds at no others.
abbrev pub FewPointsFoldNear : Type 0
FewPointsFoldNear =
    (width : ℕ) (times : ℕ → ℕ → ℕ) (size n d : ℕ) (generator : ℕ → ℕ → ℕ) → 0 < width → IsField width times
    → HasDistance times size n generator d
    → (e lucky h : ℕ) (word : ℕ → ℕ → ℕ) → 2 * e < d → HasGap width times size n generator e lucky → HaveSymbols width n (2 ^ h) word
    → (IsNear times size n generator e (2 ^ h) word → ⊥)
    → (near : List ℕ → Bool)
    → ((point : List ℕ) → length point ≡ h → near point ≡ true → IsNear times size n generator e 1 (rows_folded times h point word))
    → 2 ^ width * sum_lists h (2 ^ width) (λ point. cond (near point) 1 0) ≤ h * lucky * (2 ^ width) ^ h

-- no place of a list is marked
unfoldable pub all_unmarked : (ℕ → Bool) → List ℕ → Bool
all_unmarked marked [] = true
all_unmarked marked (p ∷ places) = not (marked p) && all_unmarked marked places

-- For how many points of h coordinates, and lists of q places, a verifier accepts what a prover sends as a function of the point, and the
-- prover cheats.
abbrev pub accepted_cheats : ℕ → (ℕ → ℕ → ℕ) → ℕ → ℕ → ℕ → (ℕ → ℕ → ℕ) → (List ℕ → ℕ → ℕ) → (List ℕ → Bool) → ℕ
accepted_cheats width times n h q word prover cheats =
    sum_lists h (2 ^ width)
    (λ point. sum_lists q n (λ places. cond (cheats point && all_unmarked (misses times h word point (prover point)) places) 1 0))

-- Soundness, for every matrix and every prover, as numbers: of the F ^ h n ^ q points and lists of places, F the elements of the field, a
-- verifier accepts a code word that is not what the point folds the near matrix to for at most
-- h lucky F ^ (h - 1) n ^ q + F ^ h (n - e - 1) ^ q.
abbrev pub FewCheatsAreAccepted : Type 0
FewCheatsAreAccepted =
    (width : ℕ) (times : ℕ → ℕ → ℕ) (size n d : ℕ) (generator : ℕ → ℕ → ℕ) → 0 < width → IsField width times
    → HasDistance times size n generator d
    → (e lucky h q : ℕ) (word : ℕ → ℕ → ℕ) (prover : List ℕ → ℕ → ℕ) (cheats : List ℕ → Bool)
    → 2 * e < d → HasGap width times size n generator e lucky → HaveSymbols width n (2 ^ h) word
    → ((point : List ℕ) → length point ≡ h → IsWordOf times size n generator (prover point))
    → ((point : List ℕ) → length point ≡ h → cheats point ≡ true → IsOpened times size n generator e h word point (prover point) → ⊥)
    → 2 ^ width * accepted_cheats width times n h q word prover cheats
    ≤ h * lucky * (2 ^ width) ^ h * n ^ q + 2 ^ width * ((2 ^ width) ^ h * (n - (e + 1)) ^ q)
