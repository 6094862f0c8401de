-- Sums of the products of two tables: their terms, rows of two values, and what runs of the protocol say.
use Rattle.std.proofs.Common.{◌≡◌, ℕ, zero, suc, ◌+◌, ◌*◌, ◌^◌, ◌<◌, ◌≤◌, inl, inr, true, false, List, [], ◌∷◌, ◌++◌, append_assoc, length, map, take, drop, get_or, refl, sym, ◌∙◌}
use Rattle.std.proofs.Common.{ap, ap₂, subst, arith, lit<}
use Rattle.std.specs.Prelude.{◌⊎◌, None, Option, Some, is_some, slice_index}
use Rattle.std.proofs.Math.Nat.{pow-le-pow_right}
use Rattle.std.proofs.Math.Pow.{pow_mono}
use Rattle.std.proofs.Math.Seq.{take-suc}
use Rattle.std.proofs.lemmas.List.{length-drop, length-map, length-take-le}
use Rattle.std.proofs.lemmas.Nat.{pow_pos}
use native.Mathlib.Nat.{mod-eq_of_lt}
use native.Mathlib.Numerals.{add-one}
use lib.Bits.{xor_zero_r}
use Rattle.field_base.specs.Basis.{product_below, sum_below}
use Rattle.field_base.specs.Field.{IsField}
use Rattle.field_base.specs.Ring.{IsRing}
use Rattle.field_base.proofs.BasisSums.{sum_below-same}
use Rattle.field_base.proofs.Places.{numbers-lt}
use Rattle.field_base.proofs.RingLemmas.{mod-times}
use Rattle.field_slices.specs.Multilinear.{eq_corner, multilinear_value}
use Rattle.sum_checks.specs.Refusals.{CanBeStated, ProverRefuses, VerifierRefuses}
use Rattle.sum_checks.specs.Sumcheck.{AreTurns, IsRunOf, messages_of, statement_of}
use Rattle.sum_checks.specs.SumcheckClaims.{AreHonestMessages, AreMessages, IsClaimShape, reduced_claim}
use Rattle.sum_checks.specs.Terms.{AreWithin, HaveFactors, Product, cube_sum, degree_of, table_value, terms_value}
use Rattle.sum_checks.specs.declared.error.ProtocolError.{ProtocolError}
use Rattle.sum_checks.specs.declared.error.ProtocolError.TheVariants.{Memory}
use Rattle.sum_checks.proofs.Runs.{messages-length, turns-length}
use Rattle.protocols.specs.ProductSums.{interleaved, product_terms}

-- ---- the terms

-- one term
abbrev pub one_term : ℕ → List ℕ → List Product
one_term coefficient factors = (record { coefficient = coefficient; factors = factors }) ∷ []

pub some-unless : {T : Type 0} (found : Option T) → (is_some found ≡ false → ⊥) → is_some found ≡ true
some-unless (Some x) not = refl
some-unless None not = absurd (not refl)

pub degree-product : degree_of product_terms ≡ 2
unfolding degree_of
degree-product = refl

pub product-within : AreWithin 2 product_terms
unfolding AreWithin
product-within = (below, tt)
  where
    below : (k : ℕ) → k < 2 → slice_index (0 ∷ 1 ∷ []) k < 2
    below zero inside = omega arith
    below (suc zero) inside = omega arith
    below (suc (suc k)) inside = absurd (omega (arith, inside))

-- two rows of a table
pub rows-length : {F : Type 0} (xs ys : List F) → length ys ≡ length xs → length (interleaved xs ys) ≡ length xs * 2
rows-length [] ys same = refl
rows-length (x ∷ xs) [] same = absurd (omega (arith, same))
rows-length (x ∷ xs) (y ∷ ys) same = let others = rows-length xs ys (omega (arith, same)) in omega (arith, others)

-- ---- rows

-- two rows more
interleaved-append : {F : Type 0} (xs ys : List F) (x y : F) → length ys ≡ length xs
    → interleaved (xs ++ x ∷ []) (ys ++ y ∷ []) ≡ interleaved xs ys ++ x ∷ y ∷ []
interleaved-append [] [] x y same = refl
interleaved-append [] (b ∷ ys) x y same = absurd (omega (arith, same))
interleaved-append (a ∷ xs) [] x y same = absurd (omega (arith, same))
interleaved-append (a ∷ xs) (b ∷ ys) x y same =
    ap (λ (l : List _). a ∷ b ∷ l) (interleaved-append xs ys x y (omega (arith, same)))

pub rows-grown : {F : Type 0} (rows once twice left right : List F) (x y : F) (place : ℕ) → place < length left → length right ≡ length left
    → x ≡ get_or left place x → y ≡ get_or right place y → once ≡ rows ++ x ∷ [] → twice ≡ once ++ y ∷ []
    → rows ≡ interleaved (take place left) (take place right) → twice ≡ interleaved (take (place + 1) left) (take (place + 1) right)
rows-grown rows once twice left right x y place inside same read other is_once is_twice so_far =
    is_twice ∙ ap (λ (l : List _). l ++ y ∷ []) is_once ∙ append_assoc rows (x ∷ []) (y ∷ [])
    ∙ ap (λ (l : List _). l ++ x ∷ y ∷ []) so_far
    ∙ sym (interleaved-append (take place left) (take place right) x y
    (length-take-le place right (omega (arith, inside, same)) ∙ sym (length-take-le place left (omega (arith, inside)))))
    ∙ ap₂ (λ (xs ys : List _). interleaved xs ys)
    (ap (λ z. take place left ++ z ∷ []) read ∙ sym (ap (λ (n : ℕ). take n left) (add-one place) ∙ take-suc left place x inside))
    (ap (λ z. take place right ++ z ∷ []) other
    ∙ sym (ap (λ (n : ℕ). take n right) (add-one place) ∙ take-suc right place y (omega (arith, inside, same))))

-- the rows of numbers
pub map-interleaved : {A B : Type 0} (f : A → B) (xs ys : List A) → map f (interleaved xs ys) ≡ interleaved (map f xs) (map f ys)
map-interleaved f [] ys = refl
map-interleaved f (x ∷ xs) [] = refl
map-interleaved f (x ∷ xs) (y ∷ ys) = ap (λ (l : List _). f x ∷ f y ∷ l) (map-interleaved f xs ys)

-- ---- runs

module _ {C F : Type 0} (observes : C → F → C → Type 0) (gives : C → F → C → Type 0) (repr : F → ℕ) (width : ℕ) (times : ℕ → ℕ → ℕ)
    (rounds : ℕ) (old new : C) (terms : List Product) (same : terms ≡ product_terms) where
  pub two : degree_of terms ≡ 2
  two = ap degree_of same ∙ degree-product

  -- what the verifier has read
  abbrev Read : List Product → ℕ → ℕ → List F → List F → ℕ → Type 0
  Read ts d sum messages point claim =
      IsRunOf observes gives repr old (statement_of width times rounds 2 ts sum) (messages_of d rounds messages) point new
      × (claim ≡ reduced_claim width times sum (map (map repr) (messages_of d rounds messages)) (map repr point))

  pub verified-sum : (sum : ℕ) (messages point : List F) (claim : ℕ) → Read terms (degree_of terms) sum messages point claim
      → Read product_terms 2 sum messages point claim
  verified-sum sum messages point claim read =
      subst (λ (ts : List Product). Read ts 2 sum messages point claim) same
      (subst (λ (d : ℕ). Read terms d sum messages point claim) two read)

  -- what the prover has sent
  abbrev Sent : List Product → ℕ → ℕ → List F → List F → List F → Type 0
  Sent ts d sum messages point rows =
      IsRunOf observes gives repr old (statement_of width times rounds 2 ts sum) (messages_of d rounds messages) point new
      × (sum ≡ cube_sum times ts 2 rounds (map repr rows))
      × AreHonestMessages times ts 2 d (map repr rows) (map (map repr) (messages_of d rounds messages)) (map repr point)

  pub proved-sum : (sum : ℕ) (messages point rows read written : List F) → read ≡ rows → written ≡ rows
      → IsRunOf observes gives repr old (statement_of width times rounds 2 terms sum) (messages_of (degree_of terms) rounds messages) point new
      → sum ≡ cube_sum times terms 2 rounds (map repr read)
      → AreHonestMessages times terms 2 (degree_of terms) (map repr written) (map (map repr) (messages_of (degree_of terms) rounds messages)) (map repr point)
      → Sent product_terms 2 sum messages point rows
  proved-sum sum messages point rows read written is_read is_written run is_sum honest =
      subst (λ (ts : List Product). Sent ts 2 sum messages point rows) same
      (subst (λ (d : ℕ). Sent terms d sum messages point rows) two (
        run,
        is_sum ∙ ap (λ (xs : List F). cube_sum times terms 2 rounds (map repr xs)) is_read,
        subst (λ (xs : List F). AreHonestMessages times terms 2 (degree_of terms) (map repr xs)
            (map (map repr) (messages_of (degree_of terms) rounds messages)) (map repr point)) is_written honest,
      ))

-- a run has as many challenges as rounds
pub run-length : {C F : Type 0} (observes gives : C → F → C → Type 0) (d rounds : ℕ) (messages challenges : List F) (begun new : C)
    → AreTurns observes gives begun (messages_of d rounds messages) challenges new → length challenges ≡ rounds
run-length observes gives d rounds messages challenges begun new turns =
    turns-length observes gives (messages_of d rounds messages) challenges begun new turns ∙ messages-length d rounds messages

-- ---- messages

-- messages of two elements each
pub messages-are : {F : Type 0} (repr : F → ℕ) (width n : ℕ) → ((x : F) → repr x < 2 ^ width) → (values : List F) → length values ≡ n * 2
    → AreMessages width 2 (map (map repr) (messages_of 2 n values))
unfolding AreMessages messages_of
messages-are repr width zero range values long = tt
messages-are repr width (suc n) range values long = (
  length-map (take 2 values) repr ∙ length-take-le 2 values (omega (arith, long)),
  numbers-lt repr width range (take 2 values),
  let rest = length-drop 2 values in messages-are repr width n range (drop 2 values) (omega (arith, long, rest)),
)

-- ---- memory

-- a field of 26 bits has more elements than a table's polynomial has coordinates
pub rounds-fit : (width rounds : ℕ) → 26 ≤ width → rounds ≤ 39 → rounds < 2 ^ width
rounds-fit width rounds points few =
    let large : 2 ^ 26 ≤ 2 ^ width = pow_mono {i = 26} {j = width} points in omega (arith, large, few)

-- the sum of two tables can be stated
sum-stated : (width rounds : ℕ) → 3 ≤ width → rounds < 2 ^ width → CanBeStated width rounds 2 product_terms
sum-stated width rounds wide fits =
    let eight : 8 ≤ 2 ^ width = pow_mono {i = 3} {j = width} wide in
    let two : 2 < 2 ^ width = omega (arith, eight) in
    let one : 1 < 2 ^ width = omega (arith, eight) in
    record { field = wide; within = product-within; rounds_fit = fits; count_fits = two; terms_fit = one }

-- so that a prover refuses no values of two for each corner
pub sum-proved : (width rounds size : ℕ) (terms : List Product) (error : ProtocolError) → terms ≡ product_terms → size ≡ 2 ^ rounds * 2
    → rounds < 64 → 3 ≤ width → rounds < 2 ^ width → (error ≡ Memory) ⊎ ProverRefuses width rounds 2 terms size error → error ≡ Memory
sum-proved width rounds size terms error same long few wide fits (inl is) = is
sum-proved width rounds size terms error same long few wide fits (inr is) =
    absurd
    (is.1
    (record {
      stated = subst (λ (ts : List Product). CanBeStated width rounds 2 ts) (sym same) (sum-stated width rounds wide fits);
      few = few;
      whole = long;
    }))

-- .. and a verifier no messages of two values for each round
pub sum-taken : (width rounds size : ℕ) (terms : List Product) (error : ProtocolError) → terms ≡ product_terms → size ≡ 2 * rounds → 3 ≤ width
    → rounds < 2 ^ width → (error ≡ Memory) ⊎ VerifierRefuses width rounds 2 terms size error → error ≡ Memory
sum-taken width rounds size terms error same long wide fits (inl is) = is
sum-taken width rounds size terms error same long wide fits (inr (inl is)) =
    let degree : degree_of terms ≡ 2 = ap degree_of same ∙ degree-product in
    let turned : size ≡ rounds * 2 = omega (arith, long) in
    absurd (is.1 (turned ∙ ap (λ (d : ℕ). rounds * d) (sym degree)))
sum-taken width rounds size terms error same long wide fits (inr (inr is)) =
    absurd (is.2 (subst (λ (ts : List Product). CanBeStated width rounds 2 ts) (sym same) (sum-stated width rounds wide fits)))

-- ---- values

pub rows-fit : (bound : ℕ) → 0 < bound → (xs ys : List ℕ) → ((i : ℕ) → slice_index xs i < bound)
    → ((i : ℕ) → slice_index ys i < bound)
    → (i : ℕ) → slice_index (interleaved xs ys) i < bound
rows-fit bound some [] ys one other i = some
rows-fit bound some (x ∷ xs) [] one other i = some
rows-fit bound some (x ∷ xs) (y ∷ ys) one other zero = one 0
rows-fit bound some (x ∷ xs) (y ∷ ys) one other (suc zero) = other 0
rows-fit bound some (x ∷ xs) (y ∷ ys) one other (suc (suc i)) = rows-fit bound some xs ys (λ j. one (suc j))
    (λ j. other (suc j)) i

rows-at : (xs ys : List ℕ) → length ys ≡ length xs → (i : ℕ) → i < length xs
    → (slice_index (interleaved xs ys) (i * 2 + 0) ≡ slice_index xs i)
    × (slice_index (interleaved xs ys) (i * 2 + 1) ≡ slice_index ys i)
rows-at [] ys same i below = absurd (omega (arith, below))
rows-at (x ∷ xs) [] same i below = absurd (omega (arith, same))
rows-at (x ∷ xs) (y ∷ ys) same zero below = (refl, refl)
rows-at (x ∷ xs) (y ∷ ys) same (suc i) below =
    let first : suc i * 2 + 0 ≡ suc (suc (i * 2 + 0)) = omega arith in
    let second : suc i * 2 + 1 ≡ suc (suc (i * 2 + 1)) = omega arith in
    let before = rows-at xs ys (omega (arith, same)) i (omega (arith, below)) in
    let at = slice_index (x ∷ y ∷ interleaved xs ys) in
    (ap at first ∙ before.0, ap at second ∙ before.1)

module _ (width : ℕ) (times : ℕ → ℕ → ℕ) (ring : IsRing width 1 times) where
  -- the term at a row of two values
  pub term-value : (row : ℕ → ℕ) → terms_value times product_terms row ≡ times (row 0) (row 1)
  unfolding terms_value product_below
  term-value row =
      xor_zero_r (times 1 (times (times 1 (row 0)) (row 1)))
      ∙ ring.one (times (times 1 (row 0)) (row 1)) ∙ mod-eq_of_lt (ring.below (times 1 (row 0)) (row 1))
      ∙ ap (λ (v : ℕ). times v (row 1)) (ring.one (row 0)) ∙ mod-times width 1 times ring (row 0) (row 1)

  -- .. of the values of both tables at a point
  pub values-product : (xs ys point : List ℕ) → length xs ≡ 2 ^ length point → length ys ≡ length xs
      → terms_value times product_terms (table_value times 2 (interleaved xs ys) point)
      ≡ times (multilinear_value times xs point) (multilinear_value times ys point)
  values-product xs ys point size same =
      term-value (table_value times 2 (interleaved xs ys) point)
      ∙ ap₂ times
      (sum_below-same (λ i. times (slice_index (interleaved xs ys) (i * 2 + 0)) (eq_corner times point i))
      (λ i. times (slice_index xs i) (eq_corner times point i)) (2 ^ length point)
      (λ i below. ap (λ (v : ℕ). times v (eq_corner times point i))
      (rows-at xs ys same i (subst (λ (m : ℕ). i < m) (sym size) below)).0))
      (sum_below-same (λ i. times (slice_index (interleaved xs ys) (i * 2 + 1)) (eq_corner times point i))
      (λ i. times (slice_index ys i) (eq_corner times point i)) (2 ^ length point)
      (λ i below. ap (λ (v : ℕ). times v (eq_corner times point i))
      (rows-at xs ys same i (subst (λ (m : ℕ). i < m) (sym size) below)).1))

product-factors : HaveFactors 2 product_terms
unfolding HaveFactors
product-factors = (omega arith, tt)

-- what the laws of sum-checks ask of two tables of 2 ^ n elements
pub tables-shape : (width : ℕ) (times : ℕ → ℕ → ℕ) → 2 ≤ width → IsField width times → (n : ℕ) (one other : List ℕ)
    → length one ≡ 2 ^ n
    → length other ≡ length one → ((i : ℕ) → slice_index one i < 2 ^ width)
    → ((i : ℕ) → slice_index other i < 2 ^ width)
    → IsClaimShape width times product_terms 2 2 n (interleaved one other)
tables-shape width times wide field n one other size same one_fits other_fits = record {
  summed = record {
    field = field;
    wide = omega (arith, wide);
    nodes = let more : 2 ^ 2 ≤ 2 ^ width = pow-le-pow_right (lit< tt) wide in omega (arith, more);
    some = omega arith;
    few = product-factors;
    within = product-within;
  };
  size = rows-length one other same ∙ ap (λ (m : ℕ). m * 2) size;
  fits = rows-fit (2 ^ width) (pow_pos width) one other one_fits other_fits;
}

-- the sum over the cube is that of the products
pub products-sum : (width : ℕ) (times : ℕ → ℕ → ℕ) → IsRing width 1 times → (n : ℕ) (xs ys : List ℕ) → length xs ≡ 2 ^ n → length ys ≡ length xs
    → cube_sum times product_terms 2 n (interleaved xs ys) ≡ sum_below (λ v. times (slice_index xs v) (slice_index ys v)) (2 ^ n)
products-sum width times ring n xs ys size same =
    sum_below-same (λ v. terms_value times product_terms (λ j. slice_index (interleaved xs ys) (v * 2 + j)))
    (λ v. times (slice_index xs v) (slice_index ys v)) (2 ^ n)
    (λ v below.
    let at = rows-at xs ys same v (subst (λ (m : ℕ). v < m) (sym size) below) in
    term-value width times ring (λ j. slice_index (interleaved xs ys) (v * 2 + j)) ∙ ap₂ times at.0 at.1)
