-- Openings of several tables that a prover makes of their columns and trees: the values are those of the tables, and a verifier accepts them.
use Rattle.std.proofs.Common.{◌≡◌, ℕ, zero, suc, ◌-◌, ◌^◌, ◌<◌, List, [], ◌∷◌, length, map, take, drop, get_or, refl, sym, ◌∙◌, ap, subst, arith}
use Rattle.std.specs.Prelude.{slice_index}
use Rattle.std.specs.List.{AllZip, range_with_len}
use Rattle.std.proofs.lemmas.Grind.{same_number_lists}
use Rattle.std.proofs.lemmas.List.{get_or-map, length-drop, length-map, length-take-le, take-append-drop}
use Rattle.std.proofs.lemmas.List.FromFn.{get_or-map-range_with_len, length-map-range_with_len}
use Rattle.std.proofs.lemmas.Slice.Zip.{AllZip-long}
use Rattle.field_base.specs.Ring.{IsRing}
use Rattle.field_slices.specs.Multilinear.{multilinear_value}
use Rattle.transcripts.specs.Commitments.{root_of, row_at}
use Rattle.transcripts.specs.declared.merkle_tree.MerkleTree.{MerkleTree}
use Rattle.protocols.specs.CommitmentScheme.{HoldsColumns, matrix_rows, row_levels}
use Rattle.protocols.specs.JointTables.{EachBelow}
use Rattle.protocols.specs.Tables.{IsHonestOpening, OpensColumns}
use Rattle.protocols.proofs.CommitmentScheme.{value-opened}
use Rattle.protocols.proofs.HonestTables.{mapped-at, zip-at}

-- there is an element at each place
element-at : {X : Type 0} (xs : List X) (i : ℕ) → i < length xs → (x : X) × (x ≡ get_or xs i x)
element-at [] i below = absurd (omega (arith, below))
element-at (x ∷ xs) zero below = (x, refl)
element-at (x ∷ xs) (suc i) below = element-at xs i (omega (arith, below))

-- what holds of each element holds at each place
pub at-place : {X : Type 0} (P : ℕ → Type 0) (xs : List X) → EachBelow (length xs) xs (λ i x. P i) → (i : ℕ) → i < length xs → P i
at-place P xs each i below = let here = element-at xs i below in each i here.0 below here.1

-- a row of so many values is as long
pub row-counted : {F : Type 0} (repr : F → ℕ) (row : List F) (f : ℕ → ℕ) (n : ℕ) → map repr row ≡ map f (range_with_len 0 n) → length row ≡ n
row-counted repr row f n is = sym (length-map row repr) ∙ ap length is ∙ length-map-range_with_len f 0 n

module _ {F A X : Type 0} (hash : List ℕ → List ℕ) (repr : F → ℕ) (size width : ℕ) (times : ℕ → ℕ → ℕ) (vector : ℕ → ℕ) (m n : ℕ)
    (held : List X) (columns_of : X → List F) (tree_of : X → MerkleTree A) (tables : List (List F))
    (holds : AllZip (λ (table : List F) (columns : List F × MerkleTree A). HoldsColumns hash repr size width times vector m n table columns.0 columns.1)
    tables (map (λ x. (columns_of x, tree_of x)) held)) (point : List F) (coordinates : length point ≡ n) where
  abbrev h : ℕ
  h = matrix_rows m n

  abbrev k : ℕ
  k = row_levels m n

  abbrev pair : X → List F × MerkleTree A
  pair x = (columns_of x, tree_of x)

  abbrev root_at : List F × MerkleTree A → List ℕ
  root_at columns = root_of columns.1

  first-long : length (take h point) ≡ h
  first-long = length-take-le h point (omega (arith, coordinates))

  abbrev Holds : List F → List F × MerkleTree A → Type 0
  Holds table columns = HoldsColumns hash repr size width times vector m n table columns.0 columns.1

  pub tables-long : length tables ≡ length held
  tables-long = sym (AllZip-long Holds tables (map pair held) holds) ∙ length-map held pair

  -- the columns of a table and its tree
  held-at : (i : ℕ) (x : X) → i < length held → x ≡ get_or held i x
      → HoldsColumns hash repr size width times vector m n (get_or tables i []) (columns_of x) (tree_of x)
  held-at i x below is =
      subst (λ (c : List F × MerkleTree A). HoldsColumns hash repr size width times vector m n (get_or tables i []) c.0 c.1)
      (mapped-at pair held i x (pair x) below is)
      (zip-at Holds tables (map pair held) i [] (pair x)
      holds (subst (λ (l : ℕ). i < l) (sym tables-long) below))

  root-at : (i : ℕ) (x : X) → i < length held → x ≡ get_or held i x
      → get_or (map root_at (map pair held)) i [] ≡ root_of (tree_of x)
  root-at i x below is =
      mapped-at root_at (map pair held) i (pair x) [] (subst (λ (l : ℕ). i < l) (sym (length-map held pair)) below)
      (sym (mapped-at pair held i x (pair x) below is))

  module _ (rows : List (List F))
      (rows_are : EachBelow (length held) held (λ i x. map repr (get_or rows i [])
      ≡ map (λ p. multilinear_value times (map repr (row_at (2 ^ h) (columns_of x) p)) (map repr (take h point))) (range_with_len 0 (2 ^ k)))) where
    pub each-open : (places : List ℕ) (columns : List (List F)) (nodes : List (List (List ℕ)))
        → EachBelow (length held) held (λ i x. IsHonestOpening repr size width times vector h (tree_of x) (columns_of x) places (get_or columns i [])
        (get_or nodes i []))
        → (i : ℕ) → i < length held
        → OpensColumns hash repr size width times vector k 2 (get_or (map root_at (map pair held)) i []) (take h point)
        (get_or rows i []) places (get_or columns i []) (get_or nodes i [])
    each-open places columns nodes honest i below =
        let here = element-at held i below in
        let own = held-at i here.0 below here.1 in
        subst
        (λ (r : List ℕ). OpensColumns hash repr size width times vector k 2 r (take h point) (get_or rows i []) places (get_or columns i [])
        (get_or nodes i [])) (sym (root-at i here.0 below here.1))
        (honest i here.0 below here.1 hash k 2 (map repr (get_or tables i [])) (take h point) (get_or rows i []) (sym own.depth) first-long own.extended
        own.over (rows_are i here.0 below here.1))

    pub values-are : 0 < width → IsRing width 1 times → ((x : F) → repr x < 2 ^ width) → (values : List F)
        → map repr values ≡ map (λ i. multilinear_value times (map repr (get_or rows i [])) (map repr (drop h point))) (range_with_len 0 (length held))
        → map repr values ≡ map (λ table. multilinear_value times (map repr table) (map repr point)) tables
    values-are wide ring range values is =
        same_number_lists (map repr values) (map value tables)
        (ap length is ∙ length-map-range_with_len at_row 0 (length held) ∙ sym (length-map tables value ∙ tables-long))
        (λ i within.
        let below : i < length held =
        subst (λ (l : ℕ). i < l) (ap length is ∙ length-map-range_with_len at_row 0 (length held)) within in
        let here = element-at held i below in
        let own = held-at i here.0 below here.1 in
        ap (λ (l : List ℕ). slice_index l i) is ∙ get_or-map-range_with_len at_row 0 (length held) i i 0 below (omega arith)
        ∙ value-opened repr width times vector wide ring range k 2 h (columns_of here.0) (get_or tables i []) point (get_or rows i []) (take h point)
        (drop h point) first-long others-long (sym (take-append-drop h point)) (own.count ∙ ap (λ (b : ℕ). 2 ^ b) (sym coordinates)) own.extended
        (rows_are i here.0 below here.1)
        ∙ sym (get_or-map value tables i [] 0 (subst (λ (l : ℕ). i < l) (sym tables-long) below)))
      where
        value : List F → ℕ
        value table = multilinear_value times (map repr table) (map repr point)

        at_row : ℕ → ℕ
        at_row i = multilinear_value times (map repr (get_or rows i [])) (map repr (drop h point))

        others-long : length (drop h point) ≡ k
        others-long = length-drop h point ∙ ap (λ (l : ℕ). l - h) coordinates
