-- Files of proofs.
use Rattle.std.specs.Prelude.{◌≡◌, ◌⊎◌, ℕ, ◌*◌, ◌%◌, ◌≤◌, ◌<◌, List, [], ◌∷◌, ◌++◌, codes, get_or, length}
use Rattle.std.specs.Io.{StartsWith}
use Rattle.std.specs.List.{flat_map}
use Rattle.field_bytes.specs.Streams.{joined_bytes}
use Rattle.field_element.specs.Element.{repr_of}
use Rattle.prove_sums.specs.Shapes.{element_count}
use Rattle.prove_sums.specs.Tables.{field_letter}
use Rattle.prove_sums.specs.declared.tables.Table.{Table}
use Rattle.prove_sums.specs.declared.tables.TableField.{TableField}
use Rattle.prove_sums.specs.declared.refusal.Refusal.{Refusal}
use Rattle.prove_sums.specs.declared.refusal.Refusal.TheVariants.{NotAProof, OtherVersion, OtherField, Length, OtherParameters, TooFewBits, OtherLeft, OtherRight, NotProved}

-- what a file begins with: "sum 4 ", the letter of the field of the words, and a line feed
abbrev pub head : TableField → List ℕ
head field = 115 ∷ 117 ∷ 109 ∷ 32 ∷ 52 ∷ 32 ∷ field_letter field ∷ 10 ∷ []

-- the bytes of a file: the head, m and n as one byte each, where 2 ^ m places are opened of tables of 2 ^ n elements, the roots of the left
-- and of the right table, the bytes of the elements, and the nodes, one after the other
abbrev pub file_bytes : TableField → ℕ → ℕ → List ℕ → List ℕ → List ℕ → List (List ℕ) → List ℕ
file_bytes field queries rounds left right body nodes =
    head field ++ (queries ∷ rounds ∷ []) ++ left ++ right ++ body ++ flat_map (λ node. node) nodes

-- what a file may hold: 2 ^ 7 or 2 ^ 8 places, roots and nodes of 32 bytes, as many nodes for one table as for the other, and as many bytes as the elements have
pub record IsFile (queries rounds : ℕ) (left right body : List ℕ) (nodes : List (List ℕ)) : Type 0 where
  pub some_queries : 7 ≤ queries
  pub few_queries : queries ≤ 8
  pub few : rounds ≤ 39
  pub left_size : length left ≡ 32
  pub right_size : length right ≡ 32
  pub body_size : length body ≡ element_count queries rounds * 16
  pub node_size : (k : ℕ) → k < length nodes → length (get_or nodes k []) ≡ 32
  pub even : length nodes % 2 ≡ 0

-- bytes are a file of these parts, and of no others
pub record IsCutTo (bytes : List ℕ) (field : TableField) (queries rounds : ℕ) (left right body : List ℕ) (nodes : List (List ℕ))
    : Type 0 where
  pub may_be : IsFile queries rounds left right body nodes
  pub written : bytes ≡ file_bytes field queries rounds left right body nodes
  pub only : (f : TableField) (m n : ℕ) (l r b : List ℕ) (ns : List (List ℕ)) → IsFile m n l r b ns → bytes ≡ file_bytes f m n l r b ns
      → (field ≡ f) × (queries ≡ m) × (rounds ≡ n) × (left ≡ l) × (right ≡ r) × (body ≡ b) × (nodes ≡ ns)

-- a file of a proof for tables of words of a field, with these roots, elements and nodes
pub record IsFileOf {F : Type 0} (repr : F → ℕ) (bytes : List ℕ) (field : TableField) (queries rounds : ℕ) (left right : List ℕ)
    (elements : List F) (nodes : List (List ℕ)) : Type 0 where
  pub may_be : IsFile queries rounds left right (joined_bytes 16 repr elements) nodes
  pub written : bytes ≡ file_bytes field queries rounds left right (joined_bytes 16 repr elements) nodes

-- that file holds nothing else
abbrev pub IsOnlyFileOf : {F : Type 0} → (F → ℕ) → List ℕ → TableField → ℕ → ℕ → List ℕ → List ℕ → List F → List (List ℕ) → Type 0
IsOnlyFileOf {F} repr bytes field queries rounds left right elements nodes =
    (f : TableField) (m n : ℕ) (l r : List ℕ) (es : List F) (ns : List (List ℕ)) → IsFileOf repr bytes f m n l r es ns
    → (field ≡ f) × (queries ≡ m) × (rounds ≡ n) × (left ≡ l) × (right ≡ r) × (elements ≡ es) × (nodes ≡ ns)

-- bytes that are no file of a proof
abbrev pub IsNoFile : {F : Type 0} → (F → ℕ) → List ℕ → Type 0
IsNoFile {F} repr bytes =
    (field : TableField) (queries rounds : ℕ) (left right : List ℕ) (elements : List F) (nodes : List (List ℕ))
    → IsFileOf repr bytes field queries rounds left right elements nodes → ⊥

-- what gives the elements of a table their numbers, as a function of these elements alone
abbrev pub number_in : {T F : Type 0} → (T → List F) → (F → ℕ) → F → ℕ
number_in items repr = repr

-- .. where the elements are words
abbrev pub IsNoWordFile : List ℕ → Type 0
IsNoWordFile bytes = IsNoFile (number_in (λ (table : Table). table.elements.items) repr_of) bytes

-- bytes begin as a proof over some field does
abbrev pub HasHead : List ℕ → Type 0
HasHead bytes = (field : TableField) × StartsWith bytes (head field)

-- Why bytes are not read as a file: their length, where there are fewer than the 74 that stand before the elements, or where they have a
-- head; and else what they begin with: "sum 4 " is that of this version over another field, "sum " that of another version.
abbrev pub IsReadRefusal : Refusal → List ℕ → Type 0
IsReadRefusal Length bytes = (length bytes < 74) ⊎ HasHead bytes
IsReadRefusal OtherField bytes = (74 ≤ length bytes) × StartsWith bytes (codes "sum 4 ") × (HasHead bytes → ⊥)
IsReadRefusal OtherVersion bytes =
    (74 ≤ length bytes) × StartsWith bytes (codes "sum ") × (StartsWith bytes (codes "sum 4 ") → ⊥)
IsReadRefusal NotAProof bytes = (74 ≤ length bytes) × (StartsWith bytes (codes "sum ") → ⊥)
IsReadRefusal OtherParameters bytes = ⊥
IsReadRefusal TooFewBits bytes = ⊥
IsReadRefusal OtherLeft bytes = ⊥
IsReadRefusal OtherRight bytes = ⊥
IsReadRefusal NotProved bytes = ⊥
