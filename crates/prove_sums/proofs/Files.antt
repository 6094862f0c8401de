-- Files are cut into the parts of which they are made.
use Rattle.std.proofs.Common.{◌≡◌, ◌≢◌, ℕ, zero, suc, ◌+◌, ◌-◌, ◌*◌, ◌/◌, ◌%◌, ◌<◌, ◌≤◌, List, [], ◌∷◌, ◌++◌, length, get_or, take, drop, refl, sym, ◌∙◌, ap, ap₂, subst, arith}
use Rattle.std.specs.Prelude.{IfNone, IfSome, None, Option, Some, cond, nat_eq, slice_index}
use Rattle.std.specs.List.{flat_map}
use Rattle.std.specs.Simd.{first_chunks}
use Rattle.std.proofs.Math.Seq.{drop-append_seam, take-append_seam}
use Rattle.std.proofs.lemmas.List.{append_assoc, drop-drop, get_or-take, length-append, length-drop, length-take-le, take-append-drop}
use Rattle.std.proofs.lemmas.List.Concat.{flat_map-cons}
use Rattle.field_bytes.specs.Bytes.{low_bytes}
use Rattle.field_bytes.specs.Streams.{joined_bytes}
use Rattle.field_bytes.proofs.Taking.{length-chunks}
use Rattle.prove_sums.specs.ProofFiles.{file_bytes, head, HasHead, IsCutTo, IsFile}
use Rattle.prove_sums.specs.Shapes.{element_count}
use Rattle.prove_sums.specs.Tables.{field_letter}
use Rattle.prove_sums.specs.declared.tables.TableField.{TableField}
use Rattle.prove_sums.specs.declared.tables.TableField.TheVariants.{Ghash, Tower8, Tower16, Tower32, Tower64, Tower128}

-- the nodes, one after the other
abbrev pub flat : List (List ℕ) → List ℕ
flat nodes = flat_map (λ node. node) nodes

-- each has 32 bytes
abbrev pub AreNodes : List (List ℕ) → Type 0
AreNodes nodes = (k : ℕ) → k < length nodes → length (get_or nodes k []) ≡ 32

-- ---- nodes

length-flat : (nodes : List (List ℕ)) → AreNodes nodes → length (flat nodes) ≡ length nodes * 32
length-flat [] sized = refl
length-flat (n ∷ ns) sized =
    let first = sized 0 (omega arith) in
    let rest = length-flat ns (λ k within. sized (suc k) (omega (arith, within))) in
    ap length (flat_map-cons (λ x. x) n ns) ∙ length-append n (flat ns) ∙ omega (arith, first, rest)

-- chunks of 32 bytes of nodes are the nodes
chunks-flat : (nodes : List (List ℕ)) → AreNodes nodes → (k : ℕ) → k ≡ length nodes → first_chunks 32 k (flat nodes) ≡ nodes
chunks-flat [] sized zero same = refl
chunks-flat [] sized (suc k) same = absurd (omega (arith, same))
chunks-flat (n ∷ ns) sized zero same = absurd (omega (arith, same))
chunks-flat (n ∷ ns) sized (suc k) same =
    ap₂ (λ (a : List ℕ) (b : List (List ℕ)). a ∷ b) front
    (ap (first_chunks 32 k) back ∙ chunks-flat ns (λ j within. sized (suc j) (omega (arith, within))) k (omega (arith, same)))
  where
    first : length n ≡ 32
    first = sized 0 (omega arith)

    front : take 32 (flat (n ∷ ns)) ≡ n
    front = ap (take 32) (flat_map-cons (λ x. x) n ns) ∙ ap (λ (v : ℕ). take v (n ++ flat ns)) (sym first) ∙ take-append_seam n (flat ns)

    back : drop 32 (flat (n ∷ ns)) ≡ flat ns
    back = ap (drop 32) (flat_map-cons (λ x. x) n ns) ∙ ap (λ (v : ℕ). drop v (n ++ flat ns)) (sym first) ∙ drop-append_seam n (flat ns)

-- and chunks of bytes, one after the other, are the bytes
flat-chunks : (k : ℕ) (bytes : List ℕ) → length bytes ≡ k * 32 → flat (first_chunks 32 k bytes) ≡ bytes
flat-chunks zero [] size = refl
flat-chunks zero (b ∷ bytes) size = absurd (omega (arith, size))
flat-chunks (suc k) bytes size =
    flat_map-cons (λ x. x) (take 32 bytes) (first_chunks 32 k (drop 32 bytes))
    ∙ ap (λ (l : List ℕ). take 32 bytes ++ l) (flat-chunks k (drop 32 bytes) (omega (arith, length-drop 32 bytes, size)))
    ∙ take-append-drop 32 bytes

-- each chunk has 32 bytes
pub chunk-size : (k : ℕ) (bytes : List ℕ) → k * 32 ≤ length bytes → AreNodes (first_chunks 32 k bytes)
chunk-size zero bytes enough j inside = absurd (omega (arith, inside))
chunk-size (suc k) bytes enough zero inside = length-take-le 32 bytes (omega (arith, enough))
chunk-size (suc k) bytes enough (suc j) inside =
    chunk-size k (drop 32 bytes) (omega (arith, length-drop 32 bytes, enough)) j (omega (arith, inside))

pub chunk-count : (k : ℕ) (bytes : List ℕ) → length (first_chunks 32 k bytes) ≡ k
chunk-count zero bytes = refl
chunk-count (suc k) bytes = ap suc (chunk-count k (drop 32 bytes))

-- ---- letters

-- the field that a letter names
abbrev letter_field : ℕ → TableField
letter_field letter =
    cond (nat_eq letter 65) Tower8
    (cond (nat_eq letter 66) Tower16 (cond (nat_eq letter 67) Tower32 (cond (nat_eq letter 68) Tower64 (cond (nat_eq letter 69) Tower128 Ghash))))

named-back : (f : TableField) → letter_field (field_letter f) ≡ f
named-back Ghash = refl
named-back Tower8 = refl
named-back Tower16 = refl
named-back Tower32 = refl
named-back Tower64 = refl
named-back Tower128 = refl

-- no two fields have one letter
pub same-field : (f g : TableField) → field_letter f ≡ field_letter g → f ≡ g
same-field f g same = sym (named-back f) ∙ ap letter_field same ∙ named-back g

-- bytes with a field's letter begin as a proof over no field does, where they do not over this one
pub headless : (bytes : List ℕ) (field : TableField) → slice_index bytes 6 ≡ field_letter field → take 8 bytes ≢ head field → HasHead bytes → ⊥
headless bytes field letter other has =
    let seventh : slice_index bytes 6 ≡ field_letter has.0 =
    sym (get_or-take 8 bytes 6 0 (omega arith)) ∙ ap (λ (l : List ℕ). slice_index l 6) has.1 in
    other (has.1 ∙ ap head (same-field has.0 field (sym seventh ∙ letter)))

-- ---- files

-- the parts of a file, one behind the other
nested : (field : TableField) (queries rounds : ℕ) (left right body : List ℕ) (nodes : List (List ℕ))
    → file_bytes field queries rounds left right body nodes ≡ head field ++ (queries ∷ rounds ∷ (left ++ (right ++ (body ++ flat nodes))))
nested field queries rounds left right body nodes =
    append_assoc (head field ++ (queries ∷ rounds ∷ []) ++ left ++ right) body (flat nodes)
    ∙ append_assoc (head field ++ (queries ∷ rounds ∷ []) ++ left) right (body ++ flat nodes)
    ∙ append_assoc (head field ++ (queries ∷ rounds ∷ [])) left (right ++ (body ++ flat nodes))
    ∙ append_assoc (head field) (queries ∷ rounds ∷ []) (left ++ (right ++ (body ++ flat nodes)))

-- a part, and what stands behind it
split : (bytes : List ℕ) (from size : ℕ) → take size (drop from bytes) ++ drop (from + size) bytes ≡ drop from bytes
split bytes from size = ap (λ (l : List ℕ). take size (drop from bytes) ++ l) (sym (drop-drop size from bytes)) ∙ take-append-drop size (drop from bytes)

-- the byte at a place, and what stands behind it
byte-at : (bytes : List ℕ) (place : ℕ) → place < length bytes → slice_index bytes place ∷ drop (suc place) bytes ≡ drop place bytes
byte-at [] place inside = absurd (omega (arith, inside))
byte-at (b ∷ bytes) zero inside = refl
byte-at (b ∷ bytes) (suc place) inside = byte-at bytes place (omega (arith, inside))

module _ (bytes : List ℕ) where
  -- the parts of a file
  abbrev pub queries_of : ℕ
  queries_of = slice_index bytes 8

  abbrev pub rounds_of : ℕ
  rounds_of = slice_index bytes 9

  abbrev pub left_of : List ℕ
  left_of = take 32 (drop 10 bytes)

  abbrev pub right_of : List ℕ
  right_of = take 32 (drop 42 bytes)

  abbrev pub body_of : ℕ → List ℕ
  body_of size = take size (drop 74 bytes)

  abbrev pub nodes_of : ℕ → List (List ℕ)
  nodes_of size = first_chunks 32 (length (drop (74 + size) bytes) / 32) (drop (74 + size) bytes)

  -- bytes of which enough are there, and which begin so, are the file of their parts
  pub whole : (field : TableField) (size : ℕ) → 74 + size ≤ length bytes → (length bytes - (74 + size)) % 64 ≡ 0 → take 8 bytes ≡ head field
      → bytes ≡ file_bytes field queries_of rounds_of left_of right_of (body_of size) (nodes_of size)
  whole field size enough even same =
      sym (nested field queries_of rounds_of left_of right_of (body_of size) (nodes_of size)
      ∙ ap (λ (l : List ℕ). head field ++ (queries_of ∷ rounds_of ∷ (left_of ++ (right_of ++ (body_of size ++ l)))))
      (flat-chunks (length (drop (74 + size) bytes) / 32) (drop (74 + size) bytes) (let all = length-drop (74 + size) bytes in omega (arith, all, even, enough)))
      ∙ ap (λ (l : List ℕ). head field ++ (queries_of ∷ rounds_of ∷ (left_of ++ (right_of ++ l)))) (split bytes 74 size)
      ∙ ap (λ (l : List ℕ). head field ++ (queries_of ∷ rounds_of ∷ (left_of ++ l))) (split bytes 42 32)
      ∙ ap (λ (l : List ℕ). head field ++ (queries_of ∷ rounds_of ∷ l)) (split bytes 10 32)
      ∙ ap (λ (l : List ℕ). head field ++ (queries_of ∷ l)) (byte-at bytes 9 (omega (arith, enough)))
      ∙ ap (λ (l : List ℕ). head field ++ l) (byte-at bytes 8 (omega (arith, enough)))
      ∙ ap (λ (h : List ℕ). h ++ drop 8 bytes) (sym same) ∙ take-append-drop 8 bytes)

  module _ (field : TableField) (queries rounds : ℕ) (left right body : List ℕ) (nodes : List (List ℕ))
      (is : IsFile queries rounds left right body nodes) (same : bytes ≡ file_bytes field queries rounds left right body nodes) where
    all : bytes ≡ head field ++ (queries ∷ rounds ∷ (left ++ (right ++ (body ++ flat nodes))))
    all = same ∙ nested field queries rounds left right body nodes

    behind_head : drop 10 bytes ≡ left ++ (right ++ (body ++ flat nodes))
    behind_head = ap (drop 10) all

    behind_left : drop 42 bytes ≡ right ++ (body ++ flat nodes)
    behind_left =
        sym (drop-drop 32 10 bytes) ∙ ap (drop 32) behind_head
        ∙ ap (λ (n : ℕ). drop n (left ++ (right ++ (body ++ flat nodes)))) (sym is.left_size) ∙ drop-append_seam left (right ++ (body ++ flat nodes))

    behind_right : drop 74 bytes ≡ body ++ flat nodes
    behind_right =
        sym (drop-drop 32 42 bytes) ∙ ap (drop 32) behind_left
        ∙ ap (λ (n : ℕ). drop n (right ++ (body ++ flat nodes))) (sym is.right_size) ∙ drop-append_seam right (body ++ flat nodes)

    behind_body : (size : ℕ) → size ≡ length body → drop (74 + size) bytes ≡ flat nodes
    behind_body size long =
        sym (drop-drop size 74 bytes) ∙ ap (drop size) behind_right ∙ ap (λ (n : ℕ). drop n (body ++ flat nodes)) long
        ∙ drop-append_seam body (flat nodes)

    pub file_letter : slice_index bytes 6 ≡ field_letter field
    file_letter = ap (λ (l : List ℕ). slice_index l 6) all

    pub file_head : take 8 bytes ≡ head field
    file_head = ap (take 8) all

    pub file_queries : queries_of ≡ queries
    file_queries = ap (λ (l : List ℕ). slice_index l 8) all

    pub file_rounds : rounds_of ≡ rounds
    file_rounds = ap (λ (l : List ℕ). slice_index l 9) all

    pub file_left : left_of ≡ left
    file_left =
        ap (take 32) behind_head ∙ ap (λ (n : ℕ). take n (left ++ (right ++ (body ++ flat nodes)))) (sym is.left_size)
        ∙ take-append_seam left (right ++ (body ++ flat nodes))

    pub file_right : right_of ≡ right
    file_right =
        ap (take 32) behind_left ∙ ap (λ (n : ℕ). take n (right ++ (body ++ flat nodes))) (sym is.right_size)
        ∙ take-append_seam right (body ++ flat nodes)

    pub file_body : (size : ℕ) → size ≡ length body → body_of size ≡ body
    file_body size long =
        ap (take size) behind_right ∙ ap (λ (n : ℕ). take n (body ++ flat nodes)) long ∙ take-append_seam body (flat nodes)

    pub file_nodes : (size : ℕ) → size ≡ length body → nodes_of size ≡ nodes
    file_nodes size long =
        ap₂ (λ (n : ℕ) (l : List ℕ). first_chunks 32 (n / 32) l) (ap length (behind_body size long)) (behind_body size long)
        ∙ chunks-flat nodes is.node_size (length (flat nodes) / 32)
        (let long = length-flat nodes is.node_size in omega (arith, long))

    -- a file has so many bytes
    pub file_length : length bytes ≡ 74 + length body + length nodes * 32
    file_length =
        let last = length-flat nodes is.node_size in
        let three = length-append body (flat nodes) in
        let two = length-append right (body ++ flat nodes) in
        let one = length-append left (right ++ (body ++ flat nodes)) in
        ap length all ∙ omega (arith, last, one, two, three, is.left_size, is.right_size)

-- bytes are the file of one list of parts
pub one-file : (bytes : List ℕ) (field : TableField) (queries rounds : ℕ) (left right body : List ℕ) (nodes : List (List ℕ))
    → IsFile queries rounds left right body nodes → bytes ≡ file_bytes field queries rounds left right body nodes
    → (f : TableField) (m n : ℕ) (l r b : List ℕ) (ns : List (List ℕ)) → IsFile m n l r b ns → bytes ≡ file_bytes f m n l r b ns
    → (field ≡ f) × (queries ≡ m) × (rounds ≡ n) × (left ≡ l) × (right ≡ r) × (body ≡ b) × (nodes ≡ ns)
one-file bytes field queries rounds left right body nodes one written f m n l r b ns other same =
    let opened : queries ≡ m = sym (file_queries bytes field queries rounds left right body nodes one written) ∙ file_queries bytes f m n l r b ns other same in
    let number : rounds ≡ n = sym (file_rounds bytes field queries rounds left right body nodes one written) ∙ file_rounds bytes f m n l r b ns other same in
    let long : length body ≡ length b = one.body_size ∙ ap₂ (λ (u v : ℕ). element_count u v * 16) opened number ∙ sym other.body_size in (
      same-field field f (sym (file_letter bytes field queries rounds left right body nodes one written) ∙ file_letter bytes f m n l r b ns other same),
      opened,
      number,
      sym (file_left bytes field queries rounds left right body nodes one written) ∙ file_left bytes f m n l r b ns other same,
      sym (file_right bytes field queries rounds left right body nodes one written) ∙ file_right bytes f m n l r b ns other same,
      sym (file_body bytes field queries rounds left right body nodes one written (length body) refl) ∙ file_body bytes f m n l r b ns other same (length body) long,
      sym (file_nodes bytes field queries rounds left right body nodes one written (length body) refl) ∙ file_nodes bytes f m n l r b ns other same (length body) long,
    )

-- elements of 16 bytes
pub length-joined : {F : Type 0} (repr : F → ℕ) (elements : List F) → length (joined_bytes 16 repr elements) ≡ length elements * 16
length-joined repr [] = refl
length-joined repr (x ∷ xs) =
    let rest = length-joined repr xs in
    let first = length-chunks 8 16 (repr x) in
    ap length (flat_map-cons (λ y. low_bytes 16 (repr y)) x xs) ∙ length-append (low_bytes 16 (repr x)) (joined_bytes 16 repr xs)
    ∙ omega (arith, first, rest)

-- ---- what is read

module _ (bytes : List ℕ) (field : TableField) (queries rounds : ℕ) (left right body : List ℕ) (nodes : List (List ℕ)) (size : ℕ)
    (queries_are : queries ≡ queries_of bytes) (rounds_are : rounds ≡ rounds_of bytes)
    (left_is : left ≡ left_of bytes) (right_is : right ≡ right_of bytes) (body_is : body ≡ body_of bytes size)
    (nodes_are : nodes ≡ nodes_of bytes size) (fits : size ≡ element_count queries rounds * 16) (some_queries : 7 ≤ queries) (few_queries : queries ≤ 8)
    (few : rounds ≤ 39) (enough : 74 + size ≤ length bytes)
    (even : (length bytes - (74 + size)) % 64 ≡ 0) (begins : take 8 bytes ≡ head field) where
  -- a file
  read-file : IsFile queries rounds left right body nodes
  read-file = record {
    some_queries = some_queries;
    few_queries = few_queries;
    few = few;
    left_size = ap length left_is ∙ length-take-le 32 (drop 10 bytes) (let all = length-drop 10 bytes in omega (arith, all, enough));
    right_size = ap length right_is ∙ length-take-le 32 (drop 42 bytes) (let all = length-drop 42 bytes in omega (arith, all, enough));
    body_size = ap length body_is ∙ length-take-le size (drop 74 bytes) (let all = length-drop 74 bytes in omega (arith, all, enough)) ∙ fits;
    node_size =
        subst (λ (ns : List (List ℕ)). AreNodes ns) (sym nodes_are)
        (chunk-size (length (drop (74 + size) bytes) / 32) (drop (74 + size) bytes) (omega arith));
    even =
        let all = length-drop (74 + size) bytes in
        let count = ap length nodes_are ∙ chunk-count (length (drop (74 + size) bytes) / 32) (drop (74 + size) bytes) in
        omega (arith, all, count, even);
  }

  read-whole : bytes ≡ file_bytes field queries rounds left right body nodes
  read-whole =
      whole bytes field size enough even begins
      ∙ ap₂ (λ (m n : ℕ). file_bytes field m n (left_of bytes) (right_of bytes) (body_of bytes size) (nodes_of bytes size)) (sym queries_are)
      (sym rounds_are)
      ∙ ap (λ (l : List ℕ). file_bytes field queries rounds l (right_of bytes) (body_of bytes size) (nodes_of bytes size)) (sym left_is)
      ∙ ap₂ (λ (r b : List ℕ). file_bytes field queries rounds left r b (nodes_of bytes size)) (sym right_is) (sym body_is)
      ∙ ap (file_bytes field queries rounds left right body) (sym nodes_are)

  pub reads : IsCutTo bytes field queries rounds left right body nodes
  reads = record {
    may_be = read-file;
    written = read-whole;
    only = λ f m n l r b ns is same. one-file bytes field queries rounds left right body nodes read-file read-whole f m n l r b ns is same;
  }

-- sixteen of each
pub sixteen : (a b : ℕ) → a ≡ b → 16 * a ≡ b * 16
sixteen a b same = omega (arith, same)

-- so many elements are read
pub same-count : {F : Type 0} (repr : F → ℕ) (body : List ℕ) (elements : List F) (count : ℕ) → body ≡ joined_bytes 16 repr elements
    → length body ≡ count * 16 → length elements ≡ count
same-count repr body elements count is size =
    let long = length-joined repr elements in
    let same = ap length is in
    omega (arith, long, same, size)

-- what is said of an optional value, where it is known
pub some-read : {T : Type 0} (P : T → Type 0) (found : Option T) (x : T) → found ≡ Some x → IfSome found P → P x
some-read P found x is holds = subst (λ (f : Option _). IfSome f P) is holds

pub none-read : {T : Type 0} (Q : Type 0) (found : Option T) → found ≡ None → IfNone found Q → Q
none-read Q found is holds = subst (λ (f : Option _). IfNone f Q) is holds
