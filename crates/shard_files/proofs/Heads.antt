-- The bytes of a head are cut into the parts of which they are made.
use Rattle.std.proofs.Common.{◌≡◌, ℕ, List, [], ◌∷◌, ◌++◌, length, get_or, take, drop, Some, sym, ◌∙◌, ap, ap₂, subst, arith}
use Rattle.std.specs.Prelude.{Option}
use Rattle.std.specs.Int.{w32, w64, from_le_bytes, to_le_bytes}
use Rattle.std.specs.Io.KnownBytes.{Appends}
use Rattle.std.proofs.KnownBytes.{Appends-trans}
use Rattle.std.proofs.lemmas.List.{append_assoc, drop-drop, drop_at, length-append, take-append-drop, take_at}
use Rattle.std.proofs.lemmas.Nat.{from_le_bytes-to_le_bytes_4, from_le_bytes-to_le_bytes_8}
use Rattle.sha2.proofs.Facts256.{length-sha256}
use Rattle.shard_files.specs.Heads.{head_begin, head_digest, head_fields, head_file, IsHead}
use Rattle.shard_files.specs.declared.head.Head.{Head}
use Rattle.shard_files.specs.declared.head.Origin.{Origin}

-- ---- equality of what heads say

pub origin_is : (a b : Origin) → a.code ≡ b.code → a.data_shards ≡ b.data_shards → a.parity_shards ≡ b.parity_shards → a.length ≡ b.length
    → a.size ≡ b.size → a.identity ≡ b.identity → a ≡ b
origin_is a b code counts parity long size named =
    λ k. record { code = code k; data_shards = counts k; parity_shards = parity k; length = long k; size = size k; identity = named k }

pub head_is : (a b : Head) → a.origin ≡ b.origin → a.index ≡ b.index → a ≡ b
head_is a b origin index = λ k. record { origin = origin k; index = index k }

-- what is in an option
pub same_some : (a b : Head) → Some a ≡ Some b → a ≡ b
same_some a b same = cc

-- ---- the parts, from the first

-- the name of the format, and the bytes of four numbers
abbrev pub fields_of : List ℕ → List ℕ → List ℕ → List ℕ → List ℕ
fields_of code some more index =
    115 ∷ 104 ∷ 97 ∷ 114 ∷ 100 ∷ 115 ∷ 32 ∷ 51 ∷ get_or code 0 0 ∷ get_or code 1 0 ∷ get_or code 2 0 ∷ get_or code 3 0
    ∷ get_or some 0 0 ∷ get_or some 1 0 ∷ get_or some 2 0 ∷ get_or some 3 0
    ∷ get_or more 0 0 ∷ get_or more 1 0 ∷ get_or more 2 0 ∷ get_or more 3 0
    ∷ get_or index 0 0 ∷ get_or index 1 0 ∷ get_or index 2 0 ∷ get_or index 3 0 ∷ []

pub fields_are : (origin : Origin) (number : ℕ) (code some more index : List ℕ) → code ≡ to_le_bytes w32 origin.code
    → some ≡ to_le_bytes w32 origin.data_shards → more ≡ to_le_bytes w32 origin.parity_shards → index ≡ to_le_bytes w32 number
    → fields_of code some more index ≡ head_fields origin number
fields_are origin number code some more index code_is some_is more_is index_is =
    ap₂ (λ (a b : List ℕ). fields_of a b more index) code_is some_is
    ∙ ap₂ (λ (a b : List ℕ). fields_of (to_le_bytes w32 origin.code) (to_le_bytes w32 origin.data_shards) a b) more_is index_is

pub parts : (head : Head) → head_file head
    ≡ head_fields head.origin head.index
    ++ (to_le_bytes w64 head.origin.length ++ (to_le_bytes w64 head.origin.size ++ (head.origin.identity ++ head_digest head)))
unfolding head_file head_begin
parts head =
    let fields = head_fields head.origin head.index in
    let long = to_le_bytes w64 head.origin.length in
    let size = to_le_bytes w64 head.origin.size in
    append_assoc (fields ++ long ++ size) head.origin.identity (head_digest head)
    ∙ append_assoc (fields ++ long) size (head.origin.identity ++ head_digest head)
    ∙ append_assoc fields long (size ++ (head.origin.identity ++ head_digest head))

pub digest_size : (head : Head) → length (head_digest head) ≡ 32
unfolding head_digest
digest_size head = length-sha256 (head_begin head)

module _ (bytes : List ℕ) where
  piece_24 : drop 24 bytes ≡ take 8 (drop 24 bytes) ++ drop 32 bytes
  piece_24 = sym (take-append-drop 8 (drop 24 bytes)) ∙ ap (λ (l : List ℕ). take 8 (drop 24 bytes) ++ l) (drop-drop 8 24 bytes)

  piece_32 : drop 32 bytes ≡ take 8 (drop 32 bytes) ++ drop 40 bytes
  piece_32 = sym (take-append-drop 8 (drop 32 bytes)) ∙ ap (λ (l : List ℕ). take 8 (drop 32 bytes) ++ l) (drop-drop 8 32 bytes)

  piece_40 : drop 40 bytes ≡ take 32 (drop 40 bytes) ++ drop 72 bytes
  piece_40 = sym (take-append-drop 32 (drop 40 bytes)) ∙ ap (λ (l : List ℕ). take 32 (drop 40 bytes) ++ l) (drop-drop 32 40 bytes)

  -- bytes with the parts of a head are its bytes
  pub bytes_of_parts : (head : Head) → take 24 bytes ≡ head_fields head.origin head.index
      → take 8 (drop 24 bytes) ≡ to_le_bytes w64 head.origin.length → take 8 (drop 32 bytes) ≡ to_le_bytes w64 head.origin.size
      → head.origin.identity ≡ take 32 (drop 40 bytes) → drop 72 bytes ≡ head_digest head → bytes ≡ head_file head
  bytes_of_parts head fields long size named digest =
      sym (take-append-drop 24 bytes)
      ∙ ap₂ (λ (a b : List ℕ). a ++ b) fields
      (piece_24 ∙ ap₂ (λ (a b : List ℕ). a ++ b) long
      (piece_32 ∙ ap₂ (λ (a b : List ℕ). a ++ b) size
      (piece_40 ∙ ap₂ (λ (a b : List ℕ). a ++ b) (sym named) digest)))
      ∙ sym (parts head)

  -- and bytes of a head have those parts
  module _ (head : Head) (same : bytes ≡ head_file head) (sized : length head.origin.identity ≡ 32) where
    in_parts : bytes ≡ head_fields head.origin head.index
        ++ (to_le_bytes w64 head.origin.length ++ (to_le_bytes w64 head.origin.size ++ (head.origin.identity ++ head_digest head)))
    in_parts = same ∙ parts head

    from_24 : drop 24 bytes ≡ to_le_bytes w64 head.origin.length ++ (to_le_bytes w64 head.origin.size ++ (head.origin.identity ++ head_digest head))
    from_24 = ap (drop 24) in_parts

    from_32 : drop 32 bytes ≡ to_le_bytes w64 head.origin.size ++ (head.origin.identity ++ head_digest head)
    from_32 = sym (drop-drop 8 24 bytes) ∙ ap (drop 8) from_24

    from_40 : drop 40 bytes ≡ head.origin.identity ++ head_digest head
    from_40 = sym (drop-drop 8 32 bytes) ∙ ap (drop 8) from_32

    pub bytes_digest : drop 72 bytes ≡ head_digest head
    bytes_digest =
        sym (drop-drop 32 40 bytes) ∙ ap (drop 32) from_40
        ∙ drop_at head.origin.identity (head_digest head) 32 sized

    pub bytes_fields : take 24 bytes ≡ head_fields head.origin head.index
    bytes_fields = ap (take 24) in_parts

    pub bytes_long : take 8 (drop 24 bytes) ≡ to_le_bytes w64 head.origin.length
    bytes_long = ap (take 8) from_24

    pub bytes_size : take 8 (drop 32 bytes) ≡ to_le_bytes w64 head.origin.size
    bytes_size = ap (take 8) from_32

    pub bytes_count : length bytes ≡ 104
    bytes_count =
        let named = length-append head.origin.identity (head_digest head) in
        let whole = ap length in_parts in
        omega (arith, named, whole, digest_size head, sized)

    -- what is read from the bytes of a head is the head
    pub parsed_is : IsHead head → (parsed : Head) → parsed.origin.code ≡ from_le_bytes w32 (take 4 (drop 8 bytes))
        → parsed.origin.data_shards ≡ from_le_bytes w32 (take 4 (drop 12 bytes))
        → parsed.origin.parity_shards ≡ from_le_bytes w32 (take 4 (drop 16 bytes)) → parsed.index ≡ from_le_bytes w32 (take 4 (drop 20 bytes))
        → parsed.origin.length ≡ from_le_bytes w64 (take 8 (drop 24 bytes)) → parsed.origin.size ≡ from_le_bytes w64 (take 8 (drop 32 bytes))
        → parsed.origin.identity ≡ take 32 (drop 40 bytes) → parsed ≡ head
    parsed_is is parsed code counts parity index long size named =
        head_is parsed head
        (origin_is parsed.origin head.origin
        (code ∙ ap (λ (l : List ℕ). from_le_bytes w32 (take 4 (drop 8 l))) in_parts ∙ from_le_bytes-to_le_bytes_4 head.origin.code is.origin_fits.code_fits)
        (counts ∙ ap (λ (l : List ℕ). from_le_bytes w32 (take 4 (drop 12 l))) in_parts ∙ from_le_bytes-to_le_bytes_4 head.origin.data_shards is.origin_fits.data_fits)
        (parity ∙ ap (λ (l : List ℕ). from_le_bytes w32 (take 4 (drop 16 l))) in_parts ∙ from_le_bytes-to_le_bytes_4 head.origin.parity_shards is.origin_fits.parity_fits)
        (long ∙ ap (from_le_bytes w64) bytes_long ∙ from_le_bytes-to_le_bytes_8 head.origin.length is.origin_fits.length_fits)
        (size ∙ ap (from_le_bytes w64) bytes_size ∙ from_le_bytes-to_le_bytes_8 head.origin.size is.origin_fits.size_fits)
        (named ∙ ap (take 32) from_40 ∙ take_at head.origin.identity (head_digest head) 32 is.origin_fits.identity_size))
        (index ∙ ap (λ (l : List ℕ). from_le_bytes w32 (take 4 (drop 20 l))) in_parts ∙ from_le_bytes-to_le_bytes_4 head.index is.index_fits)

-- ---- a head that is written part by part

pub head_written : (head : Head) (fields long size digest : List ℕ) (a b c d e f : Option (List ℕ))
    → fields ≡ head_fields head.origin head.index → long ≡ to_le_bytes w64 head.origin.length → size ≡ to_le_bytes w64 head.origin.size
    → digest ≡ head_digest head → Appends a b fields → Appends b c long → Appends c d size → Appends d e head.origin.identity → Appends e f digest
    → Appends a f (head_file head)
unfolding head_file head_begin
head_written head fields long size digest a b c d e f fields_are long_is size_is digest_is one two three four five =
    let begin = head_fields head.origin head.index in
    let first = subst (Appends a b) fields_are one in
    let second = subst (Appends b c) long_is two in
    let third = subst (Appends c d) size_is three in
    let last = subst (Appends e f) digest_is five in
    Appends-trans a e f (begin ++ to_le_bytes w64 head.origin.length ++ to_le_bytes w64 head.origin.size ++ head.origin.identity) (head_digest head)
    (Appends-trans a d e (begin ++ to_le_bytes w64 head.origin.length ++ to_le_bytes w64 head.origin.size) head.origin.identity
    (Appends-trans a c d (begin ++ to_le_bytes w64 head.origin.length) (to_le_bytes w64 head.origin.size)
    (Appends-trans a b c begin (to_le_bytes w64 head.origin.length) first second) third) four) last

-- ---- heads of the same bytes

index_read : (head : Head) → IsHead head → from_le_bytes w32 (take 4 (drop 20 (head_file head))) ≡ head.index
index_read head is =
    ap (λ (l : List ℕ). from_le_bytes w32 (take 4 (drop 20 l))) (parts head) ∙ from_le_bytes-to_le_bytes_4 head.index is.index_fits

-- they are of one number
pub same_index : (one other : Head) → IsHead one → IsHead other → head_file one ≡ head_file other → one.index ≡ other.index
same_index one other first second same =
    sym (index_read one first) ∙ ap (λ (l : List ℕ). from_le_bytes w32 (take 4 (drop 20 l))) same ∙ index_read other second
