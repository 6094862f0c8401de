-- What the program prints, each line with its line feed, and the status that it ends with: 0 where a root is printed, a proof written or
-- accepted, or a file described, and 1 where a proof is refused or a file is none.
use Rattle.std.specs.Prelude.{◌≡◌, ◌⊎◌, ⊤, ℕ, List, ◌++◌, length, codes, decimal, IsErr, IsOk, Ok}
use Rattle.std.specs.Int.{to_be_bytes, w128}
use Rattle.std.specs.declared.option.Option.{Option}
use Rattle.std.specs.declared.option.Option.TheVariants.{None, Some}
use Rattle.hex.specs.Hex.{decode_sized, encode_lower}
use Rattle.field_element.specs.Element.{repr_of}
use Rattle.protocols.specs.CommitmentScheme.{matrix_rows, place_count, word_levels}
use Rattle.prove_sums.specs.Bits.{AreMostBits}
use Rattle.prove_sums.specs.ProofFiles.{IsFileOf, IsNoWordFile, IsReadRefusal, number_in}
use Rattle.prove_sums.specs.Shapes.{sum_in}
use Rattle.prove_sums.specs.SoundnessErrors.{AreSoundBits}
use Rattle.prove_sums.specs.Tables.{field_name}
use Rattle.prove_sums.specs.Verdicts.{IsWordAnswer, IsWordCommitment, IsWordProof}
use Rattle.prove_sums.specs.declared.reports.NoAnswer.{NoAnswer}
use Rattle.prove_sums.specs.declared.reports.NoAnswer.TheVariants.{LeftRoot, Memory, RightRoot}
use Rattle.prove_sums.specs.declared.refusal.Refusal.{Refusal}
use Rattle.prove_sums.specs.declared.refusal.Refusal.TheVariants.{NotAProof, OtherVersion, OtherField, Length, OtherParameters, TooFewBits, OtherLeft, OtherRight, NotProved}
use Rattle.prove_sums.specs.declared.tables.Table.{Table}
use Rattle.prove_sums.specs.declared.tables.TableField.{TableField}

-- ---- lines

-- a root as 64 hexadecimal digits: two for each byte, the higher first
abbrev pub root_line : List ℕ → List ℕ
root_line root = encode_lower root ++ codes "\n"

-- a number below 2 ^ 128 as 32 hexadecimal digits, the highest first
abbrev pub highest_first : ℕ → List ℕ
highest_first n = encode_lower (to_be_bytes w128 n)

-- that the products of two tables have this sum, by a proof of so many bytes
abbrev pub sum_line : ℕ → ℕ → List ℕ
sum_line sum size =
    codes "the sum is " ++ (highest_first sum ++ (codes ", and its proof has " ++ (decimal size ++ codes " bytes\n")))

-- why a proof is refused
abbrev pub refusal_text : Refusal → List ℕ
refusal_text NotAProof = codes "this is no proof of a sum"
refusal_text OtherVersion = codes "the proof is of another version"
refusal_text OtherField = codes "the proof is over another field"
refusal_text Length = codes "the proof is cut off, or has too much"
refusal_text OtherParameters = codes "the proof has other parameters"
refusal_text TooFewBits = codes "proofs for tables of this size do not reach the bits"
refusal_text OtherLeft = codes "the proof is for another left table"
refusal_text OtherRight = codes "the proof is for another right table"
refusal_text NotProved = codes "the sum is not proved"

-- what is printed for a proof that is refused
abbrev pub refusal_line : Refusal → List ℕ
refusal_line refusal = codes "refused: " ++ (refusal_text refusal ++ codes "\n")

-- ---- `info`

-- what is printed of a proof for tables of 2 ^ n words of a field: this name, the digits of its roots and of its sum ..
abbrev pub claim_text : List ℕ → ℕ → List ℕ → List ℕ → List ℕ → List ℕ
claim_text name n left right sum =
    codes "field " ++ (name ++ (codes "\nwords 2^" ++ (decimal n ++ (codes "\nleft root " ++ (left ++ (codes "\nright root " ++ (right
    ++ (codes "\nsum " ++ (sum ++ codes "\n")))))))))

-- .. and behind these its size, the rows of the matrix, how many columns of how many are opened, the bits of soundness, and those of the
-- work
abbrev pub security_text : ℕ → ℕ → ℕ → ℕ → ℕ → List ℕ
security_text size rows count depth bits =
    codes "bytes " ++ (decimal size ++ (codes "\nrows 2^" ++ (decimal rows ++ (codes "\ncolumns " ++ (decimal count ++ (codes " of 2^"
    ++ (decimal depth ++ (codes "\nsoundness " ++ (decimal bits
    ++ codes " bits, and 16 of work\nassumed SHA-256 draws as if at random, and has no collisions\n")))))))))

-- .. both, one behind the other
abbrev pub info_text : TableField → ℕ → List ℕ → List ℕ → List ℕ → ℕ → ℕ → ℕ → ℕ → ℕ → List ℕ
info_text field n left right sum size rows count depth bits =
    claim_text (field_name field) n left right sum ++ security_text size rows count depth bits

-- what is printed for the bytes of a file that is a proof, whether it is accepted or not, with the bits of soundness of such proofs
abbrev pub SaysInfo : {F : Type 0} → (F → ℕ) → List ℕ → List ℕ → Type 0
SaysInfo {F} repr bytes line =
    (field : TableField) × (m n : ℕ) × (left right : List ℕ) × (elements : List F) × (nodes : List (List ℕ)) × (bits : ℕ)
    × IsFileOf repr bytes field m n left right elements nodes × AreMostBits m n bits × AreSoundBits m n bits
    × (line ≡ info_text field n (encode_lower left) (encode_lower right) (highest_first (sum_in repr elements)) (length bytes) (matrix_rows m n)
    (place_count m n) (word_levels m n) bits)

-- .. and for those of any file: that, with the status 0, or why it is no proof, with 1
abbrev pub IsInfoReport : List ℕ → List ℕ → ℕ → Type 0
IsInfoReport bytes line status =
    ((status ≡ 0) × SaysInfo (number_in (λ (table : Table). table.elements.items) repr_of) bytes line)
    ⊎ ((status ≡ 1) × IsNoWordFile bytes × ((refusal : Refusal) × IsReadRefusal refusal bytes × (line ≡ refusal_line refusal)))

-- ---- `commit` and `prove`

-- what is printed for the bytes of a table: the root that commits to it, with the sizes for so many bits
abbrev pub IsCommitReport : (List ℕ → List ℕ) → ℕ → TableField → List ℕ → List ℕ → ℕ → Type 0
IsCommitReport hash bits field bytes line status =
    (status ≡ 0) × ((root : List ℕ) × IsWordCommitment hash bits field bytes root × (line ≡ root_line root))

-- what is written, and printed, for the bytes of two tables: a proof, and the sum of the products
pub record IsProveReport {H : Type 0} (digest : H → List ℕ → List ℕ) (hasher : H) (bits : ℕ) (field : TableField)
    (left right proof line : List ℕ) (status : ℕ) : Type 0 where
  pub is : IsWordProof digest hasher bits field left right proof
  pub said : line ≡ sum_line (sum_in (number_in (λ (table : Table). table.elements.items) repr_of) is.elements) (length proof)
  pub succeeds : status ≡ 0

-- ---- `verify`

-- these are the 64 hexadecimal digits of a root, in either case
abbrev pub NamesRoot : List ℕ → List ℕ → Type 0
NamesRoot digits root = decode_sized digits 32 ≡ Ok root

-- what is printed of a proof for the tables of words of a field with these roots that is not refused: its sum; and else why it is refused
abbrev pub SaysAnswer : {F : Type 0} → (F → ℕ) → TableField → List ℕ → List ℕ → List ℕ → Option Refusal → List ℕ → ℕ → Type 0
SaysAnswer {F} repr field left right bytes None line status =
    (status ≡ 0) × ((m n : ℕ) × (elements : List F) × (nodes : List (List ℕ)) × IsFileOf repr bytes field m n left right elements nodes
    × (line ≡ sum_line (sum_in repr elements) (length bytes)))
SaysAnswer repr field left right bytes (Some refusal) line status = (status ≡ 1) × (line ≡ refusal_line refusal)

-- what is printed for the bytes of a file and the digits of two roots: what is answered on a proof for the tables of words of a field with
-- these roots, with the sizes for so many bits
pub record IsVerifyReport {H : Type 0} (digest : H → List ℕ → List ℕ) (hasher : H) (bits : ℕ) (field : TableField)
    (left right bytes line : List ℕ) (status : ℕ) : Type 0 where
  pub left_root : List ℕ
  pub right_root : List ℕ
  pub refusal : Option Refusal
  pub left_named : NamesRoot left left_root
  pub right_named : NamesRoot right right_root
  pub answered : IsWordAnswer digest hasher bits field left_root right_root bytes refusal
  pub said : SaysAnswer (number_in (λ (table : Table). table.elements.items) repr_of) field left_root right_root bytes refusal line status

-- why there is none: digits that are no root, on the left, or on the right where the left ones are one; or memory was refused
abbrev pub HasNoAnswer : List ℕ → List ℕ → NoAnswer → Type 0
HasNoAnswer left right LeftRoot = IsErr (decode_sized left 32)
HasNoAnswer left right RightRoot = IsOk (decode_sized left 32) × IsErr (decode_sized right 32)
HasNoAnswer left right Memory = ⊤
