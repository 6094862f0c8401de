-- A share as bytes, its record, and as a line of text.
use Rattle.std.specs.Prelude.{◌≡◌, ◌≢◌, ℕ, zero, suc, ◌+◌, ◌*◌, ◌<◌, List, [], ◌∷◌, ◌++◌, Ok, codes, drop, length, slice_index, take}
use Rattle.hex.specs.Hex.{decode_of, encode_lower}
use Rattle.sha2.specs.Sha256.{sha256}
use Rattle.reed_solomon.specs.declared.byte_field.ByteField.{ByteField}
use Rattle.reed_solomon.specs.declared.byte_field.ByteField.TheVariants.{Ccsds, Qr, Rijndael}

-- the number of a field: the low byte of its modulus
abbrev pub number_of : ByteField → ℕ
number_of Rijndael = 0x1b
number_of Qr = 0x1d
number_of Ccsds = 0x87

-- the number by which a record names a field over which secrets are shared: those of AES and of libgfshare
abbrev pub IsNumber : ByteField → ℕ → Type 0
IsNumber field number = (number_of field ≡ number) × (field ≢ Ccsds)

-- a record names a field that there is
abbrev pub HasField : List ℕ → Type 0
HasField entry = (field : ByteField) × IsNumber field (slice_index entry 0)

-- the record: the number of the field, how many shares are needed, the index, 8 bytes of the set, and the share
abbrev pub record_of : ByteField → ℕ → ℕ → List ℕ → List ℕ → List ℕ
record_of field needed index identity share = number_of field ∷ needed ∷ index ∷ (identity ++ share)

-- the first 8 bytes of the SHA-256 of a record
abbrev pub check_sum : List ℕ → List ℕ
check_sum entry = take 8 (sha256 entry)

-- the line: a name, and the record and its sum in hexadecimal
abbrev pub line_of : List ℕ → List ℕ
line_of entry = codes "share-1-" ++ encode_lower (entry ++ check_sum entry)

-- in these bytes a record with a share of a byte or more ends at this place, and its sum follows
pub record IsEnd (bytes : List ℕ) (end : ℕ) : Type 0 where
  pub some : 11 < end
  pub whole : end + 8 ≡ length bytes
  pub sum : drop end bytes ≡ check_sum (take end bytes)

-- a line says a record: it has the name, then its digits, in either case, and those of its sum; and the share in it
-- has a byte
pub record SaysRecord (line entry : List ℕ) : Type 0 where
  pub named : take 8 line ≡ codes "share-1-"
  pub said : decode_of (drop 8 line) ≡ Ok (entry ++ check_sum entry)
  pub some : 11 < length entry

-- row i of rows of `size` bytes
abbrev pub row_of : ℕ → List ℕ → ℕ → List ℕ
row_of size rows i = take size (drop (i * size) rows)

-- the lines of the first n shares, each with a line feed
unfoldable pub lines_of : ByteField → ℕ → List ℕ → ℕ → List ℕ → ℕ → List ℕ
lines_of field needed identity size shares zero = []
lines_of field needed identity size shares (suc n) =
    lines_of field needed identity size shares n
    ++ (line_of (record_of field needed (suc n) identity (row_of size shares n)) ++ 10 ∷ [])
