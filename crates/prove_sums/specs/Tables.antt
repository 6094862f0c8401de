-- Tables of words as bytes, and the elements of the field of GHASH that they are. Elements have numbers by `repr`.
use Rattle.std.specs.Prelude.{◌≡◌, ◌≢◌, ℕ, ◌*◌, ◌%◌, ◌^◌, ◌≤◌, List, codes, length, map}
use Rattle.std.specs.List.{range_with_len}
use Rattle.std.specs.declared.option.Option.{Option}
use Rattle.std.specs.declared.option.Option.TheVariants.{None, Some}
use Rattle.additive_transforms.specs.Images.{tower_image}
use Rattle.field_bytes.specs.Bytes.{number_of_bytes}
use Rattle.field_bytes.specs.Streams.{joined_bytes}
use Rattle.transcripts.specs.Commitments.{row_at}
use Rattle.prove_sums.specs.declared.tables.TableField.{TableField}
use Rattle.prove_sums.specs.declared.tables.TableField.TheVariants.{Ghash, Tower8, Tower16, Tower32, Tower64, Tower128}

-- the name of a field on the command line
abbrev pub field_name : TableField → List ℕ
field_name Ghash = codes "g128"
field_name Tower8 = codes "t8"
field_name Tower16 = codes "t16"
field_name Tower32 = codes "t32"
field_name Tower64 = codes "t64"
field_name Tower128 = codes "t128"

-- the letter that names it in a proof: G, or A to E for the levels of the tower
abbrev pub field_letter : TableField → ℕ
field_letter Ghash = 71
field_letter Tower8 = 65
field_letter Tower16 = 66
field_letter Tower32 = 67
field_letter Tower64 = 68
field_letter Tower128 = 69

-- how many bytes a word has that is an element of a level of the tower
abbrev pub tower_bytes : TableField → Option ℕ
tower_bytes Ghash = None
tower_bytes Tower8 = Some 1
tower_bytes Tower16 = Some 2
tower_bytes Tower32 = Some 4
tower_bytes Tower64 = Some 8
tower_bytes Tower128 = Some 16

-- Bytes are words of so many bytes, the lowest first, of the tower, of which a level of fewer bits is the low bits of one of more; elements
-- are their images in the field of GHASH.
pub record AreEmbedded {F : Type 0} (size : ℕ) (repr : F → ℕ) (bytes : List ℕ) (elements : List F) : Type 0 where
  pub whole : length bytes ≡ length elements * size
  pub each : map repr elements ≡ map (λ p. tower_image (number_of_bytes (row_at size bytes p))) (range_with_len 0 (length elements))

-- bytes are words of the tower if these have a size, and else of the field of GHASH itself
abbrev pub AreTableWords : {F : Type 0} → Option ℕ → (F → ℕ) → List ℕ → List F → Type 0
AreTableWords None repr bytes elements = bytes ≡ joined_bytes 16 repr elements
AreTableWords (Some size) repr bytes elements = AreEmbedded size repr bytes elements

-- bytes end within a word of so many bytes, or of 16 where no size is given
abbrev pub EndWithinWord : Option ℕ → List ℕ → Type 0
EndWithinWord None bytes = length bytes % 16 ≢ 0
EndWithinWord (Some size) bytes = length bytes % size ≢ 0

-- bytes are a table of 2 ^ n words of a field
pub record IsTable {F : Type 0} (field : TableField) (repr : F → ℕ) (bytes : List ℕ) (n : ℕ) (elements : List F) : Type 0 where
  pub few : n ≤ 39
  pub count : length elements ≡ 2 ^ n
  pub written : AreTableWords (tower_bytes field) repr bytes elements
