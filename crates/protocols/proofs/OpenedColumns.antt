-- Columns that a verifier accepts as opened, at every rate and for every point: what was sent is accepted under the root, and the row
-- agrees with any columns that have those that were sent.
use Rattle.std.proofs.Common.{◌≡◌, ℕ, ◌+◌, ◌-◌, ◌*◌, ◌<◌, ◌≤◌, List, [], ◌∷◌, ◌++◌, length, map, drop, refl, sym, ◌∙◌, ap, arith}
use Rattle.std.proofs.lemmas.List.{length-drop, length-take-le}
use Rattle.field_bytes.specs.Bytes.{low_bytes}
use Rattle.field_bytes.specs.Streams.{joined_bytes}
use Rattle.transcripts.specs.Commitments.{row_at}
use Rattle.protocols.proofs.ProofBytes.{proof-cons}
use Rattle.protocols.proofs.TableOpenings.{row-room}

-- the bytes of elements are those of their numbers
pub number-bytes : {F : Type 0} (size : ℕ) (repr : F → ℕ) (xs : List F) → joined_bytes size repr xs ≡ joined_bytes size (λ (n : ℕ). n) (map repr xs)
number-bytes size repr [] = refl
number-bytes size repr (x ∷ xs) =
    proof-cons size repr x xs ∙ ap (λ (l : List ℕ). low_bytes size (repr x) ++ l) (number-bytes size repr xs)
    ∙ sym (proof-cons size (λ (n : ℕ). n) (repr x) (map repr xs))

-- a column among columns of one length has that length
pub column-long : {F : Type 0} (count height : ℕ) (columns : List F) (k : ℕ) → length columns ≡ count * height → k < count
    → length (row_at height columns k) ≡ height
column-long count height columns k long below =
    let room = row-room count height (length columns) k long below in
    let behind = length-drop (k * height) columns in
    length-take-le height (drop (k * height) columns) (enough (k * height) (length columns) (length (drop (k * height) columns)) room behind)
  where
    enough : (from all left : ℕ) → from + height ≤ all → left ≡ all - from → height ≤ left
    enough from all left room is = omega (arith, room, is)
