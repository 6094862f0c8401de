-- What calls of Reed-Solomon codes over bytes that correct errors do, on words that stand one after the other (ISO/IEC 18004,
-- ETSI EN 300 421, CCSDS 131.0-B): which status they return, and what they write.
use Rattle.std.specs.Prelude.{◌≡◌, ◌≢◌, ◌⊎◌, Bool, nat_eq, not, ℕ, ◌+◌, ◌-◌, ◌*◌, ◌/◌, ◌%◌, ◌<◌, ◌≤◌, List, length, slice_index, take, drop}
use Rattle.field_base.specs.Powers.{power}
use Rattle.field_slices.specs.Marks.{marked_below}
use Rattle.reed_solomon.specs.ByteFields.{byte_generator, byte_modulus, byte_times}
use Rattle.error_codes.specs.Correcting.{HasOrder, HasRoots, IsMeantIn, code_value, is_listed}
use Rattle.reed_solomon.specs.declared.byte_field.ByteField.{ByteField}
use Rattle.c_calls.specs.Bytes.{Answers, CallOfCode}

-- word i of words of n symbols
abbrev pub nth_word : ℕ → ℕ → List ℕ → List ℕ
nth_word n i symbols = take n (drop (i * n) symbols)

-- the root of a code: the power of the field's generator with this exponent
abbrev pub code_root : ByteField → ℕ → ℕ
code_root field step = power 1 (byte_times field) (byte_generator field) step

-- the field with this modulus has a code of words of n symbols, of which k are data, with such a root
pub record IsCorrectingCode (modulus n k step : ℕ) (field : ByteField) : Type 0 where
  pub modulus_is : byte_modulus field ≡ modulus
  pub some_data : 0 < k
  pub some_checks : k < n
  pub short : n ≤ 255
  pub order : HasOrder (byte_times field) (code_root field step) n

-- there is such a field
abbrev pub HasCorrectingCode : ℕ → ℕ → ℕ → ℕ → Type 0
HasCorrectingCode modulus n k step = (field : ByteField) × IsCorrectingCode modulus n k step field

-- a word of a code with the k symbols of data that another word begins with
pub record IsEncodedWord (times : ℕ → ℕ → ℕ) (root first checks k : ℕ) (old new : List ℕ) : Type 0 where
  pub long : length new ≡ length old
  pub kept : (j : ℕ) → j < k → slice_index new j ≡ slice_index old j
  pub encoded : HasRoots times root first checks new

-- symbol i has a flag that is not 0
abbrev pub is_flagged : List ℕ → ℕ → Bool
is_flagged flags i = not (nat_eq (slice_index flags i) 0)

-- a word of the code over a field of 2 ^ width elements that a received word stands for, whose erased symbols are those that are flagged
abbrev pub IsMeantByIn : ℕ → (ℕ → ℕ → ℕ) → ℕ → ℕ → ℕ → ℕ → List ℕ → List ℕ → List ℕ → Type 0
IsMeantByIn width times root first n checks flags received sent =
    (places : List ℕ) × ((i : ℕ) → i < n → is_listed places i ≡ is_flagged flags i)
    × IsMeantIn width times root first n checks received places sent

-- the same of bytes
abbrev pub IsMeantBy : (ℕ → ℕ → ℕ) → ℕ → ℕ → ℕ → ℕ → List ℕ → List ℕ → List ℕ → Type 0
IsMeantBy times root first n checks flags received sent = IsMeantByIn 8 times root first n checks flags received sent

-- how many symbols of two words differ
abbrev pub changed_symbols : ℕ → List ℕ → List ℕ → ℕ
changed_symbols n old new = marked_below (λ i. not (nat_eq (slice_index old i) (slice_index new i))) n

-- a word after it was corrected to the one that is meant, and how many of its symbols changed, or 65535 where none is
pub record IsCorrectedTo (meant : List ℕ → Type 0) (n : ℕ) (old new : List ℕ) (count : ℕ) : Type 0 where
  pub found : (sent : List ℕ) → meant sent → (count ≢ 65535) × (new ≡ sent)
  pub right : count ≢ 65535 → meant new × (count ≡ changed_symbols n old new)
  pub kept : count ≡ 65535 → new ≡ old

-- the same where a word of a code over bytes is meant
abbrev pub IsCorrectedWord : (ℕ → ℕ → ℕ) → ℕ → ℕ → ℕ → ℕ → List ℕ → List ℕ → List ℕ → ℕ → Type 0
IsCorrectedWord times root first n checks flags old new count =
    IsCorrectedTo (IsMeantBy times root first n checks flags old) n old new count

-- so many words are corrected, each to one that is meant by its flags, which stand one after the other like the symbols, or are left out
pub record AreCorrectedTo (n : ℕ) (meant : List ℕ → List ℕ → List ℕ → Type 0) (count : ℕ) (flags old new counts : List ℕ) : Type 0 where
  pub long : length new ≡ length old
  pub words : (i : ℕ) → i < count
      → IsCorrectedTo (meant (nth_word n i flags) (nth_word n i old)) n (nth_word n i old) (nth_word n i new) (slice_index counts i)

module _ (n : ℕ) (times : ℕ → ℕ → ℕ) (root first checks : ℕ) where
  -- so many words are encoded
  pub record AreEncodedWords (k count : ℕ) (old new : List ℕ) : Type 0 where
    pub long : length new ≡ length old
    pub words : (i : ℕ) → i < count → IsEncodedWord times root first checks k (nth_word n i old) (nth_word n i new)

  -- so many words are corrected
  abbrev pub AreCorrectedWords : ℕ → List ℕ → List ℕ → List ℕ → List ℕ → Type 0
  AreCorrectedWords count flags old new counts = AreCorrectedTo n (IsMeantBy times root first n checks) count flags old new counts

  -- the values of so many words at the roots, those of each word one after the other
  abbrev pub AreSyndromes : ℕ → List ℕ → List ℕ → Type 0
  AreSyndromes count words values =
      (i m : ℕ) → i < count → m < checks
      → slice_index (nth_word checks i values) m ≡ code_value times n (slice_index (nth_word n i words)) (power 1 times root (first + m))

  -- bytes that answer for each of so many words whether it is one of the code
  abbrev pub TellWords : ℕ → List ℕ → List ℕ → Type 0
  TellWords count words flags = (i : ℕ) → i < count → Answers (HasRoots times root first checks (nth_word n i words)) (slice_index flags i)

module _ (modulus n k first step : ℕ) where
  -- something holds of the code, by its product and its root
  abbrev pub OverCode : ((ℕ → ℕ → ℕ) → ℕ → Type 0) → Type 0
  OverCode holds = (field : ByteField) × (byte_modulus field ≡ modulus) × holds (byte_times field) (code_root field step)

  -- a call that encodes words
  abbrev pub EncodesWords : List ℕ → List ℕ → ℕ → Type 0
  EncodesWords old new status =
      CallOfCode (HasCorrectingCode modulus n k step) (length old % n ≡ 0) (Unit {0})
      (OverCode (λ times root. AreEncodedWords n times root first (n - k) k (length old / n) old new)) old new status

  -- a call that writes the values of words at the roots
  abbrev pub WritesSyndromes : List ℕ → List ℕ → List ℕ → ℕ → Type 0
  WritesSyndromes words old new status =
      CallOfCode (HasCorrectingCode modulus n k step) ((length words % n ≡ 0) × (length old ≡ length words / n * (n - k))) (Unit {0})
      (OverCode (λ times root. AreSyndromes n times root first (n - k) (length words / n) words new)) old new status

  -- a call that answers for each word whether it is one of the code
  abbrev pub TellsCodeWords : List ℕ → List ℕ → List ℕ → ℕ → Type 0
  TellsCodeWords words old new status =
      CallOfCode (HasCorrectingCode modulus n k step) ((length words % n ≡ 0) × (length old ≡ length words / n)) (Unit {0})
      (OverCode (λ times root. TellWords n times root first (n - k) (length words / n) words new)) old new status

  -- a call that corrects words
  abbrev pub CorrectsWords : List ℕ → List ℕ → List ℕ → List ℕ → List ℕ → ℕ → Type 0
  CorrectsWords flags old old_counts new counts status =
      CallOfCode {T = List ℕ × List ℕ} (HasCorrectingCode modulus n k step)
      ((length old % n ≡ 0) × ((length flags ≡ 0) ⊎ (length flags ≡ length old)) × (length old_counts ≡ length old / n)) (Unit {0})
      (OverCode (λ times root. AreCorrectedWords n times root first (n - k) (length old / n) flags old new counts))
      (old, old_counts) (new, counts) status
