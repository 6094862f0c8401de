-- What calls of binary BCH codes do, on words of bits that stand one after the other, a byte each: which status they return, and what they write.
use Rattle.std.specs.Prelude.{◌≡◌, ◌⊎◌, ℕ, ◌-◌, ◌*◌, ◌/◌, ◌%◌, ◌<◌, ◌≤◌, List, length, slice_index}
use Rattle.error_codes.specs.BinaryBch.{AreBinary, AreConjugates, HasFewConjugates, IsMeantBits}
use Rattle.reed_solomon.specs.ByteFields.{byte_modulus, byte_times}
use Rattle.error_codes.specs.Correcting.{HasOrder, HasRoots, is_listed}
use Rattle.reed_solomon.specs.declared.byte_field.ByteField.{ByteField}
use Rattle.c_calls.specs.Bytes.{Answers}
use Rattle.c_calls.specs.Calls.{CallOf}
use Rattle.c_calls.specs.ChosenCodes.{OfCode}
use Rattle.c_calls.specs.Codes.{AreCorrectedTo, IsEncodedWord, code_root, is_flagged, nth_word}
use Rattle.c_calls.specs.declared.status.TheConstants.{OK}

-- the field with this modulus has a code of words of n bits that corrects t errors, with such a root
pub record IsBinaryCode (modulus n t step : ℕ) (field : ByteField) : Type 0 where
  pub modulus_is : byte_modulus field ≡ modulus
  pub some_errors : 0 < t
  pub some_others : 2 * t < n
  pub short : n ≤ 255
  pub order : HasOrder (byte_times field) (code_root field step) n
  pub some_data : HasFewConjugates (byte_times field) (code_root field step) (2 * t) n

-- there is such a field
abbrev pub HasBinaryCode : ℕ → ℕ → ℕ → ℕ → Type 0
HasBinaryCode modulus n t step = (field : ByteField) × IsBinaryCode modulus n t step field

-- k of the n bits are data: all but as many as the generator polynomial has roots
pub record HasData (times : ℕ → ℕ → ℕ) (root n checks k : ℕ) : Type 0 where
  pub some : 0 < k
  pub most : k ≤ n
  pub others : AreConjugates times root checks (n - k)

-- a word of bits that a received word stands for, whose erased bits are those that are flagged
abbrev pub IsMeantBitsBy : (ℕ → ℕ → ℕ) → ℕ → ℕ → ℕ → List ℕ → List ℕ → List ℕ → Type 0
IsMeantBitsBy times root n checks flags received sent =
    (places : List ℕ) × ((i : ℕ) → i < n → is_listed places i ≡ is_flagged flags i) × IsMeantBits times root n checks received places sent

-- the data of so many words are bits
abbrev pub AreDataBits : ℕ → ℕ → ℕ → List ℕ → Type 0
AreDataBits n k count words = (i : ℕ) → i < count → AreBinary k (nth_word n i words)

module _ (times : ℕ → ℕ → ℕ) (root n checks : ℕ) where
  -- so many words are encoded, by bits
  pub record AreEncodedBits (k count : ℕ) (old new : List ℕ) : Type 0 where
    pub long : length new ≡ length old
    pub words : (i : ℕ) → i < count → IsEncodedWord times root 1 checks k (nth_word n i old) (nth_word n i new)
    pub bits : (i : ℕ) → i < count → AreBinary n (nth_word n i new)

  -- a word is one of the code
  abbrev pub IsBinaryWord : List ℕ → Type 0
  IsBinaryWord word = AreBinary (length word) word × HasRoots times root 1 checks word

  -- bytes that answer for each of so many words whether it is one of the code
  abbrev pub TellBinaryWords : ℕ → List ℕ → List ℕ → Type 0
  TellBinaryWords count words flags = (i : ℕ) → i < count → Answers (IsBinaryWord (nth_word n i words)) (slice_index flags i)

  -- a call that encodes words with k bits of data
  abbrev pub EncodesDataBits : ℕ → List ℕ → List ℕ → ℕ → Type 0
  EncodesDataBits k old new status =
      CallOf (length old % n ≡ 0) (AreDataBits n k (length old / n) old) (AreEncodedBits k (length old / n) old new) old new status

  -- one that answers for each word whether it is one of the code
  abbrev pub TellsWordsOfBits : List ℕ → List ℕ → List ℕ → ℕ → Type 0
  TellsWordsOfBits words old new status =
      CallOf ((length words % n ≡ 0) × (length old ≡ length words / n)) (Unit {0}) (TellBinaryWords (length words / n) words new) old new status

  -- and one that corrects words
  abbrev pub CorrectsWordsOfBits : List ℕ → List ℕ → List ℕ → List ℕ → List ℕ → ℕ → Type 0
  CorrectsWordsOfBits flags old old_counts new counts status =
      CallOf {T = List ℕ × List ℕ}
      ((length old % n ≡ 0) × ((length flags ≡ 0) ⊎ (length flags ≡ length old)) × (length old_counts ≡ length old / n)) (Unit {0})
      (AreCorrectedTo n (IsMeantBitsBy times root n checks) (length old / n) flags old new counts)
      (old, old_counts) (new, counts) status

module _ (modulus n t step : ℕ) where
  -- a call of the code with these numbers, by its product, its root, its bits and its checks, twice as many as errors
  abbrev pub OverBinaryCode : {T : Type 0} → ((ℕ → ℕ → ℕ) → ℕ → ℕ → ℕ → Type 0) → T → T → ℕ → Type 0
  OverBinaryCode call old new status =
      OfCode (HasBinaryCode modulus n t step)
      ((field : ByteField) × (byte_modulus field ≡ modulus) × call (byte_times field) (code_root field step) n (2 * t)) old new status

  -- how many bits of a word are data
  abbrev pub TellsDataBits : ℕ → ℕ → ℕ → Type 0
  TellsDataBits old new status = OverBinaryCode (λ times root n checks. (status ≡ OK) × HasData times root n checks new) old new status

  -- words are encoded
  abbrev pub EncodesBits : List ℕ → List ℕ → ℕ → Type 0
  EncodesBits old new status =
      OverBinaryCode
      (λ times root n checks. (k : ℕ) × HasData times root n checks k × EncodesDataBits times root n checks k old new status) old new status

  -- it is told which words are of the code
  abbrev pub TellsBinaryWords : List ℕ → List ℕ → List ℕ → ℕ → Type 0
  TellsBinaryWords words old new status =
      OverBinaryCode (λ times root n checks. TellsWordsOfBits times root n checks words old new status) old new status

  -- words are corrected
  abbrev pub CorrectsBits : List ℕ → List ℕ → List ℕ → List ℕ → List ℕ → ℕ → Type 0
  CorrectsBits flags old old_counts new counts status =
      OverBinaryCode {T = List ℕ × List ℕ}
      (λ times root n checks. CorrectsWordsOfBits times root n checks flags old old_counts new counts status)
      (old, old_counts) (new, counts) status
