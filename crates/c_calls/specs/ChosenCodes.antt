-- What calls of Reed-Solomon codes that correct errors do over a field of at most 65,536 elements that the caller chooses, on words that stand
-- one after the other: which status they return, and what they write.
use Rattle.std.specs.Prelude.{◌≡◌, ◌≢◌, ◌⊎◌, ℕ, ◌+◌, ◌-◌, ◌*◌, ◌/◌, ◌%◌, ◌^◌, ◌<◌, ◌≤◌, List, length}
use Rattle.any_field.specs.Contexts.{field_product}
use Rattle.error_codes.specs.Correcting.{HasOrder}
use Rattle.error_codes.specs.FieldCodes.{AreSymbols}
use Rattle.c_calls.specs.Calls.{CallOf}
use Rattle.c_calls.specs.ChosenFields.{OverField}
use Rattle.c_calls.specs.Codes.{AreCorrectedTo, AreSyndromes, IsEncodedWord, IsMeantByIn, TellWords, nth_word}
use Rattle.c_calls.specs.Fields.{wide_number}
use Rattle.c_calls.specs.declared.field_words.ChosenField.{ChosenField}
use Rattle.c_calls.specs.declared.status.TheConstants.{CODE, OK}

-- the field modulo x^degree + tail has a code of words of n symbols, of which k are data, with such a root
pub record HasCodeOver (degree tail n k root : ℕ) : Type 0 where
  pub narrow : degree ≤ 16
  pub some_data : 0 < k
  pub some_checks : k < n
  pub short : n ≤ 65535
  pub element : root < 2 ^ degree
  pub nonzero : root ≢ 0
  pub order : HasOrder (field_product degree tail) root n

-- a call of a code: that there is no such code is told before what the call tells
pub record OfCode {T : Type 0} (is_code call : Type 0) (old new : T) (status : ℕ) : Type 0 where
  pub code : is_code → call
  pub none : ¬ is_code → status ≡ CODE
  pub kept : status ≢ OK → new ≡ old

-- the same of a code over the field that words name, by the bits of its elements and its product
abbrev pub OverCodeOf : {T : Type 0} → ChosenField → ℕ → ℕ → ℕ → (ℕ → (ℕ → ℕ → ℕ) → Type 0) → T → T → ℕ → Type 0
OverCodeOf words n k root call old new status =
    OverField words
    (OfCode (HasCodeOver words.degree (wide_number words.tail) n k root)
    (call words.degree (field_product words.degree (wide_number words.tail))) old new status)
    old new status

-- the data of so many words are elements
abbrev pub AreDataSymbols : ℕ → ℕ → ℕ → ℕ → List ℕ → Type 0
AreDataSymbols width n k count words = (i : ℕ) → i < count → AreSymbols width k (nth_word n i words)

module _ (width : ℕ) (times : ℕ → ℕ → ℕ) (n k first root : ℕ) where
  -- so many words are encoded, by elements
  pub record AreEncodedSymbols (count : ℕ) (old new : List ℕ) : Type 0 where
    pub long : length new ≡ length old
    pub words : (i : ℕ) → i < count → IsEncodedWord times root first (n - k) k (nth_word n i old) (nth_word n i new)
    pub elements : (i : ℕ) → i < count → AreSymbols width n (nth_word n i new)

  -- a call that encodes words, in so much space
  abbrev pub EncodesSymbols : ℕ → List ℕ → List ℕ → ℕ → Type 0
  EncodesSymbols space old new status =
      CallOf ((length old % n ≡ 0) × (space ≡ n - k + 1)) (AreDataSymbols width n k (length old / n) old)
      (AreEncodedSymbols (length old / n) old new) old new status

  -- a call that writes the values of words at the roots
  abbrev pub WritesSymbolSyndromes : List ℕ → List ℕ → List ℕ → ℕ → Type 0
  WritesSymbolSyndromes words old new status =
      CallOf ((length words % n ≡ 0) × (length old ≡ length words / n * (n - k))) (AreSymbols width (length words) words)
      (AreSyndromes n times root first (n - k) (length words / n) words new) old new status

  -- a call that answers for each word whether it is one of the code
  abbrev pub TellsSymbolWords : List ℕ → List ℕ → List ℕ → ℕ → Type 0
  TellsSymbolWords words old new status =
      CallOf ((length words % n ≡ 0) × (length old ≡ length words / n)) (AreSymbols width (length words) words)
      (TellWords n times root first (n - k) (length words / n) words new) old new status

  -- a call that corrects words, in so much space, by so many marks and places
  abbrev pub CorrectsSymbols : ℕ → ℕ → ℕ → List ℕ → List ℕ → List ℕ → List ℕ → List ℕ → ℕ → Type 0
  CorrectsSymbols space marks places flags old old_counts new counts status =
      CallOf {T = List ℕ × List ℕ}
      ((length old % n ≡ 0) × ((length flags ≡ 0) ⊎ (length flags ≡ length old)) × (length old_counts ≡ length old / n)
      × (space ≡ 2 * n + 5 * (n - k) + 3) × (marks ≡ 2 * n) × (places ≡ n))
      (AreSymbols width (length old) old)
      (AreCorrectedTo n (IsMeantByIn width times root first n (n - k)) (length old / n) flags old new counts)
      (old, old_counts) (new, counts) status

module _ (words : ChosenField) (n k first root : ℕ) where
  -- the same calls over the field that words name
  abbrev pub EncodesWordsOver : ℕ → List ℕ → List ℕ → ℕ → Type 0
  EncodesWordsOver space old new status =
      OverCodeOf words n k root (λ width times. EncodesSymbols width times n k first root space old new status) old new status

  abbrev pub WritesSyndromesOver : List ℕ → List ℕ → List ℕ → ℕ → Type 0
  WritesSyndromesOver symbols old new status =
      OverCodeOf words n k root (λ width times. WritesSymbolSyndromes width times n k first root symbols old new status) old new status

  abbrev pub TellsCodeWordsOver : List ℕ → List ℕ → List ℕ → ℕ → Type 0
  TellsCodeWordsOver symbols old new status =
      OverCodeOf words n k root (λ width times. TellsSymbolWords width times n k first root symbols old new status) old new status

  abbrev pub CorrectsWordsOver : ℕ → ℕ → ℕ → List ℕ → List ℕ → List ℕ → List ℕ → List ℕ → ℕ → Type 0
  CorrectsWordsOver space marks places flags old old_counts new counts status =
      OverCodeOf {T = List ℕ × List ℕ} words n k root
      (λ width times. CorrectsSymbols width times n k first root space marks places flags old old_counts new counts status)
      (old, old_counts) (new, counts) status
