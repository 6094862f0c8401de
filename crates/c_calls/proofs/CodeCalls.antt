-- Calls of codes over the field that words name, once these and the numbers of the code were read.
use Rattle.std.proofs.Common.{◌≡◌, ◌≢◌, inl, inr, ℕ, ◌+◌, ◌-◌, ◌*◌, ◌<◌, List, refl, sym, ◌∙◌, subst, arith}
use Rattle.std.specs.Prelude.{slice_index}
use Rattle.std.proofs.lemmas.Bool.{cases_lt}
use borrow.Rule.Slice.PartMut.{mid_of}
use Rattle.any_field.specs.Contexts.{field_product}
use Rattle.c_calls.specs.Bytes.{Answers}
use Rattle.c_calls.specs.ChosenCodes.{HasCodeOver, OfCode, OverCodeOf}
use Rattle.c_calls.specs.ChosenFields.{NamesAField, OverField}
use Rattle.c_calls.specs.Codes.{nth_word}
use Rattle.c_calls.specs.Fields.{wide_number}
use Rattle.c_calls.proofs.ManyWords.{WordsChanged, word_read, word_waits}
use Rattle.c_calls.specs.declared.field_words.ChosenField.{ChosenField}
use Rattle.c_calls.specs.declared.status.TheConstants.{CODE, OK, REDUCIBLE}

module _ {T : Type 0} (words : ChosenField) (n k first root : ℕ) where
  -- a call of a code whose field and numbers are these
  pub over-code : {old new : T} {status : ℕ} (call : ℕ → (ℕ → ℕ → ℕ) → ℕ → ℕ → ℕ → ℕ → Type 0) (d t own_n own_k own_first own_root : ℕ)
      → NamesAField words × HasCodeOver words.degree (wide_number words.tail) n k root × (d ≡ words.degree) × (t ≡ wide_number words.tail)
      × (own_n ≡ n) × (own_k ≡ k) × (own_first ≡ first) × (own_root ≡ root)
      → call d (field_product d t) own_n own_k own_first own_root → (status ≢ OK → new ≡ old)
      → OverCodeOf words n k root (λ width times. call width times n k first root) old new status
  over-code call d t own_n own_k own_first own_root known made kept =
      record {
        named = λ _. record { code = λ _. told; none = λ no. absurd (no known.1); kept = kept };
        reducible = λ none. absurd (none known.0);
        kept = kept;
      }
    where
      times : ℕ → ℕ → ℕ
      times = field_product words.degree (wide_number words.tail)

      over_field : call words.degree times own_n own_k own_first own_root
      over_field =
          subst (λ (z : ℕ). call words.degree (field_product words.degree z) own_n own_k own_first own_root) known.3
          (subst (λ (z : ℕ). call z (field_product z t) own_n own_k own_first own_root) known.2 made)

      told : call words.degree times n k first root
      told =
          subst (λ (z : ℕ). call words.degree times n k first z) known.7
          (subst (λ (z : ℕ). call words.degree times n k z own_root) known.6
          (subst (λ (z : ℕ). call words.degree times n z own_first own_root) known.5
          (subst (λ (z : ℕ). call words.degree times z own_k own_first own_root) known.4 over_field)))

  -- words that name no field, or numbers of no code
  pub over-refused : {old : T} {fact : Type 0} {status : ℕ}
      → ((¬ NamesAField words) → status ≡ REDUCIBLE)
      × (NamesAField words → (status ≡ CODE) × ¬ HasCodeOver words.degree (wide_number words.tail) n k root)
      → OverField words (OfCode (HasCodeOver words.degree (wide_number words.tail) n k root) fact old old status) old old status
  over-refused told =
      record {
        named = λ is. record { code = λ has. absurd ((told.1 is).1 has); none = λ _. (told.1 is).0; kept = λ _. refl };
        reducible = told.0;
        kept = λ _. refl;
      }

-- ---- words

-- a word whose data and whose other symbols are below a bound
pub all-below : (n k b : ℕ) (old new : List ℕ) → ((j : ℕ) → j < k → slice_index old j < b)
    → ((j : ℕ) → j < k → slice_index new j ≡ slice_index old j) → ((j : ℕ) → slice_index new (k + j) < b)
    → (j : ℕ) → j < n → slice_index new j < b
all-below n k b old new first kept others j below =
    elim (cases_lt j k) [
      | inl before ↦ subst (λ (v : ℕ). v < b) (sym (kept j before)) (first j before)
      | inr behind ↦
          let place : k + (j - k) ≡ j = omega (arith, behind) in
          subst (λ (m : ℕ). slice_index new m < b) place (others (j - k))
    ]

-- an answer to two facts, of which one is known
pub answers-beside : {given fact : Type 0} {answer : ℕ} → given → Answers (given × fact) answer → Answers fact answer
answers-beside is answer = record { yes = λ holds. answer.yes (is, holds); no = λ none. answer.no (λ both. none both.1) }

-- the data of a word that is not yet changed, as they are read
pub data-waits : (n size k i b : ℕ) (relates : ℕ → List ℕ → List ℕ → Type 0) (old now : List ℕ) → size ≡ n → WordsChanged n relates old now i
    → ((j : ℕ) → j < k → slice_index (nth_word n i old) j < b)
    → (j : ℕ) → j < k → slice_index (mid_of (i * size) (i * size + size - i * size) now) j < b
data-waits n size k i b relates old now same so_far first j below =
    subst (λ (w : List ℕ). slice_index w j < b) (sym (word_read n size i now same ∙ word_waits n i relates old now so_far)) (first j below)
