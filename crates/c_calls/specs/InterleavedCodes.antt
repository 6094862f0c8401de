-- What calls of Reed-Solomon codes do on words that stand interleaved (CCSDS 131.0-B, symbol interleaving): symbol i of word c of `depth` words
-- stands at i · depth + c.
use Rattle.std.specs.Prelude.{◌≡◌, ◌⊎◌, Bool, true, false, ℕ, ◌-◌, ◌*◌, ◌/◌, ◌%◌, ◌<◌, List, length, nat_eq, slice_index}
use Rattle.error_codes.specs.Interleaved.{AreEncoded, AreWordValues, interleaved_word}
use Rattle.c_calls.specs.Bytes.{CallOfCode}
use Rattle.c_calls.specs.Codes.{HasCorrectingCode, IsMeantBy, OverCode}

module _ (times : ℕ → ℕ → ℕ) (root first n checks : ℕ) where
  -- a word after it was corrected, and whether it is said to be the word of the code that it stands for
  pub record IsSettledBy (flags old : List ℕ) (said : Bool) (new : List ℕ) : Type 0 where
    pub found : (sent : List ℕ) → IsMeantBy times root first n checks flags old sent → (said ≡ true) × (new ≡ sent)
    pub right : said ≡ true → IsMeantBy times root first n checks flags old new
    pub kept : said ≡ false → new ≡ old

  -- so many words are corrected, with one flag for the symbols at each place, and 1 is said where a word is the one that was meant, else 0
  pub record AreSettled (depth : ℕ) (flags old new said : List ℕ) : Type 0 where
    pub long : length new ≡ length old
    pub flags_long : length said ≡ depth
    pub bits : (c : ℕ) → c < depth → slice_index said c < 2
    pub words : (c : ℕ) → c < depth
        → IsSettledBy flags (interleaved_word n depth old c) (nat_eq (slice_index said c) 1) (interleaved_word n depth new c)

module _ (modulus n k first step : ℕ) where
  -- a call that encodes interleaved words
  abbrev pub EncodesInterleaved : List ℕ → List ℕ → ℕ → Type 0
  EncodesInterleaved old new status =
      CallOfCode (HasCorrectingCode modulus n k step) (length old % n ≡ 0) (Unit {0})
      ((length new ≡ length old) × OverCode modulus n k first step (λ times root. AreEncoded times root first n (n - k) (length old / n) k old new))
      old new status

  -- a call that writes the values of interleaved words at the roots, interleaved too
  abbrev pub WritesInterleavedSyndromes : List ℕ → List ℕ → List ℕ → ℕ → Type 0
  WritesInterleavedSyndromes words old new status =
      CallOfCode (HasCorrectingCode modulus n k step) ((length words % n ≡ 0) × (length old ≡ length words / n * (n - k))) (Unit {0})
      ((length new ≡ length old)
      × OverCode modulus n k first step (λ times root. AreWordValues times root first n (n - k) (length words / n) words new)) old new status

  -- a call that corrects interleaved words, and writes the values that they had at the roots
  abbrev pub CorrectsInterleaved : List ℕ → List ℕ → List ℕ → List ℕ → List ℕ → List ℕ → List ℕ → ℕ → Type 0
  CorrectsInterleaved flags old old_values old_said new new_values new_said status =
      CallOfCode {T = List ℕ × List ℕ × List ℕ} (HasCorrectingCode modulus n k step)
      ((length old % n ≡ 0) × ((length flags ≡ 0) ⊎ (length flags ≡ n)) × (length old_values ≡ length old / n * (n - k))
      × (length old_said ≡ length old / n)) (Unit {0})
      ((length new_values ≡ length old_values)
      × OverCode modulus n k first step (λ times root. AreWordValues times root first n (n - k) (length old / n) old new_values
      × AreSettled times root first n (n - k) (length old / n) flags old new new_said))
      (old, old_values, old_said) (new, new_values, new_said) status
