-- Interleaved words that are corrected with a list of the erased places, as a call says it by flags.
use Rattle.std.proofs.Common.{◌≡◌, ℕ, ◌<◌, Bool, List, length, slice_index, sym, ◌∙◌}
use Rattle.std.specs.Prelude.{nat_eq}
use Rattle.error_codes.specs.Correcting.{is_listed}
use Rattle.error_codes.specs.Interleaved.{IsSettled, interleaved_word}
use Rattle.c_calls.specs.Codes.{is_flagged}
use Rattle.c_calls.specs.InterleavedCodes.{AreSettled, IsSettledBy}
use Rattle.c_calls.proofs.FlaggedPlaces.{meant-again}

module _ (times : ℕ → ℕ → ℕ) (root first n checks : ℕ) (flags places : List ℕ)
    (listed : (i : ℕ) → is_listed places i ≡ is_flagged flags i) where
  settled-by : (old : List ℕ) (said : Bool) (new : List ℕ) → IsSettled times root first n checks old places said new
      → IsSettledBy times root first n checks flags old said new
  settled-by old said new settled =
      record {
        found = λ sent meant.
            settled.found sent
            (meant-again 8 times root first n checks old sent meant.0 places (λ i below. meant.1 i below ∙ sym (listed i)) meant.2);
        right = λ is. (places, (λ i below. listed i), settled.right is);
        kept = settled.kept;
      }

  -- all words
  pub words-settled : (depth : ℕ) (old new said : List ℕ) → length new ≡ length old → length said ≡ depth
      → ((c : ℕ) → c < depth → slice_index said c < 2)
      → ((c : ℕ) → c < depth → IsSettled times root first n checks (interleaved_word n depth old c) places
      (nat_eq (slice_index said c) 1) (interleaved_word n depth new c))
      → AreSettled times root first n checks depth flags old new said
  words-settled depth old new said long answers bits settled =
      record {
        long = long;
        flags_long = answers;
        bits = bits;
        words = λ c below.
            settled-by (interleaved_word n depth old c) (nat_eq (slice_index said c) 1) (interleaved_word n depth new c)
            (settled c below);
      }
