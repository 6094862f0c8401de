-- Calls that write the least number from a start on, once it is known.
use Rattle.std.proofs.Common.{◌≡◌, ℕ, ◌<◌, ◌≤◌, refl, sym, subst, arith}
use Rattle.c_calls.specs.ChosenElements.{FindsNext}
use Rattle.c_calls.specs.Fields.{wide_number}
use Rattle.c_calls.specs.declared.status.TheConstants.{OK, UNSOLVABLE}
use Rattle.c_calls.specs.declared.wide.Wide.{Wide}

module _ (Found Passed : ℕ → Type 0) (start : ℕ) {old : Wide} where
  -- there is none
  pub next-none : ((u : ℕ) → start ≤ u → Passed u → ⊥) → FindsNext Found Passed start old old UNSOLVABLE
  next-none none =
      record {
        found = λ e. absurd (unlike UNSOLVABLE OK refl refl e);
        least = λ e. absurd (unlike UNSOLVABLE OK refl refl e);
        none = λ _. (refl, none);
        kept = λ _. refl;
      }
    where
      unlike : (a b : ℕ) → a ≡ 6 → b ≡ 0 → a ≡ b → ⊥
      unlike a b six zero e = absurd (omega (arith, six, zero, e))

  -- it is the number of a word
  pub next-found : (found : ℕ) (new : Wide) → wide_number new ≡ found → (start ≤ found) × Found found
      → ((u : ℕ) → u < found → start ≤ u → Passed u → ⊥) → FindsNext Found Passed start old new OK
  next-found found new is holds least =
      record {
        found = λ _. (subst (λ (z : ℕ). start ≤ z) (sym is) holds.0, subst Found (sym is) holds.1);
        least = λ _ u less. least u (subst (λ (z : ℕ). u < z) is less);
        none = λ other. absurd (other refl);
        kept = λ other. absurd (other refl);
      }
