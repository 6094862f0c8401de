-- The test of UTF-8 in the words of the logic.
use Rattle.std.proofs.Common.{◌≡◌, ℕ, Bool, true, false, List, Result, Ok, Err, MatchResult, is_ok, refl, sym, ◌∙◌}
use Rattle.std.specs.Str.{IsUtf8, is_utf8}
use Rattle.std.proofs.lemmas.Str.{IsUtf8-from_is_utf8, is_utf8-from_IsUtf8}
use Rattle.calculator.proofs.line.is_text.Goals as goal

not_utf8 : (line : List ℕ) (b : Bool) → (IsUtf8 line → ⊥) → is_utf8 line ≡ b → false ≡ b
not_utf8 line true broken is = absurd (broken (IsUtf8-from_is_utf8 line is))
not_utf8 line false broken is = refl

utf8_cases : {A E : Type 0} (P : A → Type 0) (Q : E → Type 0) (line : List ℕ) (read : Result A E)
    → MatchResult read (λ s. P s × IsUtf8 line) (λ e. (IsUtf8 line → ⊥) × Q e) → is_ok read ≡ is_utf8 line
utf8_cases P Q line (Ok s) known = sym (is_utf8-from_IsUtf8 line known.1)
utf8_cases P Q line (Err e) known = not_utf8 line (is_utf8 line) known.0 refl

pub returns : goal.returns
returns c = c.is_ok.ensures.value ∙ utf8_cases _ _ c.args.line.now c.from_utf8.result c.from_utf8.ensures.cases
