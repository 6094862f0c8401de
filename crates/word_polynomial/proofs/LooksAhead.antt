-- A number that is read after a look ahead.
use Rattle.std.proofs.Common.{ℕ, List, inr, ◌∙◌, subst}
use Rattle.std.specs.Result.{IfOk}
use Rattle.std.specs.declared.result.Result.{Result}
use Rattle.std.proofs.lemmas.Result.{IfOk-weaker}
use Rattle.serde.specs.Event.{Event, unsigned}
use Rattle.serde.specs.Steps.{Begins, Gives, Stays, format_of}
use Rattle.serde.specs.declared.deserializer.Deserializer.{Deserializer}

module _ {F E M : Type 0} (gives : F → List ℕ → Event → F → Type 0) (stays : F → F → Type 0) where
  -- a step after a look
  after_a_look : (old looked new : Deserializer F E M) (e : Event) → Stays stays old looked → Gives gives looked e new → Begins gives stays old e new
  after_a_look old looked new e look given = (
    inr (format_of looked, look.0, subst (λ input. gives (format_of looked) input e (format_of new)) look.1 given.0),
    given.1 ∙ look.1,
  )

  -- a number read after a look ahead is the event that stands next
  pub number_after_a_look : {X : Type 0} (old looked new : Deserializer F E M) (r : Result ℕ X) → Stays stays old looked
      → IfOk r (λ n. Gives gives looked (unsigned n) new) → IfOk r (λ n. Begins gives stays old (unsigned n) new)
  number_after_a_look old looked new r look given =
      IfOk-weaker r (λ n. Gives gives looked (unsigned n) new) (λ n. Begins gives stays old (unsigned n) new)
      (λ n is. after_a_look old looked new (unsigned n) look is) given
