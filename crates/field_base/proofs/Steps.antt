-- Steps of a reader as what they read.
use Rattle.std.proofs.Common.{ℕ, List, [], ◌∷◌, inl, None, refl}
use Rattle.std.specs.Result.{IfOk}
use Rattle.std.specs.declared.result.Result.{Result}
use Rattle.std.proofs.lemmas.Result.{IfOk-weaker}
use Rattle.serde.specs.Event.{Event, seq_begins, seq_ends, unsigned}
use Rattle.serde.specs.Steps.{Begins, Gives}
use Rattle.serde.specs.declared.deserializer.Deserializer.{Deserializer}
use Rattle.field_base.specs.Steps.{GivesEach}

module _ {F E M : Type 0} (gives : F → List ℕ → Event → F → Type 0) (stays : F → F → Type 0) where
  -- one step alone
  one_event : (old new : Deserializer F E M) (e : Event) → Gives gives old e new → GivesEach gives stays old (e ∷ []) new
  one_event old new e given = (new, (inl given.0, given.1), refl)

  -- an integer that is read is one event, that of its number
  pub one_number : {X : Type 0} (old new : Deserializer F E M) (r : Result ℕ X) → IfOk r (λ n. Gives gives old (unsigned n) new)
      → IfOk r (λ n. GivesEach gives stays old (unsigned n ∷ []) new)
  one_number old new r given =
      IfOk-weaker r (λ n. Gives gives old (unsigned n) new) (λ n. GivesEach gives stays old (unsigned n ∷ []) new)
      (λ n is. one_event old new (unsigned n) is) given

  -- the start of an array, three numbers and its end, one after the other
  pub three_numbers : (old s t u v new : Deserializer F E M) (a b c : ℕ) → Gives gives old (seq_begins None) s → Begins gives stays s (unsigned a) t
      → Begins gives stays t (unsigned b) u → Begins gives stays u (unsigned c) v → Gives gives v seq_ends new
      → GivesEach gives stays old (seq_begins None ∷ unsigned a ∷ unsigned b ∷ unsigned c ∷ seq_ends ∷ []) new
  three_numbers old s t u v new a b c begun first second third ended =
      (s, (inl begun.0, begun.1), (t, first, (u, second, (v, third, one_event v new seq_ends ended))))
