-- Steps that are made one after the other.
use Rattle.std.proofs.Common.{◌≡◌, ◌<◌, ◌+◌, ℕ, List, [], ◌∷◌, ◌++◌, add-one, ap, get_or, length, refl, subst, sym, take, ◌∙◌}
use Rattle.std.proofs.Math.ListN.{set}
use Rattle.std.proofs.Math.Seq.{take-suc}
use Rattle.std.proofs.lemmas.List.{take_more_set}
use Rattle.transcripts.specs.Lists.{InTurn}

module _ {T C : Type 0} (step : C → T → C → Type 0) where
  -- no steps leave the transcript as it is
  pub none_in_turn : (old : C) → InTurn step [] old old
  unfolding InTurn
  none_in_turn old = refl

  -- steps that follow others are steps of both lists joined
  pub in_turn-append : (first second : List T) (old now next : C)
      → InTurn step first old now → InTurn step second now next → InTurn step (first ++ second) old next
  unfolding InTurn
  in_turn-append [] second old now next none run = subst (λ transcript. InTurn step second transcript next) none run
  in_turn-append (x ∷ first) second old now next (after, begun, rest) run =
      (after, begun, in_turn-append first second after now next rest run)

  -- one step
  pub one_in_turn : (x : T) (old new : C) → step old x new → InTurn step (x ∷ []) old new
  unfolding InTurn
  one_in_turn x old new leads = (new, leads, refl)

  -- steps of some values, and one more
  pub pushed_in_turn : (values : List T) (x : T) (old now next : C) → InTurn step values old now → step now x next
      → InTurn step (values ++ x ∷ []) old next
  pushed_in_turn values x old now next before leads =
      in_turn-append values (x ∷ []) old now next before (one_in_turn x now next leads)

  -- no steps, where the list of their values is empty
  pub empty_in_turn : (values : List T) (old : C) → values ≡ [] → InTurn step values old old
  empty_in_turn values old none = subst (λ xs. InTurn step xs old old) (sym none) (none_in_turn old)

  -- steps of some values, and one more of the value that was pushed behind them
  pub grown_in_turn : (values more : List T) (x : T) (old now next : C) → more ≡ values ++ x ∷ [] → InTurn step values old now
      → step now x next → InTurn step more old next
  grown_in_turn values more x old now next pushed before leads =
      subst (λ xs. InTurn step xs old next) (sym pushed) (pushed_in_turn values x old now next before leads)

  -- steps of the first n values, and one more of the value that was written over value n
  pub written_in_turn : (values : List T) (count : ℕ) (x : T) (old now next : C) → count < length values
      → InTurn step (take count values) old now → step now x next → InTurn step (take (count + 1) (set values count x)) old next
  written_in_turn values count x old now next inside before leads =
      grown_in_turn (take count values) (take (count + 1) (set values count x)) x old now next (take_more_set values count x inside)
      before leads

  -- a loop that has made the steps of n values and makes that of value n has made n + 1
  pub next_in_turn : (values : List T) (count : ℕ) (x default : T) (old now next : C) → count < length values
      → x ≡ get_or values count default → InTurn step (take count values) old now → step now x next
      → InTurn step (take (count + 1) values) old next
  next_in_turn values count x default old now next inside is before leads =
      let longer : take count values ++ x ∷ [] ≡ take (count + 1) values =
      ap (λ y. take count values ++ y ∷ []) is ∙ sym (take-suc values count default inside)
      ∙ ap (λ (k : ℕ). take k values) (sym (add-one count)) in
      subst (λ xs. InTurn step xs old next) longer (pushed_in_turn (take count values) x old now next before leads)
