-- How calls end, once it is known.
use Rattle.std.proofs.Common.{◌≡◌, Bool, true, false, refl, sym, ◌∙◌}
use Rattle.std.proofs.lemmas.Bool.{false≢true}
use Rattle.c_calls.specs.Calls.{CallOf}
use Rattle.c_calls.specs.Matrices.{CallOnEquations}
use Rattle.c_calls.specs.declared.status.TheConstants.{LENGTH, NOT_AN_ELEMENT, OK, UNSOLVABLE}

-- what a test found false
pub refuted : {b : Bool} → b ≡ false → b ≡ true → ⊥
refuted is_false is_true = false≢true (sym is_false ∙ is_true)

module _ {T fits elements written : Type 0} {old new : T} where
  -- a call that does what it says
  pub call_done : fits → elements → written → CallOf fits elements written old new OK
  call_done fit all done =
      record {
        length = λ unfit. absurd (unfit fit);
        element = λ _ none. absurd (none all);
        ok = λ _ _. (refl, done);
        kept = λ other. absurd (other refl);
      }

  -- equations with a solution
  pub call_solved : {solvable : Type 0} → fits → elements → solvable → written → CallOnEquations fits elements solvable written old new OK
  call_solved fit all found done =
      record {
        length = λ unfit. absurd (unfit fit);
        element = λ _ none. absurd (none all);
        unsolvable = λ _ _ none. absurd (none found);
        ok = λ _ _ _. (refl, done);
        kept = λ other. absurd (other refl);
      }

-- equations without one
pub call_unsolved : {T fits elements solvable written : Type 0} {old new : T} → fits → elements → (solvable → ⊥) → new ≡ old
    → CallOnEquations fits elements solvable written old new UNSOLVABLE
call_unsolved fit all none stays =
    record {
      length = λ unfit. absurd (unfit fit);
      element = λ _ missing. absurd (missing all);
      unsolvable = λ _ _ _. refl;
      ok = λ _ _ found. absurd (none found);
      kept = λ _. stays;
    }

module _ {T fits elements written : Type 0} {old : T} where
  -- lengths that do not fit
  pub call_misfit : (fits → ⊥) → CallOf fits elements written old old LENGTH
  call_misfit misfit =
      record {
        length = λ _. refl;
        element = λ fit _. absurd (misfit fit);
        ok = λ fit _. absurd (misfit fit);
        kept = λ _. refl;
      }

  -- words that are no elements
  pub call_no_elements : fits → (elements → ⊥) → CallOf fits elements written old old NOT_AN_ELEMENT
  call_no_elements fit none =
      record {
        length = λ unfit. absurd (unfit fit);
        element = λ _ _. refl;
        ok = λ _ all. absurd (none all);
        kept = λ _. refl;
      }

  -- the same of equations
  pub equations_misfit : {solvable : Type 0} → (fits → ⊥) → CallOnEquations fits elements solvable written old old LENGTH
  equations_misfit misfit =
      record {
        length = λ _. refl;
        element = λ fit _. absurd (misfit fit);
        unsolvable = λ fit _ _. absurd (misfit fit);
        ok = λ fit _ _. absurd (misfit fit);
        kept = λ _. refl;
      }

  pub equations_no_elements : {solvable : Type 0} → fits → (elements → ⊥)
      → CallOnEquations fits elements solvable written old old NOT_AN_ELEMENT
  equations_no_elements fit none =
      record {
        length = λ unfit. absurd (unfit fit);
        element = λ _ _. refl;
        unsolvable = λ _ all _. absurd (none all);
        ok = λ _ all _. absurd (none all);
        kept = λ _. refl;
      }
