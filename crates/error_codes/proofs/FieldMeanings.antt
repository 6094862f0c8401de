-- The words that are meant, and those that a decoder accepts, as whole lists.
use Rattle.std.proofs.Common.{◌≡◌, ℕ, ◌-◌, ◌/◌, ◌^◌, ◌<◌, ◌≤◌, List, length, take, Bool, sym, ◌∙◌, subst, arith}
use Rattle.std.specs.Prelude.{slice_index}
use Rattle.std.proofs.lemmas.List.{take_all}
use Rattle.field_base.specs.Field.{IsField}
use Rattle.field_slices.specs.Marks.{marked_below}
use Rattle.error_codes.specs.Correcting.{HasRoots, IsMeantIn, is_listed}
use Rattle.error_codes.specs.FieldCodes.{AreSymbols}
use Rattle.error_codes.specs.Words.{is_wrong}
use Rattle.error_codes.proofs.Meanings.{accepted-meant, meant-accepted, meant-taken}

module _ (width : ℕ) (times : ℕ → ℕ → ℕ) (wide : 0 < width) (field : IsField width times) (root first n checks : ℕ)
    (received erasures : List ℕ) (erased : ℕ → Bool) (erased_are : (i : ℕ) → i < n → erased i ≡ is_listed erasures i)
    (most : ℕ) (most_is : most ≡ (checks - marked_below erased n) / 2) (fixed : List ℕ) (whole : length fixed ≡ n) where
  front : take n fixed ≡ fixed
  front = take_all n fixed (omega (arith, whole))

  long : length (take n fixed) ≡ n
  long = subst (λ (w : List ℕ). length w ≡ n) (sym front) whole

  -- what is meant is accepted, where it was found
  pub meant-accepts : (sent : List ℕ) → IsMeantIn width times root first n checks received erasures sent
      → ((i : ℕ) → i < n → slice_index fixed i ≡ slice_index sent i)
      → (AreSymbols width n fixed × HasRoots times root first checks fixed
      × (marked_below (is_wrong (λ i. i) (slice_index received) erased (slice_index fixed)) n ≤ most)) × (fixed ≡ sent)
  meant-accepts sent meant same =
      let accepted = meant-accepted width times wide field root first n checks received erasures erased erased_are most most_is
      fixed long sent meant same in (
        (
          (λ i below. subst (λ (v : ℕ). v < 2 ^ width) (sym (same i below)) (meant.symbols i below)),
          subst (HasRoots times root first checks) front accepted.0,
          accepted.1,
        ),
        sym front
            ∙ meant-taken width times wide field root first n checks received erasures erased erased_are most most_is fixed long
            sent meant same,
      )

  -- and what is accepted is meant
  pub accepts-meant : AreSymbols width n fixed → marked_below erased n ≤ checks → HasRoots times root first checks fixed
      → marked_below (is_wrong (λ i. i) (slice_index received) erased (slice_index fixed)) n ≤ most
      → IsMeantIn width times root first n checks received erasures fixed
  accepts-meant fits few roots near =
      subst (IsMeantIn width times root first n checks received erasures) front
      (accepted-meant width times wide field root first n checks received erasures erased erased_are most most_is fixed long fits
      few (subst (HasRoots times root first checks) (sym front) roots) near)
