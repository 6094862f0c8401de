-- The words that are meant are those of a code by checks within so many errors.
use Rattle.std.proofs.Common.{◌≡◌, ℕ, ◌+◌, ◌-◌, ◌/◌, ◌^◌, ◌<◌, ◌≤◌, List, length, take, Bool, cond, sym, ◌∙◌, ap, subst}
use Rattle.std.proofs.Common.{arith, refl, suc, zero, true, false}
use Rattle.std.specs.Prelude.{nat_eq, not, slice_index, ◌&&◌, IsOk, OnOk, Result, Ok, Err}
use Rattle.std.proofs.lemmas.List.{ext_get_or, get_or-take}
use Rattle.field_base.specs.Field.{IsField}
use Rattle.field_base.specs.Powers.{power}
use Rattle.field_slices.specs.Marks.{marked_below}
use Rattle.field_slices.proofs.Counting.{total-same}
use Rattle.error_codes.specs.Checks.{IsSent}
use Rattle.error_codes.specs.Correcting.{HasRoots, IsMeantIn, code_value, is_listed}
use Rattle.error_codes.specs.Filling.{falling_point, falling_scale}
use Rattle.error_codes.specs.Words.{is_wrong}
use Rattle.error_codes.proofs.CodeValues.{syndrome-value}

-- equal marks are equally many
pub marks-same : (a b : ℕ → Bool) (n : ℕ) → ((i : ℕ) → i < n → a i ≡ b i) → marked_below a n ≡ marked_below b n
marks-same a b n same =
    total-same (λ p. cond (a p) (suc zero) zero) (λ p. cond (b p) (suc zero) zero) n
    (λ p below. ap (λ (m : Bool). cond m (suc zero) zero) (same p below))

module _ (width : ℕ) (times : ℕ → ℕ → ℕ) (wide : 0 < width) (field : IsField width times) (root first n checks : ℕ) (received erasures : List ℕ)
    (erased : ℕ → Bool) (erased_are : (i : ℕ) → i < n → erased i ≡ is_listed erasures i)
    (most : ℕ) (most_is : most ≡ (checks - marked_below erased n) / 2) where
  erased-same : marked_below erased n ≡ marked_below (is_listed erasures) n
  erased-same = marks-same erased (is_listed erasures) n erased_are

  wrong-same : (word : ℕ → ℕ)
      → marked_below (is_wrong (λ i. i) (slice_index received) erased word) n
      ≡ marked_below (is_wrong (λ i. i) (slice_index received) (is_listed erasures) word) n
  wrong-same word =
      marks-same (is_wrong (λ i. i) (slice_index received) erased word)
      (is_wrong (λ i. i) (slice_index received) (is_listed erasures) word) n
      (λ i below. ap (λ (b : Bool). not b && not (nat_eq (slice_index received i) (word i))) (erased_are i below))

  pub meant-sent : (sent : List ℕ) → IsMeantIn width times root first n checks received erasures sent
      → IsSent width times checks n most (falling_point times root n) (falling_scale times root first n)
      (slice_index received) erased (slice_index sent)
  meant-sent sent meant = record {
    checked = record {
      symbols = meant.symbols;
      sums = λ m below.
          syndrome-value width times wide field n root first m (slice_index sent)
          ∙ ap (λ (k : ℕ). code_value times k (slice_index sent) (power 1 times root (first + m))) (sym meant.count)
          ∙ meant.roots m below;
    };
    few_wrong =
        let near = meant.near in
        omega (arith, near, most_is, erased-same, wrong-same (slice_index sent));
  }

  -- few are erased where a word is meant
  pub meant-few : (sent : List ℕ) → IsMeantIn width times root first n checks received erasures sent
      → marked_below erased n ≤ checks
  meant-few sent meant = let near = meant.near in omega (arith, near, erased-same)

  module _ (fixed : List ℕ) (whole : length (take n fixed) ≡ n) where
    wrong-taken : marked_below (is_wrong (λ i. i) (slice_index received) (is_listed erasures)
        (slice_index (take n fixed))) n
        ≡ marked_below (is_wrong (λ i. i) (slice_index received) erased (slice_index fixed)) n
    wrong-taken =
        marks-same (is_wrong (λ i. i) (slice_index received) (is_listed erasures) (slice_index (take n fixed)))
        (is_wrong (λ i. i) (slice_index received) (is_listed erasures) (slice_index fixed)) n
        (λ i below.
        ap (λ (v : ℕ). not (is_listed erasures i) && not (nat_eq (slice_index received i) v))
        (get_or-take n fixed i 0 below))
        ∙ sym (wrong-same (slice_index fixed))

    -- a code word within so many errors is meant
    pub accepted-meant : ((i : ℕ) → i < n → slice_index fixed i < 2 ^ width) → marked_below erased n ≤ checks
        → HasRoots times root first checks (take n fixed)
        → marked_below (is_wrong (λ i. i) (slice_index received) erased (slice_index fixed)) n ≤ most
        → IsMeantIn width times root first n checks received erasures (take n fixed)
    accepted-meant fits few roots near = record {
      count = whole;
      symbols = λ i below. subst (λ (v : ℕ). v < 2 ^ width) (sym (get_or-take n fixed i 0 below)) (fits i below);
      roots = roots;
      near = omega (arith, near, few, most_is, erased-same, wrong-taken);
    }

    -- the word that is meant is what was found
    pub meant-taken : (sent : List ℕ) → IsMeantIn width times root first n checks received erasures sent
        → ((i : ℕ) → i < n → slice_index fixed i ≡ slice_index sent i) → take n fixed ≡ sent
    meant-taken sent meant same =
        let count = meant.count in
        ext_get_or 0 (take n fixed) sent (whole ∙ sym count)
        (λ i below.
        get_or-take n fixed i 0 (omega (arith, below, whole)) ∙ same i (omega (arith, below, whole)))

    -- and is accepted
    pub meant-accepted : (sent : List ℕ) → IsMeantIn width times root first n checks received erasures sent
        → ((i : ℕ) → i < n → slice_index fixed i ≡ slice_index sent i)
        → HasRoots times root first checks (take n fixed)
        × (marked_below (is_wrong (λ i. i) (slice_index received) erased (slice_index fixed)) n ≤ most)
    meant-accepted sent meant same =
        let is = meant-taken sent meant same in
        let sent_is = meant-sent sent meant in
        let few = sent_is.few_wrong in (
          subst (λ (w : List ℕ). HasRoots times root first checks w) (sym is) meant.roots,
          (let equal = marks-same (is_wrong (λ i. i) (slice_index received) erased (slice_index fixed))
              (is_wrong (λ i. i) (slice_index received) erased (slice_index sent)) n
              (λ i below. ap (λ (v : ℕ). not (erased i) && not (nat_eq (slice_index received i) v)) (same i below)) in
              omega (arith, equal, few)),
        )

-- the places that differ, but for the erased, are the wrong ones
pub wrong-counted : (word fixed : ℕ → ℕ) (erased changed : ℕ → Bool) (n : ℕ)
    → ((i : ℕ) → i < n → changed i ≡ not (nat_eq (word i) (fixed i)))
    → marked_below (λ i. not (erased i) && changed i) n ≡ marked_below (is_wrong (λ i. i) word erased fixed) n
wrong-counted word fixed erased changed n are =
    marks-same (λ i. not (erased i) && changed i) (is_wrong (λ i. i) word erased fixed) n
    (λ i below. ap (λ (b : Bool). not (erased i) && b) (are i below))

-- ---- results

pub on-ok : {A E : Type 0} (P : Type 0) (r : Result A E) → IsOk r → OnOk r P → P
on-ok P (Ok x) is holds = holds
on-ok P (Err e) is holds = let none : false ≡ true = is in absurd (cc)

pub on-ok-then : {A E : Type 0} (P Q : Type 0) (r : Result A E) → (IsOk r → P → Q) → OnOk r P → OnOk r Q
on-ok-then P Q (Ok x) step holds = step refl holds
on-ok-then P Q (Err e) step holds = tt
