-- A sample grows with the flags that are read.
use Rattle.std.proofs.Common.{◌≡◌, inl, inr, ℕ, ◌+◌, ◌<◌, ◌≤◌, Bool, true, false, List, length, get_or, set, take, refl, sym, ◌∙◌, ap, subst, arith}
use Rattle.std.proofs.lemmas.Bool.{true≢false}
use Rattle.std.proofs.lemmas.Bool.Decides.{eqb_tells}
use Rattle.std.proofs.lemmas.List.{get_or-set_same, get_or-set_other}
use Rattle.std.proofs.lemmas.List.Sums.{count_by_more_yes, count_by_more_no}
use Rattle.field_base.specs.PolynomialRoots.{AreDistinctBelow}
use Rattle.reed_solomon.specs.Shards.{IsAmongFirst, IsPresent, present_count}
use Rattle.reed_solomon.specs.Samples.{IsSample}

-- what holds below n and at n holds below n + 1
pub below_next : (P : ℕ → Type 0) (n j : ℕ) → j < n + 1 → (j < n → P j) → P n → P j
below_next P n j below before last =
    elim (eqb_tells j n) [
      | inl same ↦ subst P (sym same.1) last
      | inr other ↦ before (earlier n j below other.1)
    ]
  where
    earlier : (n j : ℕ) → j < n + 1 → (j ≡ n → ⊥) → j < n
    earlier n j below different = omega (arith, below, different)

-- no flag was read yet
pub no_sample : (k : ℕ) (present : List Bool) (places : List ℕ) → IsSample k present 0 places 0
no_sample k present places =
    record {
      inside = λ j below. absurd (omega (arith, below));
      is_present = λ j below. absurd (omega (arith, below));
      number = λ j below. absurd (omega (arith, below));
      covers = λ i below first. absurd (omega (arith, below));
      at_most = omega arith;
      counted = omega arith;
      is_all = λ few. refl;
    }

module _ (k : ℕ) (present : List Bool) (i : ℕ) (places : List ℕ) (count : ℕ) (sample : IsSample k present i places count)
    (within : i < length present) where
  -- the shard is not one of the first k
  sample_kept : (IsAmongFirst k present i → ⊥) → count ≤ present_count (take (i + 1) present)
      → (count < k → count ≡ present_count (take (i + 1) present)) → IsSample k present (i + 1) places count
  sample_kept other counted is_all =
      record {
        inside = λ j below. let was = sample.inside j below in omega (arith, was);
        is_present = sample.is_present;
        number = sample.number;
        covers = λ place below.
            below_next (λ p. IsAmongFirst k present p → (present_count (take p present) < count) × (get_or places (present_count (take p present)) 0 ≡ p))
            i place below (sample.covers place) (λ first. absurd (other first));
        at_most = sample.at_most;
        counted = counted;
        is_all = is_all;
      }

  -- the shard is missing
  pub sample-absent : get_or present i false ≡ false → IsSample k present (i + 1) places count
  sample-absent absent =
      let same = count_by_more_no (λ is_present. is_present) present i false within absent in
      sample_kept (λ first. absurd (true≢false (sym first.0 ∙ absent))) (subst (λ (n : ℕ). count ≤ n) (sym same) sample.counted)
      (λ few. sample.is_all few ∙ sym same)

  -- the shard is at hand, but there are k of them already
  pub sample-full : get_or present i false ≡ true → k ≤ count → IsSample k present (i + 1) places count
  sample-full here full =
      let more = count_by_more_yes (λ is_present. is_present) present i false within here in
      let counted = sample.counted in
      sample_kept (λ first. let few = first.1 in absurd (omega (arith, few, full, counted))) (omega (arith, counted, more))
      (λ few. absurd (omega (arith, few, full)))

  -- the shard is taken
  pub sample-taken : get_or present i false ≡ true → count < k → count < length places
      → IsSample k present (i + 1) (set places count i) (count + 1)
  sample-taken here room long =
      let more = count_by_more_yes (λ is_present. is_present) present i false within here in
      let counted = sample.counted in
      let so_far : count ≡ present_count (take i present) = sample.is_all room in
      let newest : get_or (set places count i) count 0 ≡ i = get_or-set_same places count i 0 long in
      let older : (j : ℕ) → j < count → get_or (set places count i) j 0 ≡ get_or places j 0 =
      λ j below. get_or-set_other places count j i 0 (λ e. absurd (omega (arith, below, e))) in
      record {
        inside = λ j below.
            below_next (λ n. get_or (set places count i) n 0 < i + 1) count j below
            (λ was. let place = sample.inside j was in let same = older j was in omega (arith, place, same)) (omega (arith, newest));
        is_present = λ j below.
            below_next (λ n. IsPresent present (get_or (set places count i) n 0)) count j below
            (λ was. subst (IsPresent present) (sym (older j was)) (sample.is_present j was)) (subst (IsPresent present) (sym newest) here);
        number = λ j below.
            below_next (λ n. present_count (take (get_or (set places count i) n 0) present) ≡ n) count j below
            (λ was. ap (λ (p : ℕ). present_count (take p present)) (older j was) ∙ sample.number j was)
            (ap (λ (p : ℕ). present_count (take p present)) newest ∙ sym so_far);
        covers = λ place below.
            below_next
            (λ p. IsAmongFirst k present p
            → (present_count (take p present) < count + 1) × (get_or (set places count i) (present_count (take p present)) 0 ≡ p))
            i place below
            (λ was first.
            let found = sample.covers place was first in
            let low = found.0 in
            (omega (arith, low), older (present_count (take place present)) low ∙ found.1))
            (λ first. (omega (arith, so_far), ap (λ (n : ℕ). get_or (set places count i) n 0) (sym so_far) ∙ newest));
        at_most = omega (arith, room);
        counted = omega (arith, counted, more);
        is_all = λ few. omega (arith, so_far, more);
      }

-- the places of a sample differ, since each has its own number of shards before it
pub sample_distinct : (k : ℕ) (present : List Bool) (seen : ℕ) (places : List ℕ) (count bound : ℕ) → IsSample k present seen places count
    → seen ≤ bound → AreDistinctBelow count bound (λ i. get_or places i 0)
sample_distinct k present seen places count bound sample most =
    record {
      below = λ i inside. let place = sample.inside i inside in omega (arith, place, most);
      differ = λ i j i_below j_below same.
          sym (sample.number i i_below) ∙ ap (λ (p : ℕ). present_count (take p present)) same ∙ sample.number j j_below;
    }
