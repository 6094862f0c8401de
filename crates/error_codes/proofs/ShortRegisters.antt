-- The locator of the wrong places, from its end, is a register of the syndromes.
use Rattle.std.proofs.Common.{◌≡◌, ℕ, zero, suc, ◌+◌, ◌-◌, ◌%◌, ◌^◌, ◌<◌, ◌≤◌, List, Bool, refl, sym, ◌∙◌, ap, subst}
use Rattle.std.proofs.Common.{arith}
use Rattle.std.specs.Prelude.{slice_index}
use Rattle.field_base.specs.Basis.{sum_below}
use Rattle.field_base.proofs.RingLemmas.{times-mod, times-zero}
use Rattle.error_codes.specs.Checks.{key_sum, syndrome}
use Rattle.error_codes.specs.Euclid.{HasTop}
use Rattle.field_slices.specs.Marks.{marked_below}
use Rattle.error_codes.specs.Registers.{IsRegister, RegistersAreShort}
use Rattle.error_codes.specs.Words.{is_wrong}
use Rattle.error_codes.proofs.Erasures.{sent-sums}
use Rattle.error_codes.proofs.Euclid.{locator-top}
use Rattle.error_codes.proofs.Moments.{sum-same, sum-times}
use Rattle.error_codes.proofs.Products.{locator}
use Rattle.error_codes.proofs.Registers.{sum-reversed}

-- the first v + 1 numbers from their end, and 0
unfoldable from_end : List ℕ → ℕ → ℕ → ℕ
from_end cs v zero = slice_index cs v
from_end cs zero (suc i) = 0
from_end cs (suc v) (suc i) = from_end cs v i

from-end-is : (cs : List ℕ) (v i : ℕ) → i ≤ v → from_end cs v i ≡ slice_index cs (v - i)
unfolding from_end
from-end-is cs v zero most = ap (slice_index cs) (whole v)
  where
    whole : (a : ℕ) → a ≡ a - zero
    whole a = omega arith
from-end-is cs zero (suc i) most = absurd (omega (arith, most))
from-end-is cs (suc v) (suc i) most = from-end-is cs v i (omega (arith, most)) ∙ ap (slice_index cs) (both v i)
  where
    both : (a b : ℕ) → a - b ≡ suc a - suc b
    both a b = omega arith

from-end-none : (cs : List ℕ) (v i : ℕ) → v < i → from_end cs v i ≡ 0
unfolding from_end
from-end-none cs v zero above = absurd (omega (arith, above))
from-end-none cs zero (suc i) above = refl
from-end-none cs (suc v) (suc i) above = from-end-none cs v i (omega (arith, above))

pub registers_are_short : RegistersAreShort
registers_are_short width times wide field checks n e t point scale word erased scaled gamma gamma_count gamma_zero c
    sent L l d places shortest =
    let few = sent.few_wrong in let least = shortest.least v found register in omega (arith, few, least)
  where
    wrong : ℕ → Bool
    wrong = is_wrong (λ i. i) word erased c

    v : ℕ
    v = marked_below wrong n

    has : HasTop width times (marked_below (is_wrong (λ i. i) word erased c) n)
        (locator width times wide field point (is_wrong (λ i. i) word erased c) n)
    has = locator-top width times wide field point (is_wrong (λ i. i) word erased c) n

    top : ℕ
    top = slice_index has.coefficients (marked_below (is_wrong (λ i. i) word erased c) n)

    fits : top % 2 ^ width < 2 ^ width
    fits = subst (λ (r : ℕ). r < 2 ^ width) (field.ring.one top) (field.ring.below 1 top)

    inverse : (i : ℕ) × (i < 2 ^ width) × (times (top % 2 ^ width) i ≡ 1)
    inverse = field.inverses (top % 2 ^ width) fits has.top

    found : ℕ → ℕ
    found i = times inverse.0 (from_end has.coefficients v i)

    entry : ℕ → ℕ
    entry = key_sum times gamma (syndrome times n point scale word)

    register : IsRegister times entry v l found
    register = record {
      first =
          ap (times inverse.0) (from-end-is has.coefficients v 0 (omega arith)
          ∙ ap (slice_index has.coefficients) (whole v))
          ∙ sym (times-mod width 1 times field.ring inverse.0 top) ∙ field.ring.comm inverse.0 (top % 2 ^ width)
          ∙ inverse.2;
      short = λ i above. ap (times inverse.0) (from-end-none has.coefficients v i above)
          ∙ times-zero width 1 times field.ring inverse.0;
      sums = λ p most below.
          sum-same (λ i. times (found i) (entry (p - i))) (λ i. times inverse.0
          (times (slice_index has.coefficients (v - i)) (entry (p - i)))) (suc v)
          (λ i inside.
          field.ring.assoc inverse.0 (from_end has.coefficients v i) (entry (p - i))
          ∙ ap (λ (z : ℕ). times inverse.0 (times z (entry (p - i))))
          (from-end-is has.coefficients v i (omega (arith, inside))))
          ∙ sum-times width times wide field inverse.0 (λ i. times (slice_index has.coefficients (v - i))
          (entry (p - i))) (suc v)
          ∙ ap (times inverse.0)
          (sum-same (λ i. times (slice_index has.coefficients (v - i)) (entry (p - i)))
          (λ i. times (slice_index has.coefficients (v - i)) (entry (p - v + (v - i)))) (suc v)
          (λ i inside. ap (λ (q : ℕ). times (slice_index has.coefficients (v - i)) (entry q))
          (placed p i most (omega (arith, inside))))
          ∙ sym (sum-reversed v (λ j. times (slice_index has.coefficients j) (entry (p - v + j))))
          ∙ ap (sum_below (λ j. times (slice_index has.coefficients j) (entry (p - v + j)))) (sym has.count)
          ∙ sent-sums width times wide field checks n e t point scale word erased scaled gamma gamma_count gamma_zero c
          sent v has.coefficients has.count
          has.values (p - v) (omega (arith, most, below, places)))
          ∙ times-zero width 1 times field.ring inverse.0;
    }
      where
        whole : (a : ℕ) → a - 0 ≡ a
        whole a = omega arith

        placed : (p i : ℕ) → v ≤ p → i ≤ v → p - i ≡ p - v + (v - i)
        placed p i most inside = omega (arith, most, inside)
