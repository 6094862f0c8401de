-- The reverse of a shift register of syndromes is a solution.
use Rattle.std.proofs.Common.{◌≡◌, ℕ, zero, suc, ◌+◌, ◌-◌, ◌%◌, ◌^◌, ◌≤◌, sym, ◌∙◌, ap, ap₂, arith}
use Rattle.std.specs.Prelude.{bit_xor, slice_index}
use Rattle.std.proofs.lemmas.Nat.{xor_comm}
use Rattle.field_base.specs.Basis.{sum_below}
use Rattle.error_codes.specs.Checks.{RegistersSolve, syndrome}
use Rattle.error_codes.proofs.Moments.{sum-first, sum-same}

-- a sum from the end
pub sum-reversed : (s : ℕ) (f : ℕ → ℕ) → sum_below f (suc s) ≡ sum_below (λ i. f (s - i)) (suc s)
unfolding sum_below
sum-reversed zero f = ap (λ (k : ℕ). bit_xor 0 (f k)) (none 0 (omega arith))
  where
    none : (k : ℕ) → k ≡ zero - zero → zero ≡ zero - zero
    none k is = omega arith
sum-reversed (suc s) f =
    ap (λ (z : ℕ). bit_xor z (f (suc s))) (sum-reversed s f) ∙ xor_comm (sum_below (λ i. f (s - i)) (suc s)) (f (suc s))
    ∙ ap₂ bit_xor (ap f (whole (suc s)))
    (sum-same (λ i. f (s - i)) (λ i. f (suc s - suc i)) (suc s) (λ i below. ap f (both s i)))
    ∙ sym (sum-first (λ i. f (suc s - i)) (suc s))
  where
    whole : (a : ℕ) → a ≡ a - 0
    whole a = omega arith

    both : (a i : ℕ) → a - i ≡ suc a - suc i
    both a i = omega arith

pub registers_solve : RegistersSolve
registers_solve width times wide field checks s n point scale word erased register bottom nonzero register_count count
    reversed at_erased sums = record {
      count = count;
      nonzero = (
        s - nonzero.0,
        (let within = nonzero.1 in omega (arith, within, register_count, count)),
        λ none.
            nonzero.2
            (ap (λ (k : ℕ). slice_index register k % 2 ^ width) (let within = nonzero.1 in
            back nonzero.0 (omega (arith, within, register_count)))
            ∙ ap (λ (z : ℕ). z % 2 ^ width) (sym (reversed (s - nonzero.0) (omega arith))) ∙ none),
      );
      at_erased = at_erased;
      sums = λ m below.
          ap (sum_below (λ j. times (slice_index bottom j) (entry (m + j)))) (counted count)
          ∙ sum-same (λ j. times (slice_index bottom j) (entry (m + j)))
          (λ j. times (slice_index register (s - j)) (entry (m + s - (s - j)))) (suc s)
          (λ j inside. ap₂ times (reversed j (omega (arith, inside))) (ap entry (placed m j (omega (arith, inside)))))
          ∙ sym (sum-reversed s (λ i. times (slice_index register i) (entry (m + s - i))))
          ∙ ap (sum_below (λ i. times (slice_index register i) (entry (m + s - i)))) (more s)
          ∙ sums (m + s) (omega arith) below;
    }
  where
    entry : ℕ → ℕ
    entry = syndrome times n point scale word

    back : (i : ℕ) → i ≤ s → i ≡ s - (s - i)
    back i within = omega (arith, within)

    placed : (m j : ℕ) → j ≤ s → m + j ≡ m + s - (s - j)
    placed m j within = omega (arith, within)

    counted : {k : ℕ} → k ≡ s + 1 → k ≡ suc s
    counted is = omega (arith, is)

    more : (a : ℕ) → suc a ≡ a + 1
    more a = omega arith
