-- What the steps of the decoder have found of a word that is meant, as they have it in lists.
use Rattle.std.proofs.Common.{◌≡◌, ℕ, ◌+◌, ◌*◌, ◌^◌, ◌<◌, ◌≤◌, List, Bool, false, sym, ◌∙◌, ap, arith}
use Rattle.std.specs.Prelude.{nat_eq, not, ◌||◌, ◌&&◌}
use Rattle.field_base.specs.Field.{IsField}
use Rattle.field_slices.specs.Marks.{marked_below}
use Rattle.error_codes.specs.Checks.{AreScaled, IsSent}
use Rattle.error_codes.specs.Correcting.{code_value}
use Rattle.error_codes.specs.Filling.{is_marked, is_other, marked_product, weighted_sum}
use Rattle.error_codes.specs.Registers.{IsShortest}
use Rattle.error_codes.specs.Words.{is_wrong}
use Rattle.error_codes.proofs.Marking.{other-all}
use Rattle.error_codes.proofs.Meanings.{marks-same}
use Rattle.error_codes.proofs.Suspects.{others-right, register-short, suspects-few}

-- no place is left out of the erased ones
pub all-marked : (marks : List Bool) (n : ℕ)
    → marked_below (is_other marks n) n ≡ marked_below (is_marked marks) n
all-marked marks n = marks-same (is_other marks n) (is_marked marks) n (other-all marks n)

module _ (width : ℕ) (times : ℕ → ℕ → ℕ) (wide : 0 < width) (field : IsField width times) (n checks most : ℕ) (point scale : ℕ → ℕ)
    (scaled : AreScaled width n point scale) (word : ℕ → ℕ) (fits : (i : ℕ) → i < n → word i < 2 ^ width)
    (marks : List Bool) (few : 2 * most + marked_below (is_marked marks) n ≤ checks) (checks_below : checks < n)
    (sums : ℕ → ℕ) (left : ℕ) (left_is : left + marked_below (is_other marks n) n ≡ checks)
    (sums_are : (m : ℕ) → m < left → sums m
    ≡ weighted_sum times n point (λ i. times (scale i) (word i)) (marked_product times point (is_other marks n) n) m)
    (size : ℕ) (c : ℕ → ℕ) (shortest : IsShortest times sums size left c) (sent : ℕ → ℕ)
    (is_sent : IsSent width times checks n most point scale word (is_marked marks) sent) where
  few-other : 2 * most + marked_below (is_other marks n) n ≤ checks
  few-other = let same = all-marked marks n in omega (arith, same, few)

  sent-other : IsSent width times checks n most point scale word (is_other marks n) sent
  sent-other = record {
    checked = is_sent.checked;
    few_wrong =
        let same = marks-same (is_wrong (λ i. i) word (is_other marks n) sent)
        (is_wrong (λ i. i) word (is_marked marks) sent) n
        (λ i below. ap (λ (b : Bool). not b && not (nat_eq (word i) (sent i))) (other-all marks n i below)) in
        let wrong = is_sent.few_wrong in
        omega (arith, same, wrong);
  }

  -- the register is short
  pub register-fits : size ≤ most
  register-fits =
      register-short width times wide field checks n most point scale word (is_other marks n) scaled fits few-other
      checks_below sent sent-other sums left left_is sums_are size c shortest

  module _ (suspected : List Bool)
      (are : (i : ℕ) → i < n → is_marked suspected i
      ≡ (is_marked marks i || nat_eq (code_value times (size + 1) c (point i)) 0)) where
    as-other : (i : ℕ) → i < n → is_marked suspected i
        ≡ (is_other marks n i || nat_eq (code_value times (size + 1) c (point i)) 0)
    as-other i below =
        are i below
        ∙ ap (λ (b : Bool). b || nat_eq (code_value times (size + 1) c (point i)) 0) (sym (other-all marks n i below))

    -- few places are suspected
    pub suspected-fit : marked_below (is_marked suspected) n ≤ checks
    suspected-fit =
        suspects-few width times wide field checks n most point scale word (is_other marks n) scaled fits few-other
        checks_below sent sent-other sums left left_is sums_are size c shortest (is_marked suspected) as-other

    -- and all others are right
    pub trusted-right : (i : ℕ) → i < n → is_marked suspected i ≡ false → word i ≡ sent i
    trusted-right =
        others-right width times wide field checks n most point scale word (is_other marks n) scaled fits few-other
        checks_below sent sent-other sums left left_is sums_are size c shortest (is_marked suspected) as-other
