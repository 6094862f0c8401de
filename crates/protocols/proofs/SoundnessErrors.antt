-- How many lists of challenges save a false claim, and how many places a row that is wrong agrees at.
use Rattle.std.proofs.Common.{◌≡◌, ◌≢◌, ◌⊎◌, inl, inr, ℕ, zero, suc, ◌+◌, ◌*◌, ◌^◌, ◌<◌, ◌≤◌, Bool, true, false, cond, List, [], ◌∷◌, length, take, refl, sym, ◌∙◌, ap, subst, le_trans, arith, eq-eqb, eqb-true}
use Rattle.std.specs.Prelude.{nat_eq, slice_index}
use Rattle.std.proofs.Math.Nat.{mul-le-mul_left}
use Rattle.std.proofs.lemmas.Bool.{cases_lt}
use Rattle.std.proofs.lemmas.Bool.Decides.{eqb_tells}
use Rattle.std.proofs.lemmas.List.{get_or-take}
use Rattle.field_base.specs.Field.{IsField}
use Rattle.field_base.specs.Orders.{AreCantorVectors}
use Rattle.field_slices.specs.Multilinear.{folded, folded_all}
use Rattle.field_slices.specs.Blocks.{blocks_unmarked}
use Rattle.field_slices.specs.Marks.{marked_below}
use Rattle.field_slices.specs.Openings.{AreNumbersBelow, misses, sum_lists}
use Rattle.field_slices.proofs.Blocks.{blocks-free}
use Rattle.field_slices.proofs.Counts.{enumerated, few-lists, lists-imply, lists-some}
use Rattle.sum_checks.specs.SumcheckClaims.{IsClaimShape, message_at, reduced_claim}
use Rattle.sum_checks.specs.Terms.{Product, cube_sum, honest_at, terms_value}
use Rattle.sum_checks.proofs.Rows.{cube_sum-none}
use Rattle.sum_checks.proofs.Soundness.{at-point, false-differs, few_challenges_save, message-lt, shape-folded}
use Rattle.protocols.specs.CodeWords.{IsCodeWordOf}
use Rattle.protocols.specs.OpenedTables.{AreColumnsOf, column_symbol}
use Rattle.protocols.specs.SoundnessErrors.{FewRunsSave, SendsMessages, sent_messages}
use Rattle.protocols.specs.Tables.{AgreesAt}
use Rattle.protocols.proofs.OpenedTables.{agreed-unmissed}
use Rattle.protocols.proofs.Words.{parts_determine}

-- ---- lists of challenges

pub at-most-one : (b : Bool) → cond b 1 0 ≤ 1
at-most-one true = omega arith
at-most-one false = omega arith

not-equal : (a b : ℕ) → nat_eq a b ≡ false → a ≢ b
not-equal a b is same = let no : true ≡ false = sym (eq-eqb a b same) ∙ is in absurd (cc)

module _ (width : ℕ) (times : ℕ → ℕ → ℕ) (terms : List Product) (count d : ℕ) where
  -- whether messages lead a claim to the value of the terms at the challenges
  abbrev reaches : ℕ → List ℕ → (List ℕ → List ℕ) → List ℕ → Bool
  reaches claim values prover challenges =
      nat_eq (reduced_claim width times claim (sent_messages prover challenges) challenges)
      (terms_value times terms (slice_index (folded_all times challenges values)))

  few-runs : (n claim : ℕ) (values : List ℕ) (prover : List ℕ → List ℕ) → IsClaimShape width times terms count d n values → claim < 2 ^ width
      → SendsMessages width d prover → claim ≢ cube_sum times terms count n values
      → 2 ^ width * sum_lists n (2 ^ width) (λ challenges. cond (reaches claim values prover challenges) 1 0) ≤ n * d * (2 ^ width) ^ n
  unfolding sum_lists reduced_claim folded_all sent_messages
  few-runs zero claim values prover shape fits sends wrong = at (eqb_tells claim (terms_value times terms (slice_index values)))
    where
      at : ((nat_eq claim (terms_value times terms (slice_index values)) ≡ true) × (claim ≡ terms_value times terms (slice_index values)))
          ⊎ ((nat_eq claim (terms_value times terms (slice_index values)) ≡ false) × (claim ≢ terms_value times terms (slice_index values)))
          → 2 ^ width * cond (nat_eq claim (terms_value times terms (slice_index values))) 1 0 ≤ 0 * d * (2 ^ width) ^ 0
      at (inl same) =
          absurd (wrong (same.1 ∙ sym (cube_sum-none width times shape.summed.field.ring shape.summed.wide terms count shape.summed.within values)))
      at (inr other) = subst (λ (b : Bool). 2 ^ width * cond b 1 0 ≤ 0 * d * (2 ^ width) ^ 0) (sym other.0) (omega arith)
  few-runs (suc n) claim values prover shape fits sends wrong =
      few-lists (2 ^ width) n d (λ challenges. cond (reaches claim values prover challenges) 1 0) agrees
      (λ challenges. at-most-one (reaches claim values prover challenges)) few
      (λ r is. few-runs n (message_at width times claim (prover []) r) (folded times r values) (λ past. prover (r ∷ past)) (shape-folded width times terms count d n r values shape)
      (message-lt width times shape.summed.field shape.summed.wide d shape.summed.some shape.summed.nodes claim (prover []) (sends []).0 fits
      (sends []).1 r) (λ past. sends (r ∷ past))
      (not-equal (message_at width times claim (prover []) r) (honest_at times terms count n values r) is))
    where
      agrees : ℕ → Bool
      agrees r = nat_eq (message_at width times claim (prover []) r) (honest_at times terms count n values r)

      few : marked_below agrees (2 ^ width) ≤ d
      few =
          let numbered = enumerated agrees (2 ^ width) in
          let differs = false-differs width times terms count d n values shape claim (prover []) fits (sends []).0 (sends []).1 wrong in
          few_challenges_save width times terms count d n claim values (prover []) shape (sends []).0 differs.0 differs.1
          (marked_below agrees (2 ^ width)) numbered.0 (record { below = λ i below. (numbered.1 i below).0; differ = numbered.2 })
          (λ i below. eqb-true (message_at width times claim (prover []) (numbered.0 i)) (honest_at times terms count n values (numbered.0 i))
          (numbered.1 i below).1)

pub few_runs_save : FewRunsSave
few_runs_save width times terms count d n claim values prover shape fits sends wrong saved leads =
    le_trans
    (mul-le-mul_left (2 ^ width)
    (lists-imply n (2 ^ width) saved (reaches width times terms count d claim values prover)
    (λ challenges are is.
    eq-eqb (reduced_claim width times claim (sent_messages prover challenges) challenges)
    (terms_value times terms (slice_index (folded_all times challenges values)))
    (leads challenges are.count is
    ∙ sym (at-point width times terms count d values challenges
    (subst (λ (m : ℕ). IsClaimShape width times terms count d m values) (sym are.count) shape))))))
    (few-runs width times terms count d n claim values prover shape fits sends wrong)

-- ---- lists of places

-- There are numbers of places for which a row is accepted, and its code word misses the columns' values at the point at e places or fewer.
pub record MissesFew (width : ℕ) (times : ℕ → ℕ → ℕ) (vector : ℕ → ℕ) (k r e q block : ℕ) (column : ℕ → List ℕ) (point row : List ℕ)
    (accepted : List ℕ → Bool) : Type 0 where
  pub numbers : List ℕ
  pub are : AreNumbersBelow q block numbers
  pub holds : accepted numbers ≡ true
  pub word : List ℕ
  pub code_word : IsCodeWordOf width times vector k r word
  pub begins : take (2 ^ k) word ≡ row
  pub few : marked_below (misses times (length point) (column_symbol column) point (slice_index word)) (2 ^ r * 2 ^ k) ≤ e

module _ (width : ℕ) (times : ℕ → ℕ → ℕ) (vector : ℕ → ℕ) (wide : 0 < width) (field : IsField width times)
    (vectors : AreCantorVectors width times vector) (fit : (b : ℕ) → b < width → vector b < 2 ^ width) (k r : ℕ) (points : r + k ≤ width)
    (some : 2 ^ k ≤ 2 ^ r * 2 ^ k) where
  -- a row has one code word
  word-one : (row one other : List ℕ) → IsCodeWordOf width times vector k r one → IsCodeWordOf width times vector k r other
      → take (2 ^ k) one ≡ row → take (2 ^ k) other ≡ row → one ≡ other
  word-one row one other one_word other_word one_begins other_begins =
      parts_determine width times vector wide field vectors fit k r one other (λ i. i) points one_word other_word
      (record { below = λ i below. le_trans below some; differ = λ i j i_below j_below same. same })
      (λ i below.
      sym (get_or-take (2 ^ k) one i 0 below) ∙ ap (λ l. slice_index l i) (one_begins ∙ sym other_begins) ∙ get_or-take (2 ^ k) other i 0 below)

  -- Of lists of numbers, one for each of q blocks, few let a row agree with columns, whatever these are, or the row misses few of their
  -- values at the point. `weight` times the lists that miss more than e places are at most `most`.
  pub seldom-or-near : (e q block weight most : ℕ) (places : List ℕ → List ℕ)
      → ((numbers : List ℕ) → AreNumbersBelow q block numbers → (length (places numbers) ≡ length numbers)
      × ((i : ℕ) → i < length numbers → slice_index (places numbers) i ≡ i * block + slice_index numbers i))
      → ((marked : ℕ → Bool) → e < marked_below marked (2 ^ r * 2 ^ k)
      → weight * sum_lists q block (λ numbers. cond (blocks_unmarked block marked 0 numbers) 1 0) ≤ most)
      → (column : ℕ → List ℕ) (point row : List ℕ) → AreColumnsOf width (2 ^ r * 2 ^ k) column
      → (accepted : List ℕ → Bool)
      → ((numbers : List ℕ) → AreNumbersBelow q block numbers → accepted numbers ≡ true
      → AgreesAt width times vector k r point row (places numbers) (λ i. column (slice_index (places numbers) i)))
      → (weight * sum_lists q block (λ numbers. cond (accepted numbers) 1 0) ≤ most)
      ⊎ MissesFew width times vector k r e q block column point row accepted
  seldom-or-near e q block weight most places placed few column point row fits accepted agrees =
      found (lists-some q block (λ numbers. cond (accepted numbers) 1 0))
    where
      given : (b : Bool) → 0 < cond b 1 0 → b ≡ true
      given true some_is = refl
      given false some_is = absurd (omega (arith, some_is))

      found : (sum_lists q block (λ numbers. cond (accepted numbers) 1 0) ≡ 0)
          ⊎ ((numbers : List ℕ) × AreNumbersBelow q block numbers × (0 < cond (accepted numbers) 1 0))
          → (weight * sum_lists q block (λ numbers. cond (accepted numbers) 1 0) ≤ most)
          ⊎ MissesFew width times vector k r e q block column point row accepted
      found (inl none) = inl (subst (λ (m : ℕ). weight * m ≤ most) (sym none) (omega arith))
      found (inr one) = pick (cases_lt e (marked_below missed (2 ^ r * 2 ^ k)))
        where
          first : AgreesAt width times vector k r point row (places one.0) (λ i. column (slice_index (places one.0) i))
          first = agrees one.0 one.1 (given (accepted one.0) one.2)

          missed : ℕ → Bool
          missed = misses times (length point) (column_symbol column) point (slice_index first.word)

          free : (numbers : List ℕ) → AreNumbersBelow q block numbers → accepted numbers ≡ true → blocks_unmarked block missed 0 numbers ≡ true
          free numbers are is =
              let agreed = agrees numbers are is in
              let where_is = placed numbers are in
              blocks-free block missed 0 numbers
              (λ j below.
              let here : (0 + j) * block + slice_index numbers j ≡ slice_index (places numbers) j = let at = where_is.1 j below in omega (arith, at) in
              ap missed here
              ∙ ap (λ w. misses times (length point) (column_symbol column) point (slice_index w) (slice_index (places numbers) j))
              (word-one row first.word agreed.word first.code_word agreed.code_word first.begins agreed.begins)
              ∙ agreed-unmissed width times vector field k r column point row (places numbers) fits agreed j
              (let long = where_is.0 in omega (arith, below, long)))

          pick : (e < marked_below missed (2 ^ r * 2 ^ k)) ⊎ (marked_below missed (2 ^ r * 2 ^ k) ≤ e)
              → (weight * sum_lists q block (λ numbers. cond (accepted numbers) 1 0) ≤ most)
              ⊎ MissesFew width times vector k r e q block column point row accepted
          pick (inr little) =
              inr (record {
                numbers = one.0;
                are = one.1;
                holds = given (accepted one.0) one.2;
                word = first.word;
                code_word = first.code_word;
                begins = first.begins;
                few = little;
              })
          pick (inl many) =
              inl (le_trans
              (mul-le-mul_left weight (lists-imply q block accepted (λ numbers. blocks_unmarked block missed 0 numbers) free)) (few missed many))
