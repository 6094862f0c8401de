-- Rows of words that are multiplied by one factor, within a slice, and word by word.
use Rattle.std.proofs.Common.{◌≡◌, ◌≢◌, ◌⊎◌, inl, inr, ℕ, zero, suc, ◌+◌, ◌-◌, ◌*◌, ◌%◌, ◌^◌, ◌<◌, ◌≤◌, Bool, true, false, List, ◌++◌, length, get_or, map, set, sym, ◌∙◌, ap, subst, arith, below_more}
use Rattle.std.specs.Prelude.{bit_xor}
use Rattle.std.proofs.lemmas.Bool.{cases_eq, cases_lt}
use Rattle.std.proofs.Math.Nat.{mul-le-mul_left}
use Rattle.std.proofs.Math.Pow.{pow-lt}
use Rattle.std.proofs.lemmas.List.{get_or-append-add, get_or-map, get_or-set_other, get_or-set_same, get_or_append_left, get_or_past}
use Rattle.field_base.specs.Tower.{tower_mul}
use Rattle.field_base.proofs.RingLemmas.{times-mod}
use Rattle.field_base.proofs.TowerRing.{tower_ring}
use Rattle.additive_transforms.specs.Units.{FirstAre}
use Rattle.reed_solomon.specs.Blocks.{AreDifferences, AreInverted}
use Rattle.reed_solomon.specs.Columns.{ArePutProducts}

-- so many words in sixteen bytes have 2 ^ d bytes each
pub bytes_of_word : (words size d : ℕ) → words * 2 ^ size ≡ 16 → words * 2 ^ d ≡ 16 → size ≡ d
bytes_of_word words size d one other =
    elim (cases_lt size d) [
      | inl below ↦ absurd (fewer size d below one other)
      | inr past ↦ elim (cases_lt d size) [ inl above ↦ absurd (fewer d size above other one) | inr reached ↦ omega (arith, past, reached) ]
    ]
  where
    some : (w x : ℕ) → w * x ≡ 16 → 0 < w
    some zero x is = absurd (omega (arith, is))
    some (suc w) x is = omega arith

    fewer : (i j : ℕ) → i < j → words * 2 ^ i ≡ 16 → words * 2 ^ j ≡ 16 → ⊥
    fewer i j below one other =
        let most : words * (2 ^ i + 1) ≤ words * 2 ^ j = mul-le-mul_left words (omega (arith, pow-lt below)) in
        let more : words * (2 ^ i + 1) ≡ words * 2 ^ i + words = omega arith in
        omega (arith, one, other, most, more, some words (2 ^ i) one)

module _ {W : Type 0} (number : W → ℕ) (zero : W) (level factor : ℕ) where
  -- a row within a slice
  module _ (before behind : List W) where
    in_row : (row : List W) (c : ℕ) → c < length row → get_or (before ++ (row ++ behind)) (length before + c) zero ≡ get_or row c zero
    in_row row c below = get_or-append-add before (row ++ behind) c zero ∙ get_or_append_left row behind zero c below

    past_row : (row : List W) (d : ℕ) → get_or (before ++ (row ++ behind)) (length before + (length row + d)) zero ≡ get_or behind d zero
    past_row row d = get_or-append-add before (row ++ behind) (length row + d) zero ∙ get_or-append-add row behind d zero

    pub row_products : (row new : List W) → length new ≡ length row → ArePutProducts number zero level 0 (length row) factor row new
        → ArePutProducts number zero level (length before) (length row) factor (before ++ (row ++ behind)) (before ++ (new ++ behind))
    row_products row new same put =
        record {
          product = λ c below.
              let start : 0 + c ≡ c = omega arith in
              ap number (in_row new c (omega (arith, below, same)))
              ∙ subst (λ (p : ℕ). number (get_or new p zero) ≡ tower_mul level (number (get_or row p zero)) factor) start (put.product c below)
              ∙ ap (λ (w : W). tower_mul level (number w) factor) (sym (in_row row c below));
          kept = λ p side. apart p side;
        }
      where
        apart : (p : ℕ) → (p < length before) ⊎ (length before + length row ≤ p)
            → get_or (before ++ (new ++ behind)) p zero ≡ get_or (before ++ (row ++ behind)) p zero
        apart p (inl early) = get_or_append_left before (new ++ behind) zero p early ∙ sym (get_or_append_left before (row ++ behind) zero p early)
        apart p (inr late) =
            let d : ℕ = p - (length before + length row) in
            let place : length before + (length row + d) ≡ p = omega (arith, late) in
            let moved : p ≡ length before + (length new + d) = omega (arith, place, same) in
            ap (λ (s : ℕ). get_or (before ++ (new ++ behind)) s zero) moved ∙ past_row new d
            ∙ sym (past_row row d) ∙ ap (λ (s : ℕ). get_or (before ++ (row ++ behind)) s zero) place

  -- the first words are multiplied by the element of a factor
  pub first_products : ((x y : W) → number x ≡ number y → x ≡ y) → (n s : ℕ) (old new : List W) → s ≡ factor % 2 ^ 2 ^ level
      → length new ≡ length old → n ≤ length old
      → FirstAre n (λ k. tower_mul level s (get_or (map number old) k 0)) (map number old) (map number new)
      → ArePutProducts number zero level 0 n factor old new
  first_products same_law n s old new s_is long few are =
      record {
        product = λ c below.
            let start : c ≡ 0 + c = omega arith in
            let inside : c < length old = omega (arith, below, few) in
            subst (λ (p : ℕ). number (get_or new p zero) ≡ tower_mul level (number (get_or old p zero)) factor) start
            (sym (get_or-map number new c zero 0 (omega (arith, inside, long))) ∙ are.done c below
            ∙ ap (tower_mul level s) (get_or-map number old c zero 0 inside)
            ∙ (tower_ring level).comm s (number (get_or old c zero))
            ∙ ap (tower_mul level (number (get_or old c zero))) s_is
            ∙ times-mod (2 ^ level) 1 (tower_mul level) (tower_ring level) (number (get_or old c zero)) factor);
        kept = λ p side. rest p side (cases_lt p (length old));
      }
    where
      rest : (p : ℕ) → (p < 0) ⊎ (0 + n ≤ p) → (p < length old) ⊎ (length old ≤ p) → get_or new p zero ≡ get_or old p zero
      rest p (inl early) inside = absurd (omega (arith, early))
      rest p (inr late) (inl inside) =
          same_law (get_or new p zero) (get_or old p zero)
          (sym (get_or-map number new p zero 0 (omega (arith, inside, long))) ∙ are.kept p (omega (arith, late)) ∙ get_or-map number old p zero 0 inside)
      rest p (inr late) (inr past) = get_or_past new p zero (omega (arith, past, long)) ∙ sym (get_or_past old p zero past)

-- ---- word by word

differ : (i s : ℕ) → s < i → s ≢ i
differ i s below same = absurd (omega (arith, below, same))

module _ {W : Type 0} (number : W → ℕ) (zero : W) (i : ℕ) (old mid : List W) (v : W) (within : i < length mid) where
  -- one more product or sum with the word at its place
  pub each_more : (op : ℕ → ℕ → ℕ) (others : List W) → number v ≡ op (number (get_or mid i zero)) (number (get_or others i zero))
      → ((s : ℕ) → s < i → number (get_or mid s zero) ≡ op (number (get_or old s zero)) (number (get_or others s zero)))
      → ((s : ℕ) → i ≤ s → get_or mid s zero ≡ get_or old s zero)
      → (s : ℕ) → s < i + 1 → number (get_or (set mid i v) s zero) ≡ op (number (get_or old s zero)) (number (get_or others s zero))
  each_more op others is before rest =
      below_more _ i (λ s below. ap number (get_or-set_other mid i s v zero (differ i s below)) ∙ before s below)
      (ap number (get_or-set_same mid i v zero within) ∙ is
      ∙ ap (λ (w : W). op (number w) (number (get_or others i zero))) (rest i (omega arith)))

  -- the words behind it are left
  pub rest_more : ((s : ℕ) → i ≤ s → get_or mid s zero ≡ get_or old s zero) → (s : ℕ) → i + 1 ≤ s → get_or (set mid i v) s zero ≡ get_or old s zero
  rest_more rest s past = get_or-set_other mid i s v zero (λ same. absurd (omega (arith, past, same))) ∙ rest s (omega (arith, past))

module _ {W : Type 0} (number : W → ℕ) (zero : W) (level i : ℕ) (old mid : List W) (v : W) (within : i < length mid) where
  -- one more difference
  pub differences_more : (x : ℕ) (points : List W)
      → number v ≡ tower_mul level (bit_xor (number (get_or points i zero)) x) (number (get_or mid i zero))
      → AreDifferences number zero level x i points old mid → AreDifferences number zero level x (i + 1) points old (set mid i v)
  differences_more x points is before =
      record {
        multiplied = below_more _ i
            (λ s below. ap number (get_or-set_other mid i s v zero (differ i s below)) ∙ before.multiplied s below)
            (ap number (get_or-set_same mid i v zero within) ∙ is
            ∙ ap (λ (w : W). tower_mul level (bit_xor (number (get_or points i zero)) x) (number w)) (before.kept i (omega arith)));
        kept = λ s past. get_or-set_other mid i s v zero (λ same. absurd (omega (arith, past, same))) ∙ before.kept s (omega (arith, past));
      }

  -- one more inverse, or a word that is left
  pub inverted_more : (element : W → ℕ) (lost : ℕ → Bool) (slopes : List W)
      → (lost i ≡ true → element (get_or slopes i zero) ≢ 0 → tower_mul level (element (get_or slopes i zero)) (number v) ≡ 1)
      → (lost i ≡ false → v ≡ get_or mid i zero)
      → AreInverted element number zero level lost i slopes old mid → AreInverted element number zero level lost (i + 1) slopes old (set mid i v)
  inverted_more element lost slopes is stays before =
      record {
        inverse = below_more _ i
            (λ s below absent nonzero.
            ap (λ (w : W). tower_mul level (element (get_or slopes s zero)) (number w)) (get_or-set_other mid i s v zero (differ i s below))
            ∙ before.inverse s below absent nonzero)
            (λ absent nonzero.
            ap (λ (w : W). tower_mul level (element (get_or slopes i zero)) (number w)) (get_or-set_same mid i v zero within) ∙ is absent nonzero);
        kept = λ s side.
            elim (cases_eq s i) [
              | inl same ↦ own s same side
              | inr other ↦ get_or-set_other mid i s v zero other ∙ before.kept s (fewer s side)
            ];
      }
    where
      fewer : (s : ℕ) → (lost s ≡ false) ⊎ (i + 1 ≤ s) → (lost s ≡ false) ⊎ (i ≤ s)
      fewer s (inl known) = inl known
      fewer s (inr past) = inr (omega (arith, past))

      own : (s : ℕ) → s ≡ i → (lost s ≡ false) ⊎ (i + 1 ≤ s) → get_or (set mid i v) s zero ≡ get_or old s zero
      own s same (inl known) =
          ap (λ (q : ℕ). get_or (set mid i v) q zero) same
          ∙ get_or-set_same mid i v zero within
          ∙ stays (ap lost (sym same) ∙ known)
          ∙ ap (λ (q : ℕ). get_or mid q zero) (sym same)
          ∙ before.kept s (inl known)
      own s same (inr past) = absurd (omega (arith, past, same))
