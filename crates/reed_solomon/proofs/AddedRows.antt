-- Rows to which multiples of other rows are added, and rows that are written at the place of a shard.
use Rattle.std.proofs.Common.{◌≡◌, ◌≢◌, ◌⊎◌, inl, inr, ℕ, ◌+◌, ◌%◌, ◌^◌, ◌<◌, ◌≤◌, List, length, get_or, map, set, take, drop, sym, ◌∙◌, ap, ap₂, arith, below_more}
use Rattle.std.specs.Prelude.{bit_xor}
use Rattle.std.proofs.lemmas.Bool.{cases_lt}
use Rattle.std.proofs.lemmas.List.{get_or-drop, get_or-map, get_or-set_other, get_or-set_same, get_or-take, get_or_past}
use Rattle.field_base.specs.Tower.{tower_mul}
use Rattle.field_base.proofs.RingLemmas.{mod-times}
use Rattle.field_base.proofs.TowerRing.{tower_ring}
use Rattle.additive_transforms.specs.Units.{FirstAre}
use Rattle.reed_solomon.specs.Direct.{AreAddedProducts}

module _ {W : Type 0} (number : W → ℕ) (zero : W) (level factor : ℕ) where
  -- one more product is added
  pub added_more : (from i : ℕ) (words old mid : List W) (v : W) → i < length mid
      → number v ≡ bit_xor (number (get_or mid i zero)) (tower_mul level factor (number (get_or words (from + i) zero)))
      → AreAddedProducts number zero level factor from i words old mid → AreAddedProducts number zero level factor from (i + 1) words old (set mid i v)
  added_more from i words old mid v within is before =
      record {
        added = below_more _ i
            (λ s below. ap number (get_or-set_other mid i s v zero (differ s below)) ∙ before.added s below)
            (ap number (get_or-set_same mid i v zero within) ∙ is
            ∙ ap (λ (w : W). bit_xor (number w) (tower_mul level factor (number (get_or words (from + i) zero)))) (before.kept i (omega arith)));
        kept = λ s past. get_or-set_other mid i s v zero (λ same. absurd (omega (arith, past, same))) ∙ before.kept s (omega (arith, past));
      }
    where
      differ : (s : ℕ) → s < i → s ≢ i
      differ s below same = absurd (omega (arith, below, same))

  -- products of a part are those of the whole from there on
  pub added_part : (from cut count : ℕ) (row words old now : List W) → row ≡ take cut (drop from words) → count ≤ cut
      → AreAddedProducts number zero level factor 0 count row old now → AreAddedProducts number zero level factor from count words old now
  added_part from cut count row words old now row_is few are =
      record {
        added = λ c below.
            let start : 0 + c ≡ c = omega arith in
            are.added c below
            ∙ ap (λ (p : ℕ). bit_xor (number (get_or old c zero)) (tower_mul level factor (number (get_or row p zero)))) start
            ∙ ap (λ (w : W). bit_xor (number (get_or old c zero)) (tower_mul level factor (number w)))
            (ap (λ (l : List W). get_or l c zero) row_is
            ∙ get_or-take cut (drop from words) c zero (omega (arith, below, few)) ∙ get_or-drop from words c zero);
        kept = are.kept;
      }

  -- products by the element of a factor
  pub first_added : ((x y : W) → number x ≡ number y → x ≡ y) → (n s : ℕ) (row old new : List W) → s ≡ factor % 2 ^ 2 ^ level
      → length old ≡ length row → length new ≡ length old → n ≤ length old
      → FirstAre n (λ k. bit_xor (get_or (map number old) k 0) (tower_mul level s (get_or (map number row) k 0))) (map number old) (map number new)
      → AreAddedProducts number zero level factor 0 n row old new
  first_added same_law n s row old new s_is same long few are =
      record {
        added = λ c below.
            let start : c ≡ 0 + c = omega arith in
            let inside : c < length old = omega (arith, below, few) in
            sym (get_or-map number new c zero 0 (omega (arith, inside, long))) ∙ are.done c below
            ∙ ap₂ bit_xor (get_or-map number old c zero 0 inside)
            (ap (tower_mul level s) (get_or-map number row c zero 0 (omega (arith, inside, same)))
            ∙ ap (λ (a : ℕ). tower_mul level a (number (get_or row c zero))) s_is
            ∙ mod-times (2 ^ level) 1 (tower_mul level) (tower_ring level) factor (number (get_or row c zero))
            ∙ ap (λ (p : ℕ). tower_mul level factor (number (get_or row p zero))) start);
        kept = λ p late. rest p late (cases_lt p (length old));
      }
    where
      rest : (p : ℕ) → n ≤ p → (p < length old) ⊎ (length old ≤ p) → get_or new p zero ≡ get_or old p zero
      rest p late (inl inside) =
          same_law (get_or new p zero) (get_or old p zero)
          (sym (get_or-map number new p zero 0 (omega (arith, inside, long))) ∙ are.kept p late ∙ get_or-map number old p zero 0 inside)
      rest p late (inr past) = get_or_past new p zero (omega (arith, past, long)) ∙ sym (get_or_past old p zero past)
