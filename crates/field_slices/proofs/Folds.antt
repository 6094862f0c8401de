-- Folds of matrices that are near a code or not.
use Rattle.std.proofs.Common.{◌≡◌, ◌⊎◌, inl, inr, ℕ, zero, suc, ◌+◌, ◌-◌, ◌^◌, ◌<◌, ◌≤◌, Bool, true, false, cond, List, [], ◌∷◌, length, take, refl, sym, ◌∙◌, ap, ap₂, subst, arith}
use Rattle.std.specs.Prelude.{bit_xor, slice_index}
use Rattle.std.proofs.Math.Dec.{ltb}
use Rattle.std.proofs.Math.Nat.{two-pow-succ}
use Rattle.std.proofs.lemmas.Bool.{cases_lt, lt-ltb, ltb-true}
use Rattle.std.proofs.lemmas.Nat.{xor_lt}
use Rattle.field_base.specs.Field.{IsField}
use Rattle.field_base.proofs.RingLemmas.{xor_cancel}
use Rattle.field_slices.specs.Codes.{AgreeUnmarked, AreNearTogether, HaveSymbols, IsNear, IsWordOf}
use Rattle.field_slices.specs.Folds.{FarMatricesNeedLuck, FewFoldsAreNear, IsLuckyAt, fold_rows, rows_folded}
use Rattle.field_slices.proofs.Deciding.{near-decided}
use Rattle.field_slices.proofs.Words.{word-sum}

module _ (width : ℕ) (times : ℕ → ℕ → ℕ) (wide : 0 < width) (field : IsField width times) (size n : ℕ) (generator : ℕ → ℕ → ℕ)
    (e half : ℕ) (word : ℕ → ℕ → ℕ) where
  -- the differences of the rows of both halves
  abbrev differences : ℕ → ℕ → ℕ
  differences i p = bit_xor (word i p) (word (half + i) p)

  abbrev whole : AreNearTogether times size n generator e half word differences → ℕ → ℕ → ℕ
  whole near i p = cond (ltb i half) (near.one i p) (bit_xor (near.one (i - half) p) (near.other (i - half) p))

  whole-low : (near : AreNearTogether times size n generator e half word differences) (i p : ℕ) → i < half → near.one i p ≡ whole near i p
  whole-low near i p below =
      ap (λ (b : Bool). cond b (near.one i p) (bit_xor (near.one (i - half) p) (near.other (i - half) p))) (sym (lt-ltb i half below))

  whole-high : (near : AreNearTogether times size n generator e half word differences) (i p : ℕ) → half ≤ i
      → bit_xor (near.one (i - half) p) (near.other (i - half) p) ≡ whole near i p
  whole-high near i p above =
      ap (λ (b : Bool). cond b (near.one i p) (bit_xor (near.one (i - half) p) (near.other (i - half) p))) (sym (not-less (ltb i half) refl))
    where
      not-less : (b : Bool) → ltb i half ≡ b → ltb i half ≡ false
      not-less true is = let less = ltb-true i half is in absurd (omega (arith, less, above))
      not-less false is = is

  pub near-whole : AreNearTogether times size n generator e half word differences → IsNear times size n generator e (half + half) word
  near-whole near = record {
    matrix = whole near;
    rows = λ i below. row i below (cases_lt i half);
    marked = near.marked;
    few = near.few;
    same = λ i below. at i below (cases_lt i half);
  }
    where
      row : (i : ℕ) → i < half + half → (i < half) ⊎ (half ≤ i) → IsWordOf times size n generator (whole near i)
      row i below (inl lower) =
          let is = near.one_rows i lower in
          record { message = is.message; is = λ p inside. sym (whole-low near i p lower) ∙ is.is p inside }
      row i below (inr upper) =
          let within : i - half < half = omega (arith, below, upper) in
          let is = word-sum width times wide field.ring size n generator (near.one (i - half)) (near.other (i - half))
          (near.one_rows (i - half) within) (near.other_rows (i - half) within) in
          record { message = is.message; is = λ p inside. sym (whole-high near i p upper) ∙ is.is p inside }

      at : (i : ℕ) → i < half + half → (i < half) ⊎ (half ≤ i) → AgreeUnmarked n near.marked (word i) (whole near i)
      at i below (inl lower) p inside unmarked = near.one_same i lower p inside unmarked ∙ whole-low near i p lower
      at i below (inr upper) p inside unmarked =
          let within : i - half < half = omega (arith, below, upper) in
          let joined : half + (i - half) ≡ i = omega (arith, upper) in
          ap (λ (j : ℕ). word j p) (sym joined)
          ∙ sym (xor_cancel (word (i - half) p) (word (half + (i - half)) p))
          ∙ ap₂ bit_xor (near.one_same (i - half) within p inside unmarked) (near.other_same (i - half) within p inside unmarked)
          ∙ whole-high near i p upper

  pub differences-fit : HaveSymbols width n (half + half) word → HaveSymbols width n half differences
  differences-fit fits i p below inside =
      xor_lt width (word i p) (word (half + i) p) (fits i p (omega (arith, below)) inside) (fits (half + i) p (omega (arith, below)) inside)

pub few_folds_are_near : FewFoldsAreNear
few_folds_are_near width times size n generator wide field e lucky half word gap fits far m x distinct near =
    elim (cases_lt lucky m) [
      | inr small ↦ small
      | inl many ↦ absurd (far (near-whole width times wide field size n generator e half word
          (gap half word (differences width times wide field size n generator e half word)
          (differences-fit width times wide field size n generator e half word fits) m x distinct many near)))
    ]

-- ---- many folds

module _ (width : ℕ) (times : ℕ → ℕ → ℕ) (wide : 0 < width) (field : IsField width times) (n : ℕ) where
  pub fold-fits : (half r : ℕ) (word : ℕ → ℕ → ℕ) → HaveSymbols width n (half + half) word → HaveSymbols width n half (fold_rows times half r word)
  fold-fits half r word fits i p below inside =
      xor_lt width (word i p) (times r (bit_xor (word i p) (word (half + i) p))) (fits i p (omega (arith, below)) inside)
      (field.ring.below r (bit_xor (word i p) (word (half + i) p)))

-- `IsNear`, with the height replaced by an equal one
near-height : (times : ℕ → ℕ → ℕ) (size n : ℕ) (generator : ℕ → ℕ → ℕ) (e one other : ℕ) (word : ℕ → ℕ → ℕ) → one ≡ other
    → IsNear times size n generator e one word → IsNear times size n generator e other word
near-height times size n generator e one other word same near = subst (λ (h : ℕ). IsNear times size n generator e h word) same near

module _ (width : ℕ) (times : ℕ → ℕ → ℕ) (wide : 0 < width) (field : IsField width times) (size n : ℕ) (generator : ℕ → ℕ → ℕ) (e : ℕ) where
  later : (h r : ℕ) (rs : List ℕ) (word : ℕ → ℕ → ℕ) (k : ℕ) → IsLuckyAt times size n generator e h (fold_rows times (2 ^ h) r word) rs k
      → IsLuckyAt times size n generator e (suc h) word (r ∷ rs) (suc k)
  unfolding rows_folded
  later h r rs word k lucky =
      let fewer : h - suc k ≡ suc h - suc (suc k) = omega arith in
      record {
        inside = omega (arith, lucky.inside);
        far = subst (λ (m : ℕ). IsNear times size n generator e (2 ^ m + 2 ^ m) (rows_folded times h (take k rs) (fold_rows times (2 ^ h) r word)) → ⊥)
            fewer lucky.far;
        near = subst (λ (m : ℕ). IsNear times size n generator e (2 ^ m)
            (fold_rows times (2 ^ m) (slice_index rs k) (rows_folded times h (take k rs) (fold_rows times (2 ^ h) r word)))) fewer lucky.near;
      }

  now : (h r : ℕ) (rs : List ℕ) (word : ℕ → ℕ → ℕ) → (IsNear times size n generator e (2 ^ h + 2 ^ h) word → ⊥)
      → IsNear times size n generator e (2 ^ h) (fold_rows times (2 ^ h) r word)
      → IsLuckyAt times size n generator e (suc h) word (r ∷ rs) 0
  unfolding rows_folded
  now h r rs word far near =
      let fewer : h ≡ suc h - 1 = omega arith in
      record {
        inside = omega arith;
        far = subst (λ (m : ℕ). IsNear times size n generator e (2 ^ m + 2 ^ m) word → ⊥) fewer far;
        near = subst (λ (m : ℕ). IsNear times size n generator e (2 ^ m) (fold_rows times (2 ^ m) r word)) fewer near;
      }

  pub far-lucky : (h : ℕ) (word : ℕ → ℕ → ℕ) (point : List ℕ) → HaveSymbols width n (2 ^ h) word → length point ≡ h
      → IsNear times size n generator e 1 (rows_folded times h point word)
      → IsNear times size n generator e (2 ^ h) word ⊎ ((k : ℕ) × IsLuckyAt times size n generator e h word point k)
  unfolding rows_folded
  far-lucky zero word [] fits long near = inl near
  far-lucky zero word (r ∷ rs) fits long near = absurd (omega (arith, long))
  far-lucky (suc h) word [] fits long near = absurd (omega (arith, long))
  far-lucky (suc h) word (r ∷ rs) fits long near =
      join (far-lucky h (fold_rows times (2 ^ h) r word) rs
      (fold-fits width times wide field n (2 ^ h) r word (subst (λ (m : ℕ). HaveSymbols width n m word) (two-pow-succ h) fits))
      (omega (arith, long)) near)
      (near-decided width times wide field size n generator e (2 ^ h + 2 ^ h) word)
    where
      join : IsNear times size n generator e (2 ^ h) (fold_rows times (2 ^ h) r word)
          ⊎ ((k : ℕ) × IsLuckyAt times size n generator e h (fold_rows times (2 ^ h) r word) rs k)
          → IsNear times size n generator e (2 ^ h + 2 ^ h) word ⊎ (IsNear times size n generator e (2 ^ h + 2 ^ h) word → ⊥)
          → IsNear times size n generator e (2 ^ suc h) word ⊎ ((k : ℕ) × IsLuckyAt times size n generator e (suc h) word (r ∷ rs) k)
      join (inr lucky) decided = inr (suc lucky.0, later h r rs word lucky.0 lucky.1)
      join (inl folded) (inl whole_is) =
          inl (near-height times size n generator e (2 ^ h + 2 ^ h) (2 ^ suc h) word (sym (two-pow-succ h)) whole_is)
      join (inl folded) (inr far) = inr (0, now h r rs word far folded)

pub far_matrices_need_luck : FarMatricesNeedLuck
far_matrices_need_luck width times size n generator wide field e h word point fits long near =
    far-lucky width times wide field size n generator e h word point fits long near
