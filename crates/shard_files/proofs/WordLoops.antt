-- Words that are read from bytes, and written to them, one after the other.
use Rattle.std.proofs.Common.{◌≡◌, ◌≢◌, ◌⊎◌, inl, inr, ℕ, ◌+◌, ◌*◌, ◌<◌, ◌≤◌, List, length, get_or, set, sym, ◌∙◌, subst, arith}
use Rattle.std.proofs.lemmas.Bool.{cases_lt}
use Rattle.std.proofs.lemmas.List.{get_or-set_other, get_or-set_same, length-set}
use Rattle.shard_files.specs.Codes.{IsWordAt}

-- what holds of the words before one, and of it, holds of one more
pub read_more : (P : ℕ → ℕ → Type 0) (words : List ℕ) (i word : ℕ) → i < length words → ((j : ℕ) → j < i → P j (get_or words j 0)) → P i word
    → (j : ℕ) → j < i + 1 → P j (get_or (set words i word) j 0)
read_more P words i word inside before now j below =
    elim (cases_lt j i) [
      | inl less ↦ subst (P j) (sym (get_or-set_other words i j word 0 (omega (arith, less)))) (before j less)
      | inr more ↦
          let same : i ≡ j = omega (arith, below, more) in
          subst (λ (n : ℕ). P n (get_or (set words i word) n 0)) same (subst (P i) (sym (get_or-set_same words i word 0 inside)) now)
    ]

-- two bytes are set
module _ (bytes : List ℕ) (place lower higher : ℕ) (room : place + 1 < length bytes) where
  abbrev after : List ℕ
  after = set (set bytes place lower) (place + 1) higher

  pub set_long : length after ≡ length bytes
  set_long = length-set (set bytes place lower) (place + 1) higher ∙ length-set bytes place lower

  pub set_lower : get_or after place 0 ≡ lower
  set_lower =
      get_or-set_other (set bytes place lower) (place + 1) place higher 0 (omega arith)
      ∙ get_or-set_same bytes place lower 0 (omega (arith, room))

  pub set_higher : get_or after (place + 1) 0 ≡ higher
  set_higher = get_or-set_same (set bytes place lower) (place + 1) higher 0 (omega (arith, room, length-set bytes place lower))

  pub set_others : (other : ℕ) → other ≢ place → other ≢ place + 1 → get_or after other 0 ≡ get_or bytes other 0
  set_others other apart behind =
      get_or-set_other (set bytes place lower) (place + 1) other higher 0 behind ∙ get_or-set_other bytes place other lower 0 apart

-- one more word is written
module _ (first i : ℕ) (words old bytes new : List ℕ)
    (kept : (other : ℕ) → other ≢ 2 * (first + i) → other ≢ 2 * (first + i) + 1 → get_or new other 0 ≡ get_or bytes other 0)
  where
    pub written_more : ((j : ℕ) → j < i → IsWordAt bytes (2 * (first + j)) (get_or words j 0)) → IsWordAt new (2 * (first + i)) (get_or words i 0)
        → (j : ℕ) → j < i + 1 → IsWordAt new (2 * (first + j)) (get_or words j 0)
    written_more before now j below =
        elim (cases_lt j i) [
          | inl less ↦ record {
            lower = kept (2 * (first + j)) (omega (arith, less)) (omega (arith, less)) ∙ (before j less).lower;
            higher = kept (2 * (first + j) + 1) (omega (arith, less)) (omega (arith, less)) ∙ (before j less).higher;
          }
          | inr more ↦
              let same : i ≡ j = omega (arith, below, more) in
              subst (λ (n : ℕ). IsWordAt new (2 * (first + n)) (get_or words n 0)) same now
        ]

    pub kept_more : ((place : ℕ) → (place < 2 * first) ⊎ (2 * (first + i) ≤ place) → get_or bytes place 0 ≡ get_or old place 0)
        → (place : ℕ) → (place < 2 * first) ⊎ (2 * (first + (i + 1)) ≤ place) → get_or new place 0 ≡ get_or old place 0
    kept_more before place outside =
        elim outside [
          | inl less ↦ kept place (omega (arith, less)) (omega (arith, less)) ∙ before place (inl less)
          | inr more ↦ kept place (omega (arith, more)) (omega (arith, more)) ∙ before place (inr (omega (arith, more)))
        ]
