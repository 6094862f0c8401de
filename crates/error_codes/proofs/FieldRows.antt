-- Lists that are written in place, from the last entry down or from a place on.
use Rattle.std.proofs.Common.{◌≡◌, inl, inr, ℕ, ◌+◌, ◌<◌, ◌≤◌, List, length, set, refl, sym, ◌∙◌, ap, arith}
use Rattle.std.specs.Prelude.{slice_index}
use Rattle.std.proofs.lemmas.List.{get_or-set_other, get_or-set_same, length-set}
use Rattle.std.proofs.lemmas.Bool.{cases_lt}

-- the entries n + 1 with this n or a greater one, as far as `top`, are written; the others stand as at first
pub record AreBelow (value : ℕ → ℕ) (top from : ℕ) (initial row : List ℕ) : Type 0 where
  pub long : length row ≡ length initial
  pub written : (n : ℕ) → from ≤ n → n < top → slice_index row (n + 1) ≡ value n
  pub before : (n : ℕ) → n ≤ from → slice_index row n ≡ slice_index initial n
  pub behind : (n : ℕ) → top < n → slice_index row n ≡ slice_index initial n

-- none at first
pub below-starts : (value : ℕ → ℕ) (top : ℕ) (initial : List ℕ) → AreBelow value top top initial initial
below-starts value top initial = record {
  long = refl;
  written = λ n above below. absurd (omega (arith, above, below));
  before = λ n below. refl;
  behind = λ n above. refl;
}

-- one more, downwards
pub below-more : (value : ℕ → ℕ) (top from j entry : ℕ) (initial row : List ℕ) → AreBelow value top from initial row
    → j + 1 ≡ from → from ≤ top → top < length row → entry ≡ value j
    → AreBelow value top j initial (set row (j + 1) entry)
below-more value top from j entry initial row before is most room entry_is = record {
  long = length-set row (j + 1) entry ∙ before.long;
  written = λ n above below.
      elim (cases_lt j n) [
        | inl later ↦
            get_or-set_other row (j + 1) (n + 1) entry 0 (λ e. absurd (omega (arith, e, later)))
            ∙ before.written n (omega (arith, later, is)) below
        | inr here ↦
            let same : j ≡ n = omega (arith, here, above) in
            ap (λ (k : ℕ). slice_index (set row (j + 1) entry) (k + 1)) (sym same)
            ∙ get_or-set_same row (j + 1) entry 0 (omega (arith, is, most, room)) ∙ entry_is ∙ ap value same
      ];
  before = λ n below.
      get_or-set_other row (j + 1) n entry 0 (λ e. absurd (omega (arith, e, below)))
      ∙ before.before n (omega (arith, below, is));
  behind = λ n above.
      get_or-set_other row (j + 1) n entry 0 (λ e. absurd (omega (arith, e, above, is, most))) ∙ before.behind n above;
}

-- the first entries from `start` on are written, and the others stand as at first
pub record AreBehind (value : ℕ → ℕ) (start count : ℕ) (initial row : List ℕ) : Type 0 where
  pub long : length row ≡ length initial
  pub written : (n : ℕ) → n < count → slice_index row (start + n) ≡ value n
  pub before : (n : ℕ) → n < start → slice_index row n ≡ slice_index initial n
  pub behind : (n : ℕ) → start + count ≤ n → slice_index row n ≡ slice_index initial n

-- none at first
pub behind-starts : (value : ℕ → ℕ) (start : ℕ) (initial : List ℕ) → AreBehind value start 0 initial initial
behind-starts value start initial = record {
  long = refl;
  written = λ n below. absurd (omega (arith, below));
  before = λ n below. refl;
  behind = λ n above. refl;
}

-- one more
pub behind-more : (value : ℕ → ℕ) (start count entry : ℕ) (initial row : List ℕ) → AreBehind value start count initial row
    → start + count < length row → entry ≡ value count
    → AreBehind value start (count + 1) initial (set row (start + count) entry)
behind-more value start count entry initial row before inside entry_is = record {
  long = length-set row (start + count) entry ∙ before.long;
  written = λ n below.
      elim (cases_lt n count) [
        | inl early ↦
            get_or-set_other row (start + count) (start + n) entry 0 (λ e. absurd (omega (arith, e, early)))
            ∙ before.written n early
        | inr late ↦
            let same : count ≡ n = omega (arith, late, below) in
            ap (λ (k : ℕ). slice_index (set row (start + count) entry) (start + k)) (sym same)
            ∙ get_or-set_same row (start + count) entry 0 inside ∙ entry_is ∙ ap value same
      ];
  before = λ n below.
      get_or-set_other row (start + count) n entry 0 (λ e. absurd (omega (arith, e, below))) ∙ before.before n below;
  behind = λ n above.
      get_or-set_other row (start + count) n entry 0 (λ e. absurd (omega (arith, e, above)))
      ∙ before.behind n (omega (arith, above));
}
