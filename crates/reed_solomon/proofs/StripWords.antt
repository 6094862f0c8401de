-- The words of a strip at all points: those of the data, zeros up to the points of the parity, those of the parity, and zeros.
use Rattle.std.proofs.Common.{◌≡◌, inl, inr, ℕ, ◌+◌, ◌-◌, ◌*◌, ◌^◌, ◌<◌, ◌≤◌, List, ◌++◌, length, get_or, sym, ◌∙◌, ap, arith}
use Rattle.std.proofs.lemmas.Bool.{cases_lt}
use Rattle.std.proofs.lemmas.Bool.Decides.{nat_tests}
use Rattle.std.proofs.lemmas.List.{get_or-append-add, get_or_append_left}
use Rattle.reed_solomon.specs.Columns.{HoldStrip}
use Rattle.reed_solomon.specs.Restoring.{word_at}
use lib.Arith.{digits_lt}

module _ {W : Type 0} (zero : W) (k n m size column : ℕ) (shards parity : List W) where
  pub word_at-first : (p : ℕ) → p < k → word_at zero k n m size column shards parity p ≡ get_or shards (p * size + column) zero
  word_at-first p below = grind (arith, nat_tests)

  pub word_at-padding : (p : ℕ) → k ≤ p → p < 2 ^ n → word_at zero k n m size column shards parity p ≡ zero
  word_at-padding p past below = grind (arith, nat_tests)

  pub word_at-behind : (p : ℕ) → k ≤ p → 2 ^ n ≤ p → p < 2 ^ n + m
      → word_at zero k n m size column shards parity p ≡ get_or parity ((p - 2 ^ n) * size + column) zero
  word_at-behind p past late below = grind (arith, nat_tests)

  pub word_at-past : (p : ℕ) → k ≤ p → 2 ^ n ≤ p → 2 ^ n + m ≤ p → word_at zero k n m size column shards parity p ≡ zero
  word_at-past p past late far = grind (arith, nat_tests)

-- the rows behind the first ones
pub rows_behind : (first others width words back : ℕ) → words ≡ (first + others) * width → back + first * width ≡ words → back ≡ others * width
rows_behind first others width words back all split = omega (arith, all, split)

module _ {W : Type 0} (zero : W) (k n m size start width behind : ℕ) (shards parity of_data others : List W) (padded : k ≤ 2 ^ n)
    (long : length of_data ≡ 2 ^ n * width) (data_held : HoldStrip zero k size start width shards (2 ^ n) of_data)
    (parity_held : HoldStrip zero m size start width parity behind others) where
  in_data : (p c : ℕ) → c < width → p < 2 ^ n
      → get_or (of_data ++ others) (p * width + c) zero ≡ word_at zero k n m size (start + c) shards parity p
  in_data p c inside lower =
      let within = digits_lt lower inside in
      let strip = data_held p c lower inside in
      get_or_append_left of_data others zero (p * width + c) (omega (arith, long, within))
      ∙ elim (cases_lt p k) [
        | inl of_shards ↦ strip.0 of_shards ∙ sym (word_at-first zero k n m size (start + c) shards parity p of_shards)
        | inr past ↦ strip.1 past ∙ sym (word_at-padding zero k n m size (start + c) shards parity p past lower)
      ]

  in_parity : (p c : ℕ) → c < width → 2 ^ n ≤ p → p - 2 ^ n < behind
      → get_or (of_data ++ others) (p * width + c) zero ≡ word_at zero k n m size (start + c) shards parity p
  in_parity p c inside late below =
      let past : k ≤ p = omega (arith, padded, late) in
      let strip = parity_held (p - 2 ^ n) c below inside in
      let place : p ≡ 2 ^ n + (p - 2 ^ n) = omega (arith, late) in
      let split : (2 ^ n + (p - 2 ^ n)) * width + c ≡ 2 ^ n * width + ((p - 2 ^ n) * width + c) = omega arith in
      ap (λ (s : ℕ). get_or (of_data ++ others) s zero)
      (ap (λ (s : ℕ). s * width + c) place ∙ split ∙ ap (λ (s : ℕ). s + ((p - 2 ^ n) * width + c)) (sym long))
      ∙ get_or-append-add of_data others ((p - 2 ^ n) * width + c) zero
      ∙ elim (cases_lt (p - 2 ^ n) m) [
        | inl of_parity ↦
            strip.0 of_parity ∙ sym (word_at-behind zero k n m size (start + c) shards parity p past late (omega (arith, of_parity, late)))
        | inr far ↦ strip.1 far ∙ sym (word_at-past zero k n m size (start + c) shards parity p past late (omega (arith, far, late)))
      ]

  -- they stand in the rows that were read
  pub words_read : (r : ℕ) → 2 ^ n + behind ≡ 2 ^ r → (p c : ℕ) → p < 2 ^ r → c < width
      → get_or (of_data ++ others) (p * width + c) zero ≡ word_at zero k n m size (start + c) shards parity p
  words_read r all p c below inside =
      elim (cases_lt p (2 ^ n)) [
        | inl lower ↦ in_data p c inside lower
        | inr late ↦ in_parity p c inside late (omega (arith, late, below, all))
      ]
