-- Words as the digits of a number, one digit more.
use Rattle.std.proofs.Common.{◌≡◌, ℕ, ◌+◌, ◌*◌, ◌%◌, ◌<◌, ◌≤◌, ◌^◌, ◌⊎◌, inl, inr, List, length, get_or, sym, ◌∙◌, ap, subst, arith}
use Rattle.std.proofs.Math.ListN.{set}
use Rattle.std.proofs.Math.Pow.{pow_mono}
use Rattle.std.proofs.lemmas.List.{get_or-set_same, get_or-set_other, length-set}
use Rattle.std.proofs.lemmas.Nat.{mul-le, shr_high}
use native.Mathlib.Nat.{mod-eq_of_lt}
use Rattle.field_base.specs.Chunks.{chunk}
use Rattle.field_base.proofs.ChunkLists.{chunk_above, more-lt}
use Rattle.bit_slices.specs.Layout.{AreKept}

-- a place up to the last one
last : (i m : ℕ) → i < m + 1 → (i < m) ⊎ (i ≡ m)
last i m h = grind arith

-- the bits of the digits up to digit q of `count`, of 128 bits in all
places : (w count q : ℕ) → w * count ≡ 128 → q < count → w * (q + 1) ≤ 128
places w count q whole less =
    let most = mul-le w (q + 1) w count (omega arith) (omega (arith, less)) in
    omega (arith, most, whole)

-- a digit put above q digits: nothing is lost, and the number has a digit more
module _ (w count q bits word : ℕ) (whole : w * count ≡ 128) (less : q < count) (low : bits < 2 ^ (w * q)) (high : word < 2 ^ w) where
  sum_fits : word * 2 ^ (w * q) + bits < 2 ^ (w * (q + 1))
  sum_fits = more-lt w q (word * 2 ^ (w * q) + bits) word bits low high (omega arith)

  below_all : 2 ^ (w * (q + 1)) ≤ 2 ^ 128
  below_all = pow_mono {i = w * (q + 1)} {j = 128} (places w count q whole less)

  -- as it is computed
  pub is_sum : (shift : ℕ) → shift ≡ w * q → bits + word * 2 ^ shift % 2 ^ 128 ≡ word * 2 ^ (w * q) + bits
  is_sum shift is =
      let fits = sum_fits in
      let all = below_all in
      ap (λ (n : ℕ). bits + word * 2 ^ n % 2 ^ 128) is ∙ omega (arith, fits, all)

  pub fits_sum : (shift : ℕ) → shift ≡ w * q → bits + word * 2 ^ shift % 2 ^ 128 < 2 ^ (w * (q + 1))
  fits_sum shift is = subst (λ (n : ℕ). n < 2 ^ (w * (q + 1))) (sym (is_sum shift is)) sum_fits

  pub fits_number : (shift : ℕ) → shift ≡ w * q → bits + word * 2 ^ shift % 2 ^ 128 < 2 ^ 128
  fits_number shift is = let sum = fits_sum shift is in let all = below_all in omega (arith, sum, all)

  pub digits_of_sum : (shift : ℕ) → shift ≡ w * q → {W : Type 0} (number : W → ℕ) (words : List W) (start : ℕ)
      → ((i : ℕ) → i < q → (d : W) → number (get_or words (start + i) d) ≡ chunk w i bits)
      → ((d : W) → number (get_or words (start + q) d) ≡ word)
      → (i : ℕ) → i < q + 1 → (d : W) → number (get_or words (start + i) d) ≡ chunk w i (bits + word * 2 ^ shift % 2 ^ 128)
  digits_of_sum shift is number words start before here i below d =
      rw (is_sum shift is) (cases (last i q below))
    where
      cases : (i < q) ⊎ (i ≡ q) → number (get_or words (start + i) d) ≡ chunk w i (word * 2 ^ (w * q) + bits)
      cases (inl inside) = before i inside d ∙ sym (chunk_above w q i word bits inside)
      cases (inr same) =
          ap (λ (n : ℕ). number (get_or words (start + n) d)) same ∙ here d
          ∙ sym (ap (λ (n : ℕ). n % 2 ^ w) (shr_high word (w * q) bits low) ∙ mod-eq_of_lt high)
          ∙ ap (λ (n : ℕ). chunk w n (word * 2 ^ (w * q) + bits)) (sym same)

-- one more digit that is written
pub one_more_kept : {W : Type 0} (start q : ℕ) (old words : List W) (word : W) → AreKept start q old words → AreKept start (q + 1) old (set words (start + q) word)
one_more_kept start q old words word kept =
    record {
      long = length-set words (start + q) word ∙ kept.long;
      below = λ p less d. get_or-set_other words (start + q) p word d (omega (arith, less)) ∙ kept.below p less d;
      above = λ p d.
          let place : start + (q + 1) + p ≡ start + q + (p + 1) = omega arith in
          get_or-set_other words (start + q) (start + (q + 1) + p) word d (omega arith)
          ∙ ap (λ (n : ℕ). get_or words n d) place ∙ kept.above (p + 1) d ∙ ap (λ (n : ℕ). get_or old n d) (sym place);
    }

pub one_more_digit : {W : Type 0} (w q bits start : ℕ) (number : W → ℕ) (words : List W) (word : W) → start + q < length words
    → number word ≡ chunk w q bits
    → ((i : ℕ) → i < q → (d : W) → number (get_or words (start + i) d) ≡ chunk w i bits)
    → (i : ℕ) → i < q + 1 → (d : W) → number (get_or (set words (start + q) word) (start + i) d) ≡ chunk w i bits
one_more_digit w q bits start number words word fits is before i below d = cases (last i q below)
  where
    cases : (i < q) ⊎ (i ≡ q) → number (get_or (set words (start + q) word) (start + i) d) ≡ chunk w i bits
    cases (inl inside) = ap number (get_or-set_other words (start + q) (start + i) word d (omega (arith, inside))) ∙ before i inside d
    cases (inr same) =
        ap (λ (n : ℕ). number (get_or (set words (start + q) word) (start + n) d)) same ∙ ap number (get_or-set_same words (start + q) word d fits) ∙ is
        ∙ ap (λ (n : ℕ). chunk w n bits) (sym same)
