-- What holds of the low bits of the numbers of words holds of the numbers, of 128 bits.
use Rattle.std.proofs.Common.{◌≡◌, ℕ, ◌^◌, ◌<◌, List, [], ◌∷◌, map, refl, subst, suc, sym, ap₂}
use Rattle.std.specs.Prelude.{slice_index}
use native.Mathlib.Nat.{mod-eq_of_lt}
use Rattle.ghash_slices.proofs.WordValues.{of_own}
use Rattle.additive_transforms.specs.Words.{low_word}

-- such numbers are their own low bits
pub low_words : {W : Type 0} (number : W → ℕ) (words : List W) → ((p : ℕ) → slice_index (map number words) p < 2 ^ 128)
    → map (low_word number) words ≡ map number words
low_words number [] fit = refl
low_words number (x ∷ xs) fit =
    ap₂ (λ (y : ℕ) (ys : List ℕ). y ∷ ys) (mod-eq_of_lt (fit 0)) (low_words number xs (λ p. fit (suc p)))

-- what holds of the low bits holds of the numbers
pub of_low : {W : Type 0} (number : W → ℕ) (P : List ℕ → List ℕ → Type 0) (old new : List W)
    → ((p : ℕ) → slice_index (map number old) p < 2 ^ 128) → ((p : ℕ) → slice_index (map number new) p < 2 ^ 128)
    → P (map (low_word number) old) (map (low_word number) new) → P (map number old) (map number new)
of_low number P old new old_fit new_fit holds =
    subst (λ (l : List ℕ). P l (map number new)) (low_words number old old_fit)
    (subst (P (map (low_word number) old)) (low_words number new new_fit) holds)

-- and what holds of the numbers holds of the low bits
pub to_low : {W : Type 0} (number : W → ℕ) (P : List ℕ → List ℕ → Type 0) (old new : List W)
    → ((p : ℕ) → slice_index (map number old) p < 2 ^ 128) → ((p : ℕ) → slice_index (map number new) p < 2 ^ 128)
    → P (map number old) (map number new) → P (map (low_word number) old) (map (low_word number) new)
to_low number P old new old_fit new_fit holds =
    subst (λ (l : List ℕ). P l (map (low_word number) new)) (sym (low_words number old old_fit))
    (subst (P (map number old)) (sym (low_words number new new_fit)) holds)

-- so it does where the words are the numbers themselves
pub of_own_low : (P : List ℕ → List ℕ → Type 0) (old new : List ℕ) → ((p : ℕ) → slice_index (map (λ n. n) old) p < 2 ^ 128)
    → ((p : ℕ) → slice_index (map (λ n. n) new) p < 2 ^ 128) → P (map (low_word (λ n. n)) old) (map (low_word (λ n. n)) new) → P old new
of_own_low P old new old_fit new_fit holds = of_own P old new (of_low (λ n. n) P old new old_fit new_fit holds)
