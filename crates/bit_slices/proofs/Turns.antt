-- A turn of two halves: an exchange of the highest bit, and turns of both.
use Rattle.std.proofs.Common.{◌≡◌, ℕ, suc, ◌+◌, ◌-◌, ◌*◌, ◌<◌, ◌≤◌, ◌^◌, ◌⊎◌, inl, inr, sym, ◌∙◌, ap, arith}
use Rattle.std.specs.Int.{bit_at}
use Rattle.std.proofs.lemmas.Bool.{cases_lt}
use Rattle.std.proofs.lemmas.Nat.Bits.{bit_at_cat_high, bit_at_cat_low}
use native.Mathlib.Nat.{pow-suc, suc-mul, mul_assoc}
use Rattle.field_base.specs.Quadratic.{pair}
use Rattle.bit_slices.specs.Layout.{AreLanesExchanged, IsTurned}

-- the exchange, and then both turns
pub turned_pairs : (k : ℕ) (a b c d e f : ℕ → ℕ) → AreLanesExchanged k a b c d → IsTurned k c e → IsTurned k d f
    → ((l : ℕ) → a l < 2 ^ 2 ^ k) → ((l : ℕ) → e l < 2 ^ 2 ^ k)
    → IsTurned (suc k) (λ l. pair (2 ^ k) (a l) (b l)) (λ l. pair (2 ^ k) (e l) (f l))
turned_pairs k a b c d e f changed low_turned high_turned a_fits e_fits i q r i_fits r_fits =
    pick (cases_lt i (2 ^ k)) (cases_lt r (2 ^ k))
  where
    double : 2 ^ suc k ≡ 2 ^ k + 2 ^ k
    double = pow-suc 2 k ∙ omega arith

    twice : q * 2 * 2 ^ k ≡ q * 2 ^ suc k
    twice = mul_assoc q 2 (2 ^ k) ∙ ap (λ (x : ℕ). q * x) (omega (arith, double))

    even : (n : ℕ) → q * 2 ^ suc k + n ≡ q * 2 * 2 ^ k + n
    even n = ap (λ (x : ℕ). x + n) (sym twice)

    odd : (n : ℕ) → q * 2 ^ suc k + (2 ^ k + n) ≡ suc (q * 2) * 2 ^ k + n
    odd n = omega (arith, twice, suc-mul (q * 2) (2 ^ k))

    split : (n : ℕ) → 2 ^ k ≤ n → n ≡ 2 ^ k + (n - 2 ^ k)
    split n more = omega (arith, more)

    rest : (n : ℕ) → n < 2 ^ suc k → 2 ^ k ≤ n → n - 2 ^ k < 2 ^ k
    rest n fits more = omega (arith, double, fits, more)

    -- a bit of the low half, and of the high one
    low : (x y n : ℕ) → x < 2 ^ 2 ^ k → n < 2 ^ k → bit_at (pair (2 ^ k) x y) n ≡ bit_at x n
    low x y n x_fits less = bit_at_cat_low y (2 ^ k) x n less

    high : (x y n : ℕ) → x < 2 ^ 2 ^ k → 2 ^ k ≤ n → bit_at (pair (2 ^ k) x y) n ≡ bit_at y (n - 2 ^ k)
    high x y n x_fits more = bit_at_cat_high y (2 ^ k) x n x_fits more

    low_even : (m n : ℕ) → m < 2 ^ k → n < 2 ^ k → bit_at (e (q * 2 ^ suc k + n)) m ≡ bit_at (a (q * 2 ^ suc k + m)) n
    low_even m n m_fits n_fits =
        ap (λ (x : ℕ). bit_at (e x) m) (even n) ∙ low_turned m (q * 2) n m_fits n_fits
        ∙ ap (λ (x : ℕ). bit_at (c x) n) (sym (even m)) ∙ ap (λ (x : ℕ). bit_at x n) (changed.low_even q m m_fits)

    low_odd : (m n : ℕ) → m < 2 ^ k → n < 2 ^ k → bit_at (e (q * 2 ^ suc k + (2 ^ k + n))) m ≡ bit_at (b (q * 2 ^ suc k + m)) n
    low_odd m n m_fits n_fits =
        ap (λ (x : ℕ). bit_at (e x) m) (odd n) ∙ low_turned m (suc (q * 2)) n m_fits n_fits
        ∙ ap (λ (x : ℕ). bit_at (c x) n) (sym (odd m)) ∙ ap (λ (x : ℕ). bit_at x n) (changed.low_odd q m m_fits)

    high_even : (m n : ℕ) → m < 2 ^ k → n < 2 ^ k → bit_at (f (q * 2 ^ suc k + n)) m ≡ bit_at (a (q * 2 ^ suc k + (2 ^ k + m))) n
    high_even m n m_fits n_fits =
        ap (λ (x : ℕ). bit_at (f x) m) (even n) ∙ high_turned m (q * 2) n m_fits n_fits
        ∙ ap (λ (x : ℕ). bit_at (d x) n) (sym (even m)) ∙ ap (λ (x : ℕ). bit_at x n) (changed.high_even q m m_fits)

    high_odd : (m n : ℕ) → m < 2 ^ k → n < 2 ^ k → bit_at (f (q * 2 ^ suc k + (2 ^ k + n))) m ≡ bit_at (b (q * 2 ^ suc k + (2 ^ k + m))) n
    high_odd m n m_fits n_fits =
        ap (λ (x : ℕ). bit_at (f x) m) (odd n) ∙ high_turned m (suc (q * 2)) n m_fits n_fits
        ∙ ap (λ (x : ℕ). bit_at (d x) n) (sym (odd m)) ∙ ap (λ (x : ℕ). bit_at x n) (changed.high_odd q m m_fits)

    old : ℕ → ℕ
    old l = pair (2 ^ k) (a l) (b l)

    new : ℕ → ℕ
    new l = pair (2 ^ k) (e l) (f l)

    pick : (i < 2 ^ k) ⊎ (2 ^ k ≤ i) → (r < 2 ^ k) ⊎ (2 ^ k ≤ r)
        → bit_at (new (q * 2 ^ suc k + r)) i ≡ bit_at (old (q * 2 ^ suc k + i)) r
    pick (inl fi) (inl fr) =
        low (e (q * 2 ^ suc k + r)) (f (q * 2 ^ suc k + r)) i (e_fits (q * 2 ^ suc k + r)) fi ∙ low_even i r fi fr
        ∙ sym (low (a (q * 2 ^ suc k + i)) (b (q * 2 ^ suc k + i)) r (a_fits (q * 2 ^ suc k + i)) fr)
    pick (inl fi) (inr gr) =
        low (e (q * 2 ^ suc k + r)) (f (q * 2 ^ suc k + r)) i (e_fits (q * 2 ^ suc k + r)) fi
        ∙ ap (λ (x : ℕ). bit_at (e (q * 2 ^ suc k + x)) i) (split r gr) ∙ low_odd i (r - 2 ^ k) fi (rest r r_fits gr)
        ∙ sym (high (a (q * 2 ^ suc k + i)) (b (q * 2 ^ suc k + i)) r (a_fits (q * 2 ^ suc k + i)) gr)
    pick (inr gi) (inl fr) =
        high (e (q * 2 ^ suc k + r)) (f (q * 2 ^ suc k + r)) i (e_fits (q * 2 ^ suc k + r)) gi
        ∙ high_even (i - 2 ^ k) r (rest i i_fits gi) fr ∙ ap (λ (x : ℕ). bit_at (a (q * 2 ^ suc k + x)) r) (sym (split i gi))
        ∙ sym (low (a (q * 2 ^ suc k + i)) (b (q * 2 ^ suc k + i)) r (a_fits (q * 2 ^ suc k + i)) fr)
    pick (inr gi) (inr gr) =
        high (e (q * 2 ^ suc k + r)) (f (q * 2 ^ suc k + r)) i (e_fits (q * 2 ^ suc k + r)) gi
        ∙ ap (λ (x : ℕ). bit_at (f (q * 2 ^ suc k + x)) (i - 2 ^ k)) (split r gr)
        ∙ high_odd (i - 2 ^ k) (r - 2 ^ k) (rest i i_fits gi) (rest r r_fits gr)
        ∙ ap (λ (x : ℕ). bit_at (b (q * 2 ^ suc k + x)) (r - 2 ^ k)) (sym (split i gi))
        ∙ sym (high (a (q * 2 ^ suc k + i)) (b (q * 2 ^ suc k + i)) r (a_fits (q * 2 ^ suc k + i)) gr)
