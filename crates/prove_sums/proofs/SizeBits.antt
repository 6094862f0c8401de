-- Sizes by the bits of soundness that they reach.
use Rattle.std.proofs.Common.{◌≡◌, ◌⊎◌, inl, inr, ℕ, suc, ◌*◌, ◌^◌, ◌<◌, ◌≤◌, sym, ◌∙◌, subst, le_trans, arith, lit<}
use Rattle.std.proofs.Math.Nat.{mul-le-mul_right, pow-le-pow_right}
use Rattle.prove_sums.specs.Bits.{AreFor, AreMostBits, HaveSoundBits, error_parts, whole_parts}

-- fewer bits are reached where more are
pub bits-reached : (m n bits most : ℕ) → bits ≤ most → AreMostBits m n most → HaveSoundBits m n bits
bits-reached m n bits most less is = le_trans (mul-le-mul_right (error_parts m n) (pow-le-pow_right (lit< tt) less)) is.bound

-- and more than the most are not
pub bits-missed : (m n bits most : ℕ) → most < bits → AreMostBits m n most → HaveSoundBits m n bits → ⊥
bits-missed m n bits most less is bound =
    apart (whole_parts m) (2 ^ suc most * error_parts m n) (2 ^ bits * error_parts m n) is.most
    (mul-le-mul_right (error_parts m n) (pow-le-pow_right (lit< tt) less)) bound
  where
    apart : (whole least all : ℕ) → whole < least → least ≤ all → all ≤ whole → ⊥
    apart whole least all one two three = absurd (omega (arith, one, two, three))

-- there is one m for so many bits
pub one-for : (bits n m k : ℕ) → AreFor bits m n → AreFor bits k n → m ≡ k
one-for bits n m k one other = pick one.1 other.1
  where
    pick : (m ≡ 7) ⊎ ((m ≡ 8) × (HaveSoundBits 7 n bits → ⊥)) → (k ≡ 7) ⊎ ((k ≡ 8) × (HaveSoundBits 7 n bits → ⊥)) → m ≡ k
    pick (inl seven) (inl also) = seven ∙ sym also
    pick (inl seven) (inr eight) = absurd (eight.1 (subst (λ (q : ℕ). HaveSoundBits q n bits) seven one.0))
    pick (inr eight) (inl seven) = absurd (eight.1 (subst (λ (q : ℕ). HaveSoundBits q n bits) seven other.0))
    pick (inr eight) (inr also) = eight.0 ∙ sym also.0

-- what is said of the sizes of one table is said of those of another of as many elements, for the same bits
pub sizes-moved : (says : ℕ → ℕ → Type 0) (bits : ℕ) {m n k l : ℕ} → n ≡ l → AreFor bits m n → AreFor bits k l → says m n → says k l
sizes-moved says bits {m} {n} {k} {l} same one other holds =
    subst (λ (q : ℕ). says q l) (one-for bits l m k (subst (λ (v : ℕ). AreFor bits m v) same one) other)
    (subst (λ (v : ℕ). says m v) same holds)
