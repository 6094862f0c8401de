-- Blocks of vectors in memory: two halves as one, and blocks written one after the other.
use Rattle.std.proofs.Common.{◌≡◌, ℕ, suc, ◌+◌, ◌-◌, ◌*◌, ◌<◌, ◌≤◌, ◌^◌, ◌⊎◌, inl, inr, List, get_or, sym, ◌∙◌, ap, subst, arith}
use Rattle.std.specs.Int.{bit_at}
use Rattle.std.proofs.lemmas.Bool.{cases_lt}
use Rattle.std.proofs.lemmas.Nat.{mul-le}
use Rattle.std.proofs.Math.Nat.{add-mul}
use Rattle.std.proofs.lemmas.Nat.Bits.{bit_at_cat_high, bit_at_cat_low}
use native.Mathlib.Nat.{pow-suc}
use Rattle.field_base.specs.Quadratic.{pair}
use Rattle.bit_slices.specs.Layout.{AreKept, IsLaidOut}

-- two halves have twice as many words
pub twice : (k each : ℕ) → 2 ^ suc k * each ≡ 2 ^ k * each + 2 ^ k * each
twice k each =
    let double : 2 ^ suc k ≡ 2 ^ k + 2 ^ k = pow-suc 2 k ∙ omega arith in
    ap (λ (x : ℕ). x * each) double ∙ add-mul (2 ^ k) (2 ^ k) each

-- word q of vector v is one of the words of v vectors and one more
pub inside : (count v each q : ℕ) → v < count → q < each → v * each + q < count * each
inside count v each q v_fits q_fits =
    let more = mul-le (v + 1) each count each (omega (arith, v_fits)) (omega arith) in
    let next = add-mul v 1 each in
    omega (arith, more, next, q_fits)

-- two halves that lie one behind the other
pub laid_out_pairs : (k width each start middle : ℕ) (low high word : ℕ → ℕ) → ((l : ℕ) → low l < 2 ^ 2 ^ k) → middle ≡ start + 2 ^ k * each
    → IsLaidOut width each (2 ^ k) low (λ n. word (start + n)) → IsLaidOut width each (2 ^ k) high (λ n. word (middle + n))
    → IsLaidOut width each (2 ^ suc k) (λ l. pair (2 ^ k) (low l) (high l)) (λ n. word (start + n))
laid_out_pairs k width each start middle low high word low_fits next first second = record { bits = bits; fit = fit }
  where
    double : 2 ^ suc k ≡ 2 ^ k + 2 ^ k
    double = pow-suc 2 k ∙ omega arith

    -- where a word of the second half is
    place : (v q : ℕ) → 2 ^ k ≤ v → middle + ((v - 2 ^ k) * each + q) ≡ start + (v * each + q)
    place v q more =
        let whole = add-mul (v - 2 ^ k) (2 ^ k) each in
        let same : (v - 2 ^ k + 2 ^ k) * each ≡ v * each = ap (λ (x : ℕ). x * each) (omega (arith, more)) in
        omega (arith, next, whole, same)

    bits : (v q i : ℕ) → v < 2 ^ suc k → q < each → i < width
        → bit_at (pair (2 ^ k) (low (q * width + i)) (high (q * width + i))) v ≡ bit_at (word (start + (v * each + q))) i
    bits v q i v_fits q_fits i_fits = pick (cases_lt v (2 ^ k))
      where
        pick : (v < 2 ^ k) ⊎ (2 ^ k ≤ v)
            → bit_at (pair (2 ^ k) (low (q * width + i)) (high (q * width + i))) v ≡ bit_at (word (start + (v * each + q))) i
        pick (inl less) =
            bit_at_cat_low (high (q * width + i)) (2 ^ k) (low (q * width + i)) v less ∙ first.bits v q i less q_fits i_fits
        pick (inr more) =
            bit_at_cat_high (high (q * width + i)) (2 ^ k) (low (q * width + i)) v (low_fits (q * width + i)) more
            ∙ second.bits (v - 2 ^ k) q i (omega (arith, v_fits, double, more)) q_fits i_fits
            ∙ ap (λ (n : ℕ). bit_at (word n) i) (place v q more)

    fit : (v q : ℕ) → v < 2 ^ suc k → q < each → word (start + (v * each + q)) < 2 ^ width
    fit v q v_fits q_fits = pick (cases_lt v (2 ^ k))
      where
        pick : (v < 2 ^ k) ⊎ (2 ^ k ≤ v) → word (start + (v * each + q)) < 2 ^ width
        pick (inl less) = first.fit v q less q_fits
        pick (inr more) =
            subst (λ (n : ℕ). word n < 2 ^ width) (place v q more)
            (second.fit (v - 2 ^ k) q (omega (arith, v_fits, double, more)) q_fits)

-- what lies before a block that is written stays
pub still_laid_out : {W : Type 0} (width each count start behind : ℕ) (number : W → ℕ) (before after : List W) (d : W) (lane : ℕ → ℕ)
    → {middle : ℕ} → middle ≡ start + count * each → AreKept middle behind before after
    → IsLaidOut width each count lane (λ n. number (get_or before (start + n) d))
    → IsLaidOut width each count lane (λ n. number (get_or after (start + n) d))
still_laid_out width each count start behind number before after d lane {middle} is kept laid =
    record {
      bits = λ v q i v_fits q_fits i_fits. laid.bits v q i v_fits q_fits i_fits ∙ ap (λ (x : ℕ). bit_at x i) (sym (same v q v_fits q_fits));
      fit = λ v q v_fits q_fits. subst (λ (x : ℕ). x < 2 ^ width) (sym (same v q v_fits q_fits)) (laid.fit v q v_fits q_fits);
    }
  where
    same : (v q : ℕ) → v < count → q < each → number (get_or after (start + (v * each + q)) d) ≡ number (get_or before (start + (v * each + q)) d)
    same v q v_fits q_fits =
        let less = inside count v each q v_fits q_fits in
        ap number (kept.below (start + (v * each + q)) (omega (arith, is, less)) d)

-- what two blocks one behind the other keep
pub kept_behind : {W : Type 0} (start first second middle all : ℕ) (old between new : List W) → middle ≡ start + first → all ≡ first + second
    → AreKept start first old between → AreKept middle second between new → AreKept start all old new
kept_behind start first second middle all old between new is sum once again =
    record {
      long = again.long ∙ once.long;
      below = λ p less d. again.below p (omega (arith, is, less)) d ∙ once.below p less d;
      above = λ p d.
          let place : start + all + p ≡ middle + second + p = omega (arith, is, sum) in
          let far : start + all + p ≡ start + first + (second + p) = omega (arith, is, sum) in
          ap (λ (n : ℕ). get_or new n d) place ∙ again.above p d ∙ ap (λ (n : ℕ). get_or between n d) (sym place ∙ far)
          ∙ once.above (second + p) d ∙ ap (λ (n : ℕ). get_or old n d) (sym far);
    }

pub kept_twice : {W : Type 0} (k each start middle : ℕ) (old between new : List W) → middle ≡ start + 2 ^ k * each
    → AreKept start (2 ^ k * each) old between → AreKept middle (2 ^ k * each) between new → AreKept start (2 ^ suc k * each) old new
kept_twice k each start middle old between new is once again =
    kept_behind start (2 ^ k * each) (2 ^ k * each) middle (2 ^ suc k * each) old between new is (twice k each) once again
