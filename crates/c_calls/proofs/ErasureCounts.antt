-- What a code computes with is determined by its numbers of shards; and how a call ends that has no code, or too little space.
use Rattle.std.proofs.Common.{◌≡◌, ℕ, ◌+◌, ◌^◌, ◌<◌, ◌≤◌, refl, subst, arith}
use Rattle.reed_solomon.specs.TransformSizes.{IsPadded}
use Rattle.reed_solomon.specs.declared.transform_codec.TransformCode.{TransformCode}
use Rattle.c_calls.specs.Bytes.{CallOfCode}
use Rattle.c_calls.specs.Erasure.{AreCounts}
use Rattle.c_calls.specs.declared.status.TheConstants.{CODE, LENGTH}

-- the least power of two that is not below k is one
same_power : (k l n r : ℕ) → k ≡ l → IsPadded k n → IsPadded l r → n ≡ r
same_power k l n r same one other =
    let before = one.least r (omega (arith, other.enough, same)) in
    let behind = other.least n (omega (arith, one.enough, same)) in
    omega (arith, before, behind)

-- what holds at the numbers of a code holds at all that are counts of so many shards
pub at_counts : (P : ℕ → ℕ → ℕ → ℕ → Type 0) (k l m p n q r s : ℕ) → k ≡ l → m ≡ p → IsPadded k n → IsPadded (2 ^ n + m) r
    → P k m n r → AreCounts l p q s → P l p q s
at_counts P k l m p n q r s k_is m_is padded all here counts =
    let n_is : n ≡ q = same_power k l n q k_is padded counts.coefficients in
    let sum_is : 2 ^ n + m ≡ 2 ^ q + p = subst (λ (x : ℕ). 2 ^ n + m ≡ 2 ^ x + p) n_is (omega (arith, m_is)) in
    let r_is : r ≡ s = same_power (2 ^ n + m) (2 ^ q + p) r s sum_is all counts.points in
    subst (λ (x : ℕ). P l p q x) r_is (subst (λ (x : ℕ). P l p x r) n_is
    (subst (λ (x : ℕ). P l x n r) m_is (subst (λ (x : ℕ). P x m n r) k_is here)))

-- so it is of a code itself
pub at_code : (P : ℕ → ℕ → ℕ → ℕ → Type 0) (code : TransformCode) (k m n r : ℕ) → code.data_shards ≡ k → code.parity_shards ≡ m
    → P code.data_shards code.parity_shards code.levels code.all_levels → AreCounts k m n r → P k m n r
at_code P code k m n r k_is m_is here counts =
    at_counts P code.data_shards k code.parity_shards m code.levels n code.all_levels r k_is m_is code.padded code.all here counts

-- a call that has no code, or less space than it needs, keeps what there was
pub refused : {T : Type 0} {code fits enough written : Type 0} {old : T} {status needed space : ℕ} → (¬ code → status ≡ CODE)
    → (code → (status ≡ LENGTH) × (space < needed)) → (fits → needed ≤ space) → CallOfCode code fits enough written old old status
refused no_code no_room room = record {
  code = no_code;
  length = λ is misfit. (no_room is).0;
  few = λ is fit missing. absurd (omega (arith, (no_room is).1, room fit));
  ok = λ is fit all. absurd (omega (arith, (no_room is).1, room fit));
  kept = λ failed. refl;
}
