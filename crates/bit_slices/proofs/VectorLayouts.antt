-- Words in one vector: in 128 bits, and in twice as many.
use Rattle.std.proofs.Common.{◌≡◌, ℕ, ◌+◌, ◌-◌, ◌*◌, ◌/◌, ◌%◌, ◌<◌, ◌≤◌, ◌^◌, ◌⊎◌, inl, inr, List, sym, ◌∙◌, ap, ap₂, subst, arith}
use Rattle.std.specs.Prelude.{slice_index}
use Rattle.std.specs.Int.{bit_at}
use Rattle.std.proofs.lemmas.Bool.{cases_lt}
use Rattle.std.proofs.lemmas.Nat.Bits.{bit_at-lt, bit_at_cat_high, bit_at_cat_low}
use Rattle.std.proofs.Math.Nat.{add-mul, mul_comm}
use Rattle.field_base.specs.Chunks.{chunk}
use Rattle.field_base.proofs.ChunkLists.{chunk-lt}
use Rattle.packed_lanes.proofs.LaneLemmas.{lane-part}
use Rattle.bit_slices.specs.Lanes.{bit_lane}
use Rattle.bit_slices.specs.Layout.{IsLaidOut}
use Rattle.bit_slices.proofs.Layouts.{inside}

-- the lanes of two words from word n on are the bits of their number
pub lanes_of_two : (x : List ℕ) (n number : ℕ) → number ≡ slice_index x (n + 1) * 2 ^ 64 + slice_index x n → slice_index x n < 2 ^ 64
    → (l : ℕ) → l < 128 → bit_lane x (n * 64 + l) ≡ bit_at number l
lanes_of_two x n number is fits l less = cases (cases_lt l 64)
  where
    at : (place word bit : ℕ) → place / 64 ≡ word → place % 64 ≡ bit → bit_lane x place ≡ bit_at (slice_index x word) bit
    at place word bit same_word same_bit = ap₂ (λ (w b : ℕ). bit_at (slice_index x w) b) same_word same_bit

    cases : (l < 64) ⊎ (64 ≤ l) → bit_lane x (n * 64 + l) ≡ bit_at number l
    cases (inl below) =
        at (n * 64 + l) n l (omega (arith, below)) (omega (arith, below))
        ∙ sym (bit_at_cat_low (slice_index x (n + 1)) 64 (slice_index x n) l below) ∙ ap (λ (w : ℕ). bit_at w l) (sym is)
    cases (inr more) =
        at (n * 64 + l) (n + 1) (l - 64) (omega (arith, more, less)) (omega (arith, more, less))
        ∙ sym (bit_at_cat_high (slice_index x (n + 1)) 64 (slice_index x n) l fits more) ∙ ap (λ (w : ℕ). bit_at w l) (sym is)

-- `lanes_of_two` for the first two words
pub lanes_of_first : (x : List ℕ) (number : ℕ) → number ≡ slice_index x 1 * 2 ^ 64 + slice_index x 0 → slice_index x 0 < 2 ^ 64
    → (l : ℕ) → l < 128 → bit_lane x l ≡ bit_at number l
lanes_of_first x number is fits l less = ap (bit_lane x) (omega arith) ∙ lanes_of_two x 0 number is fits l less

-- a bit is its own lowest bit
lowest : (b : ℕ) → b < 2 → bit_at b 0 ≡ b
lowest b less = omega (arith, less)

-- digits of a number of 128 bits lie in a vector of as many
pub laid_out_digits : (w each number : ℕ) (lane word : ℕ → ℕ) → w * each ≡ 128 → ((l : ℕ) → l < 128 → lane l ≡ bit_at number l)
    → ((q : ℕ) → q < each → word q ≡ chunk w q number) → IsLaidOut w each 1 lane word
laid_out_digits w each number lane word whole lanes digits =
    record {
      bits = λ v q i v_fits q_fits i_fits.
          let is : v ≡ 0 = omega (arith, v_fits) in
          let turned = mul_comm q w in
          let all = mul_comm w each in
          let less = inside each q w i q_fits i_fits in
          let place : q * w + i ≡ w * q + i = omega (arith, turned) in
          let first : v * each + q ≡ q = ap (λ (n : ℕ). n * each + q) is ∙ omega arith in
          ap₂ (λ (x n : ℕ). bit_at x n) (lanes (q * w + i) (omega (arith, less, all, whole))) is
          ∙ lowest (bit_at number (q * w + i)) (bit_at-lt number (q * w + i))
          ∙ ap (bit_at number) place ∙ sym (lane-part w number q i i_fits) ∙ ap (λ (x : ℕ). bit_at x i) (sym (digits q q_fits))
          ∙ ap (λ (n : ℕ). bit_at (word n) i) (sym first);
      fit = λ v q v_fits q_fits.
          let is : v ≡ 0 = omega (arith, v_fits) in
          let first : v * each + q ≡ q = ap (λ (n : ℕ). n * each + q) is ∙ omega arith in
          subst (λ (n : ℕ). word n < 2 ^ w) (sym first) (subst (λ (x : ℕ). x < 2 ^ w) (sym (digits q q_fits)) (chunk-lt w q number));
    }

-- words of two times 128 bits, one behind the other
pub laid_out_twice : (w each start middle : ℕ) (lane word : ℕ → ℕ) → w * each ≡ 128 → middle ≡ start + each
    → IsLaidOut w each 1 lane (λ n. word (start + n)) → IsLaidOut w each 1 (λ l. lane (128 + l)) (λ n. word (middle + n))
    → IsLaidOut w (2 * each) 1 lane (λ n. word (start + n))
laid_out_twice w each start middle lane word whole next first second = record { bits = bits; fit = fit }
  where
    place : (v q : ℕ) → v < 1 → each ≤ q → middle + (v * each + (q - each)) ≡ start + (v * (2 * each) + q)
    place v q v_fits more =
        let is : v ≡ 0 = omega (arith, v_fits) in
        let none : v * each ≡ 0 = ap (λ (n : ℕ). n * each) is ∙ omega arith in
        let nothing : v * (2 * each) ≡ 0 = ap (λ (n : ℕ). n * (2 * each)) is ∙ omega arith in
        omega (arith, next, none, nothing, more)

    near : (v q : ℕ) → v < 1 → start + (v * each + q) ≡ start + (v * (2 * each) + q)
    near v q v_fits =
        let is : v ≡ 0 = omega (arith, v_fits) in
        let none : v * each ≡ 0 = ap (λ (n : ℕ). n * each) is ∙ omega arith in
        let nothing : v * (2 * each) ≡ 0 = ap (λ (n : ℕ). n * (2 * each)) is ∙ omega arith in
        omega (arith, none, nothing)

    far : (q i : ℕ) → each ≤ q → q * w + i ≡ 128 + ((q - each) * w + i)
    far q i more =
        let parts = add-mul (q - each) each w in
        let all : (q - each + each) * w ≡ q * w = ap (λ (n : ℕ). n * w) (omega (arith, more)) in
        let turned = mul_comm w each in
        omega (arith, parts, all, turned, whole)

    bits : (v q i : ℕ) → v < 1 → q < 2 * each → i < w → bit_at (lane (q * w + i)) v ≡ bit_at (word (start + (v * (2 * each) + q))) i
    bits v q i v_fits q_fits i_fits = pick (cases_lt q each)
      where
        pick : (q < each) ⊎ (each ≤ q) → bit_at (lane (q * w + i)) v ≡ bit_at (word (start + (v * (2 * each) + q))) i
        pick (inl less) = first.bits v q i v_fits less i_fits ∙ ap (λ (n : ℕ). bit_at (word n) i) (near v q v_fits)
        pick (inr more) =
            ap (λ (l : ℕ). bit_at (lane l) v) (far q i more) ∙ second.bits v (q - each) i v_fits (omega (arith, q_fits, more)) i_fits
            ∙ ap (λ (n : ℕ). bit_at (word n) i) (place v q v_fits more)

    fit : (v q : ℕ) → v < 1 → q < 2 * each → word (start + (v * (2 * each) + q)) < 2 ^ w
    fit v q v_fits q_fits = pick (cases_lt q each)
      where
        pick : (q < each) ⊎ (each ≤ q) → word (start + (v * (2 * each) + q)) < 2 ^ w
        pick (inl less) = subst (λ (n : ℕ). word n < 2 ^ w) (near v q v_fits) (first.fit v q v_fits less)
        pick (inr more) =
            subst (λ (n : ℕ). word n < 2 ^ w) (place v q v_fits more) (second.fit v (q - each) v_fits (omega (arith, q_fits, more)))
