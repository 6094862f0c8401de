-- Three rounds at once on eight rows.
use Rattle.std.proofs.Common.{◌≡◌, ℕ, ◌+◌, ◌*◌, ◌/◌, ◌%◌, ◌<◌, ◌≤◌, ◌&&◌, Bool, true, eqb, ltb, List, get_or, length, replicate, set, refl, sym, ap, subst, ◌∙◌, lit<, arith}
use Rattle.std.proofs.lemmas.Bool.Decides.{nat_tests}
use Rattle.std.proofs.lemmas.Nat.{div-add-mod', mul-le}
use Rattle.std.proofs.Math.Nat.{add-mul, mul_assoc}
use Rattle.bits_packed.specs.Rounds.{IsPairInterleaved, IsPassTo, first_row}
use Rattle.bits_packed.proofs.Rounds.{AreAt, pair_step, place_is, rows_begin, rows_end, upper_row}

-- of eight rows, in pairs that are b rows apart, row k is an upper one
abbrev is_upper : ℕ → ℕ → Bool
is_upper b k = ltb (k + b) 8 && eqb (8 / (2 * b) * (2 * b)) 8 && ltb (k % (2 * b)) b

module _ (width q s i : ℕ) (old before : List ℕ) (some : 0 < s) (is : width ≡ q * (8 * s)) (first : first_row s (8 * s) i ≡ i) where
  -- Rows k and k + b of the eight come from blocks of b * s lanes to blocks of twice as many.
  step : (b k : ℕ) {d p : ℕ} {mid now levels : List ℕ} → is_upper b k ≡ true → length levels ≡ 8 → get_or levels k 0 ≡ b * s
      → get_or levels (k + b) 0 ≡ b * s → d ≡ b * s → p ≡ i + k * s → IsPairInterleaved width d p mid now
      → AreAt width s i old before mid levels → AreAt width s i old before now (set (set levels k (2 * b * s)) (k + b) (2 * b * s))
  step b k {d} {p} {mid} {now} {levels} upper size level_k level_m lanes place pair so_far =
      pair_step width (q * (8 / (2 * b))) s i (b * s) (2 * b * s) k (k + b) old before mid now levels some many
      (is ∙ ap (λ (x : ℕ). q * x) count ∙ sym (mul_assoc q (8 / (2 * b)) (2 * (b * s))))
      double (omega (arith, facts.0)) (omega (arith, facts.0)) (omega (arith, add-mul k b s))
      (upper_row s (8 * s) i (b * s) (8 / (2 * b)) (k / (2 * b)) k some first count low high) level_k level_m
      (place_is width (b * s) (i + k * s) place (subst (λ (x : ℕ). IsPairInterleaved width x p mid now) lanes pair))
      so_far
    where
      facts : (k + b < 8) × (8 / (2 * b) * (2 * b) ≡ 8) × (k % (2 * b) < b)
      facts = grind (arith, nat_tests)

      many : 0 < b * s
      many = let more = mul-le 1 s b s (omega (arith, facts.2)) (omega arith) in omega (arith, more, some)

      double : 2 * b * s ≡ 2 * (b * s)
      double = mul_assoc 2 b s

      spread : (x : ℕ) → x * (2 * b) * s ≡ x * (2 * (b * s))
      spread x = mul_assoc x (2 * b) s ∙ ap (λ (y : ℕ). x * y) double

      count : 8 * s ≡ 8 / (2 * b) * (2 * (b * s))
      count = ap (λ (x : ℕ). x * s) (sym facts.1) ∙ spread (8 / (2 * b))

      low : k / (2 * b) * (2 * (b * s)) ≤ k * s
      low =
          let whole = div-add-mod' k (2 * b) in
          let up = mul-le (k / (2 * b) * (2 * b)) s k s (omega (arith, whole)) (omega arith) in
          omega (arith, up, spread (k / (2 * b)))

      high : k * s + s ≤ k / (2 * b) * (2 * (b * s)) + b * s
      high =
          let whole = div-add-mod' k (2 * b) in
          let up = mul-le (k + 1) s (k / (2 * b) * (2 * b) + b) s (omega (arith, whole, facts.2)) (omega arith) in
          omega (arith, up, spread (k / (2 * b)), add-mul k 1 s, add-mul (k / (2 * b) * (2 * b)) b s)

  -- after all twelve pairs, in the order of the code
  pub eight_done : {one two three four five six : ℕ} {r1 r2 r3 r4 r5 r6 r7 r8 r9 r10 r11 r12 : List ℕ} → i + 7 * s < width
      → one ≡ i + 1 * s → two ≡ i + 2 * s → three ≡ i + 3 * s → four ≡ i + 4 * s → five ≡ i + 5 * s → six ≡ i + 6 * s
      → IsPairInterleaved width s i before r1 → IsPairInterleaved width s two r1 r2
      → IsPairInterleaved width s four r2 r3 → IsPairInterleaved width s six r3 r4
      → IsPairInterleaved width (2 * s) i r4 r5 → IsPairInterleaved width (2 * s) one r5 r6
      → IsPairInterleaved width (2 * s) four r6 r7 → IsPairInterleaved width (2 * s) five r7 r8
      → IsPairInterleaved width (4 * s) i r8 r9 → IsPairInterleaved width (4 * s) one r9 r10
      → IsPairInterleaved width (4 * s) two r10 r11 → IsPairInterleaved width (4 * s) three r11 r12
      → IsPassTo width s (8 * s) i old before → IsPassTo width s (8 * s) (i + 1) old r12
  eight_done inside one two three four five six p1 p2 p3 p4 p5 p6 p7 p8 p9 p10 p11 p12 so_far =
      let none : i ≡ i + 0 * s = omega arith in
      let lanes : s ≡ 1 * s = omega arith in
      let begun = subst (λ (z : ℕ). AreAt width s i old before before (replicate 8 z)) lanes
      (rows_begin s (8 * s) 8 some refl width i old before first (7, refl, inside) so_far) in
      let once =
      step 1 6 refl refl refl refl lanes six p4 (step 1 4 refl refl refl refl lanes four p3
      (step 1 2 refl refl refl refl lanes two p2 (step 1 0 refl refl refl refl lanes none p1 begun))) in
      let twice =
      step 2 5 refl refl refl refl refl five p8 (step 2 4 refl refl refl refl refl four p7
      (step 2 1 refl refl refl refl refl one p6 (step 2 0 refl refl refl refl refl none p5 once))) in
      let thrice =
      step 4 3 refl refl refl refl refl three p12 (step 4 2 refl refl refl refl refl two p11
      (step 4 1 refl refl refl refl refl one p10 (step 4 0 refl refl refl refl refl none p9 twice))) in
      rows_end s (8 * s) 8 some refl width i old before _ _ first (lit< tt) refl thrice so_far
