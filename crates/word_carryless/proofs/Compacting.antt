-- The bits at the even places of a word, moved together, are the carryless root of those bits, since both sides keep sums.
use Rattle.std.proofs.Common.{◌≡◌, ℕ, ◌+◌, ◌*◌, ◌/◌, ◌%◌, ◌^◌, ◌<◌, true, List, [], ◌∷◌, refl, sym, ◌∙◌, ap, ap₂, arith, lit≤}
use Rattle.std.specs.Prelude.{bit_xor, bit_and}
use Rattle.std.proofs.lemmas.Nat.{and_mask, xor_shr, shl_whole}
use native.Mathlib.Nat.{mul_assoc}
use Rattle.field_base.specs.Carryless.{carryless, carryless_in}
use Rattle.field_base.proofs.CarrylessProduct.{xor_shl, carryless_shl, shl_carryless}
use Rattle.field_base.proofs.AdditiveMaps.{KeepsSums, maps_agree, agree_on_powers, agree_on_powers-true}
use Rattle.word_carryless.specs.Compact.{compact_step, even_places}
use Rattle.word_carryless.proofs.Classes.{xor_and}
use Rattle.word_carryless.proofs.FieldSteps.{steps, steps-sum}
use Rattle.word_carryless.proofs.Squares.{square_sum}
use Rattle.field_base.proofs.RingLemmas.{xor_exchange}

-- ---- a word

-- a mask keeps sums
pub masked-sum : (m : ℕ) → KeepsSums (λ x. bit_and x m)
masked-sum m a b = xor_and a b m

-- a shift and a mask of the code keep sums
step-sum : (s m : ℕ) → KeepsSums (compact_step s m)
step-sum s m a b =
    ap (λ (z : ℕ). bit_and (bit_xor (bit_xor a b) z) m) (xor_shr a b s)
    ∙ ap (λ (z : ℕ). bit_and z m) (xor_exchange a b (a / 2 ^ s) (b / 2 ^ s))
    ∙ xor_and (bit_xor a (a / 2 ^ s)) (bit_xor b (b / 2 ^ s)) m

-- the shifts and masks of the code
abbrev joins : List (ℕ × ℕ)
joins =
    (1, 0x3333_3333_3333_3333) ∷ (2, 0x0f0f_0f0f_0f0f_0f0f) ∷ (4, 0x00ff_00ff_00ff_00ff) ∷ (8, 0x0000_ffff_0000_ffff)
    ∷ (16, 0xffff_ffff) ∷ []

-- the bits at the even places, moved together
abbrev compact : ℕ → ℕ
compact x = steps compact_step joins (bit_and x (even_places 64))

-- moving the even places together keeps sums
compact-sum : KeepsSums compact
compact-sum a b =
    ap (steps compact_step joins) (masked-sum (even_places 64) a b)
    ∙ steps-sum compact_step step-sum joins (bit_and a (even_places 64)) (bit_and b (even_places 64))

-- at every power of two the carryless square of the moved bits is the bits at the even places (computed)
powers_agree : agree_on_powers (λ x. carryless (compact x) (compact x)) (λ x. bit_and x (even_places 64)) 64 ≡ true
unfolding steps carryless carryless_in
powers_agree = refl

-- the carryless square of the moved bits is the bits at the even places
compact-square : (x : ℕ) → x < 2 ^ 64 → carryless (compact x) (compact x) ≡ bit_and x (even_places 64)
compact-square =
    maps_agree (λ x. carryless (compact x) (compact x)) (λ x. bit_and x (even_places 64))
    (λ a b. ap (λ (z : ℕ). carryless z z) (compact-sum a b) ∙ square_sum (compact a) (compact b)) (masked-sum (even_places 64)) 64
    (agree_on_powers-true (λ x. carryless (compact x) (compact x)) (λ x. bit_and x (even_places 64)) 64 powers_agree)

-- the steps one after another, as the code calls them
pub compact_word : (x b c d e : ℕ) → x < 2 ^ 64
    → b ≡ compact_step 1 0x3333_3333_3333_3333 (bit_and x (even_places 64))
    → c ≡ compact_step 2 0x0f0f_0f0f_0f0f_0f0f b → d ≡ compact_step 4 0x00ff_00ff_00ff_00ff c
    → e ≡ compact_step 8 0x0000_ffff_0000_ffff d
    → carryless (compact_step 16 0xffff_ffff e) (compact_step 16 0xffff_ffff e) ≡ bit_and x (even_places 64)
unfolding steps
compact_word x b c d e fits of_b of_c of_d of_e =
    ap (λ (z : ℕ). carryless (compact_step 16 0xffff_ffff z) (compact_step 16 0xffff_ffff z))
    (of_e
    ∙ ap (compact_step 8 0x0000_ffff_0000_ffff)
    (of_d
    ∙ ap (compact_step 4 0x00ff_00ff_00ff_00ff) (of_c ∙ ap (compact_step 2 0x0f0f_0f0f_0f0f_0f0f) of_b)))
    ∙ compact-square x fits

-- ---- a double word by its words

-- the even places of the words are those of the double word
split_mask : (x : ℕ) → x < 2 ^ 128
    → bit_xor (bit_and (x / 2 ^ 64) (even_places 64) * 2 ^ 64) (bit_and (bit_and x 0xffff_ffff_ffff_ffff) (even_places 64))
    ≡ bit_and x (even_places 128)
split_mask =
    maps_agree
    (λ x. bit_xor (bit_and (x / 2 ^ 64) (even_places 64) * 2 ^ 64) (bit_and (bit_and x 0xffff_ffff_ffff_ffff) (even_places 64)))
    (λ x. bit_and x (even_places 128)) sums (masked-sum (even_places 128)) 128
    (agree_on_powers-true
    (λ x. bit_xor (bit_and (x / 2 ^ 64) (even_places 64) * 2 ^ 64) (bit_and (bit_and x 0xffff_ffff_ffff_ffff) (even_places 64)))
    (λ x. bit_and x (even_places 128)) 128 refl)
  where
    sums : KeepsSums (λ x. bit_xor (bit_and (x / 2 ^ 64) (even_places 64) * 2 ^ 64) (bit_and (bit_and x 0xffff_ffff_ffff_ffff) (even_places 64)))
    sums a b =
        ap₂ bit_xor
        (ap (λ (z : ℕ). bit_and z (even_places 64) * 2 ^ 64) (xor_shr a b 64)
        ∙ ap (λ (z : ℕ). z * 2 ^ 64) (xor_and (a / 2 ^ 64) (b / 2 ^ 64) (even_places 64))
        ∙ sym (xor_shl 64 (bit_and (a / 2 ^ 64) (even_places 64)) (bit_and (b / 2 ^ 64) (even_places 64))))
        (ap (λ (z : ℕ). bit_and z (even_places 64)) (xor_and a b 0xffff_ffff_ffff_ffff)
        ∙ xor_and (bit_and a 0xffff_ffff_ffff_ffff) (bit_and b 0xffff_ffff_ffff_ffff) (even_places 64))
        ∙ xor_exchange (bit_and (a / 2 ^ 64) (even_places 64) * 2 ^ 64) (bit_and (b / 2 ^ 64) (even_places 64) * 2 ^ 64) _ _

-- the even places of a double word, from those of its low and of its high word
pub compact_double_word : (x x0 x1 low high : ℕ) → x < 2 ^ 128 → x0 < 2 ^ 64 → high < 2 ^ 32 → x ≡ x1 * 2 ^ 64 + x0
    → carryless low low ≡ bit_and x0 (even_places 64) → carryless high high ≡ bit_and x1 (even_places 64)
    → carryless (bit_xor (high * 2 ^ 32 % 2 ^ 64) low) (bit_xor (high * 2 ^ 32 % 2 ^ 64) low) ≡ bit_and x (even_places 128)
compact_double_word x x0 x1 low high fits low_fits high_fits of_x of_low of_high =
    let is_low : x0 ≡ x % 2 ^ 64 = omega arith in
    let is_high : x1 ≡ x / 2 ^ 64 = omega arith in
    ap (λ (z : ℕ). carryless (bit_xor z low) (bit_xor z low)) (shl_whole high 32 32 64 high_fits (lit≤ tt))
    ∙ square_sum (high * 2 ^ 32) low
    ∙ ap₂ bit_xor
    (carryless_shl 32 (high * 2 ^ 32) high ∙ ap (λ (z : ℕ). z * 2 ^ 32) (shl_carryless 32 high high)
    ∙ mul_assoc (carryless high high) (2 ^ 32) (2 ^ 32)
    ∙ ap (λ (z : ℕ). z * 2 ^ 64) (of_high ∙ ap (λ (z : ℕ). bit_and z (even_places 64)) is_high))
    (of_low ∙ ap (λ (z : ℕ). bit_and z (even_places 64)) (is_low ∙ sym (and_mask x 64)))
    ∙ split_mask x fits
