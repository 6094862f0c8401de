-- Seven swaps of neighbouring fields are the reversal of 128 bits, since both keep sums and agree at the powers of two.
use Rattle.std.proofs.Common.{◌≡◌, ℕ, ◌*◌, ◌/◌, ◌%◌, ◌^◌, ◌<◌, true, List, [], ◌∷◌, refl, sym, ◌∙◌, ap, ap₂}
use Rattle.std.specs.Prelude.{bit_xor, bit_and}
use Rattle.std.specs.Int.{reverse_bits, reverse_bits_onto, w128}
use Rattle.std.proofs.lemmas.Nat.{xor_shr, xor_mod}
use Rattle.field_base.proofs.CarrylessProduct.{xor_shl}
use Rattle.field_base.proofs.AdditiveMaps.{KeepsSums, maps_agree, agree_on_powers, agree_on_powers-true}
use Rattle.word_carryless.proofs.Classes.{xor_and}
use Rattle.word_carryless.proofs.FieldSteps.{steps, steps-sum}
use Rattle.tags.specs.Swaps.{swap_step}
use Rattle.tags.proofs.ReversedBits.{reversed, reversed_xor}
use Rattle.field_base.proofs.RingLemmas.{xor_exchange}

-- a swap keeps sums
swap-sum : (s m : ℕ) → KeepsSums (swap_step s m)
swap-sum s m a b =
    ap₂ bit_xor (ap (λ (z : ℕ). bit_and z m) (xor_shr a b s) ∙ xor_and (a / 2 ^ s) (b / 2 ^ s) m)
    (ap (λ (z : ℕ). z * 2 ^ s % 2 ^ 128) (xor_and a b m)
    ∙ ap (λ (z : ℕ). z % 2 ^ 128) (sym (xor_shl s (bit_and a m) (bit_and b m)))
    ∙ xor_mod (bit_and a m * 2 ^ s) (bit_and b m * 2 ^ s) 128)
    ∙ xor_exchange (bit_and (a / 2 ^ s) m) (bit_and (b / 2 ^ s) m) (bit_and a m * 2 ^ s % 2 ^ 128) (bit_and b m * 2 ^ s % 2 ^ 128)

-- the swaps of the code
abbrev swaps : List (ℕ × ℕ)
swaps =
    (1, 0x5555_5555_5555_5555_5555_5555_5555_5555) ∷ (2, 0x3333_3333_3333_3333_3333_3333_3333_3333)
    ∷ (4, 0x0f0f_0f0f_0f0f_0f0f_0f0f_0f0f_0f0f_0f0f) ∷ (8, 0x00ff_00ff_00ff_00ff_00ff_00ff_00ff_00ff)
    ∷ (16, 0x0000_ffff_0000_ffff_0000_ffff_0000_ffff) ∷ (32, 0x0000_0000_ffff_ffff_0000_0000_ffff_ffff)
    ∷ (64, 0xffff_ffff_ffff_ffff) ∷ []

swapped : ℕ → ℕ
swapped x = steps swap_step swaps x

-- they give each power of two the other place (computed)
powers_agree : agree_on_powers swapped (reversed 128) 128 ≡ true
unfolding swapped steps reverse_bits_onto
powers_agree = refl

swapped-sum : KeepsSums swapped
unfolding swapped
swapped-sum = steps-sum swap_step swap-sum swaps

swapped_reversed : (x : ℕ) → x < 2 ^ 128 → swapped x ≡ reversed 128 x
swapped_reversed =
    maps_agree swapped (reversed 128) swapped-sum (reversed_xor 128) 128 (agree_on_powers-true swapped (reversed 128) 128 powers_agree)

-- the steps one after another, as the code calls them
pub swapped_word : (x a b c d e f r : ℕ) → x < 2 ^ 128 → a ≡ swap_step 1 0x5555_5555_5555_5555_5555_5555_5555_5555 x
    → b ≡ swap_step 2 0x3333_3333_3333_3333_3333_3333_3333_3333 a
    → c ≡ swap_step 4 0x0f0f_0f0f_0f0f_0f0f_0f0f_0f0f_0f0f_0f0f b
    → d ≡ swap_step 8 0x00ff_00ff_00ff_00ff_00ff_00ff_00ff_00ff c
    → e ≡ swap_step 16 0x0000_ffff_0000_ffff_0000_ffff_0000_ffff d
    → f ≡ swap_step 32 0x0000_0000_ffff_ffff_0000_0000_ffff_ffff e
    → r ≡ swap_step 64 0xffff_ffff_ffff_ffff f → r ≡ reverse_bits w128 x
unfolding swapped steps
swapped_word x a b c d e f r fits of_a of_b of_c of_d of_e of_f of_r =
    of_r
    ∙ ap (swap_step 64 0xffff_ffff_ffff_ffff)
    (of_f ∙ ap (swap_step 32 0x0000_0000_ffff_ffff_0000_0000_ffff_ffff)
    (of_e ∙ ap (swap_step 16 0x0000_ffff_0000_ffff_0000_ffff_0000_ffff)
    (of_d ∙ ap (swap_step 8 0x00ff_00ff_00ff_00ff_00ff_00ff_00ff_00ff)
    (of_c ∙ ap (swap_step 4 0x0f0f_0f0f_0f0f_0f0f_0f0f_0f0f_0f0f_0f0f)
    (of_b ∙ ap (swap_step 2 0x3333_3333_3333_3333_3333_3333_3333_3333) of_a)))))
    ∙ swapped_reversed x fits
