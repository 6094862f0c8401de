-- The sums of four images, and images that stand at a place of a longer list.
use Rattle.std.proofs.Common.{◌≡◌, ℕ, zero, suc, ◌+◌, ◌*◌, ◌^◌, ◌<◌, ◌≤◌, List, [], ◌∷◌, length, sym, ◌∙◌, ap, ap₂, arith, lit<}
use Rattle.std.specs.Prelude.{bit_xor, slice_index}
use native.Mathlib.Nat.{add-zero}
use Rattle.std.proofs.lemmas.Nat.{pow-add, pow_pos, xor_lt}
use Rattle.field_base.specs.LinearMaps.{linear_image}
use Rattle.field_base.proofs.AdditiveMaps.{keeps_zero}
use Rattle.field_base.proofs.CarrylessProduct.{xor_shl}
use Rattle.field_base.proofs.LinearMapLemmas.{the_linear_map}

module _ (a b c d : ℕ) where
  abbrev four : List ℕ
  four = a ∷ b ∷ c ∷ d ∷ []

  abbrev pub sums : List ℕ
  sums =
      0 ∷ a ∷ b ∷ bit_xor a b ∷ c ∷ bit_xor a c ∷ bit_xor b c ∷ bit_xor (bit_xor a b) c ∷ d ∷ bit_xor a d ∷ bit_xor b d ∷ bit_xor (bit_xor a b) d
      ∷ bit_xor c d ∷ bit_xor a (bit_xor c d) ∷ bit_xor b (bit_xor c d) ∷ bit_xor (bit_xor a b) (bit_xor c d) ∷ []

  -- the value of the map, and that of a sum
  abbrev value : ℕ → ℕ
  value = linear_image four

  both : (m n : ℕ) {x y : ℕ} → x ≡ value m → y ≡ value n → bit_xor x y ≡ value (bit_xor m n)
  both m n first second = ap₂ bit_xor first second ∙ sym ((the_linear_map four).of_sum m n)

  nothing : 0 ≡ value 0
  nothing = sym (keeps_zero value (the_linear_map four).of_sum)

  one : a ≡ value 1
  one = sym ((the_linear_map four).of_bit 0 (lit< tt))

  two : b ≡ value 2
  two = sym ((the_linear_map four).of_bit 1 (lit< tt))

  fourth : c ≡ value 4
  fourth = sym ((the_linear_map four).of_bit 2 (lit< tt))

  eighth : d ≡ value 8
  eighth = sym ((the_linear_map four).of_bit 3 (lit< tt))

  pub sums_of_four : (n : ℕ) → n < 16 → slice_index sums n ≡ linear_image four n
  sums_of_four zero below = nothing
  sums_of_four (suc zero) below = one
  sums_of_four (suc (suc zero)) below = two
  sums_of_four (suc (suc (suc zero))) below = both 1 2 one two
  sums_of_four (suc (suc (suc (suc zero)))) below = fourth
  sums_of_four (suc (suc (suc (suc (suc zero))))) below = both 1 4 one fourth
  sums_of_four (suc (suc (suc (suc (suc (suc zero)))))) below = both 2 4 two fourth
  sums_of_four (suc (suc (suc (suc (suc (suc (suc zero))))))) below = both 3 4 (both 1 2 one two) fourth
  sums_of_four (suc (suc (suc (suc (suc (suc (suc (suc zero)))))))) below = eighth
  sums_of_four (suc (suc (suc (suc (suc (suc (suc (suc (suc zero))))))))) below = both 1 8 one eighth
  sums_of_four (suc (suc (suc (suc (suc (suc (suc (suc (suc (suc zero)))))))))) below = both 2 8 two eighth
  sums_of_four (suc (suc (suc (suc (suc (suc (suc (suc (suc (suc (suc zero))))))))))) below = both 3 8 (both 1 2 one two) eighth
  sums_of_four (suc (suc (suc (suc (suc (suc (suc (suc (suc (suc (suc (suc zero)))))))))))) below = both 4 8 fourth eighth
  sums_of_four (suc (suc (suc (suc (suc (suc (suc (suc (suc (suc (suc (suc (suc zero))))))))))))) below = both 1 12 one (both 4 8 fourth eighth)
  sums_of_four (suc (suc (suc (suc (suc (suc (suc (suc (suc (suc (suc (suc (suc (suc zero)))))))))))))) below = both 2 12 two (both 4 8 fourth eighth)
  sums_of_four (suc (suc (suc (suc (suc (suc (suc (suc (suc (suc (suc (suc (suc (suc (suc zero))))))))))))))) below = both 3 12 (both 1 2 one two) (both 4 8 fourth eighth)
  sums_of_four (suc (suc (suc (suc (suc (suc (suc (suc (suc (suc (suc (suc (suc (suc (suc (suc n)))))))))))))))) below = absurd (omega (arith, below))

  -- they have as many bits as the images
  pub sums_fit : (w : ℕ) → a < 2 ^ w → b < 2 ^ w → c < 2 ^ w → d < 2 ^ w → (n : ℕ) → n < 16 → slice_index sums n < 2 ^ w
  sums_fit w fa fb fc fd zero below = pow_pos w
  sums_fit w fa fb fc fd (suc zero) below = fa
  sums_fit w fa fb fc fd (suc (suc zero)) below = fb
  sums_fit w fa fb fc fd (suc (suc (suc zero))) below = xor_lt w a b fa fb
  sums_fit w fa fb fc fd (suc (suc (suc (suc zero)))) below = fc
  sums_fit w fa fb fc fd (suc (suc (suc (suc (suc zero))))) below = xor_lt w a c fa fc
  sums_fit w fa fb fc fd (suc (suc (suc (suc (suc (suc zero)))))) below = xor_lt w b c fb fc
  sums_fit w fa fb fc fd (suc (suc (suc (suc (suc (suc (suc zero))))))) below = xor_lt w (bit_xor a b) c (xor_lt w a b fa fb) fc
  sums_fit w fa fb fc fd (suc (suc (suc (suc (suc (suc (suc (suc zero)))))))) below = fd
  sums_fit w fa fb fc fd (suc (suc (suc (suc (suc (suc (suc (suc (suc zero))))))))) below = xor_lt w a d fa fd
  sums_fit w fa fb fc fd (suc (suc (suc (suc (suc (suc (suc (suc (suc (suc zero)))))))))) below = xor_lt w b d fb fd
  sums_fit w fa fb fc fd (suc (suc (suc (suc (suc (suc (suc (suc (suc (suc (suc zero))))))))))) below = xor_lt w (bit_xor a b) d (xor_lt w a b fa fb) fd
  sums_fit w fa fb fc fd (suc (suc (suc (suc (suc (suc (suc (suc (suc (suc (suc (suc zero)))))))))))) below = xor_lt w c d fc fd
  sums_fit w fa fb fc fd (suc (suc (suc (suc (suc (suc (suc (suc (suc (suc (suc (suc (suc zero))))))))))))) below = xor_lt w a (bit_xor c d) fa (xor_lt w c d fc fd)
  sums_fit w fa fb fc fd (suc (suc (suc (suc (suc (suc (suc (suc (suc (suc (suc (suc (suc (suc zero)))))))))))))) below = xor_lt w b (bit_xor c d) fb (xor_lt w c d fc fd)
  sums_fit w fa fb fc fd (suc (suc (suc (suc (suc (suc (suc (suc (suc (suc (suc (suc (suc (suc (suc zero))))))))))))))) below = xor_lt w (bit_xor a b) (bit_xor c d) (xor_lt w a b fa fb) (xor_lt w c d fc fd)
  sums_fit w fa fb fc fd (suc (suc (suc (suc (suc (suc (suc (suc (suc (suc (suc (suc (suc (suc (suc (suc n)))))))))))))))) below = absurd (omega (arith, below))

-- four images at a place give the values of the whole map at numbers that are moved there
pub four_images : (images : List ℕ) (place : ℕ) (a b c d : ℕ) → place + 4 ≤ length images → a ≡ slice_index images place
    → b ≡ slice_index images (place + 1) → c ≡ slice_index images (place + 2) → d ≡ slice_index images (place + 3)
    → (v : ℕ) → v < 16 → linear_image (a ∷ b ∷ c ∷ d ∷ []) v ≡ linear_image images (v * 2 ^ place)
four_images images place a b c d room is_a is_b is_c is_d v below =
    sym ((the_linear_map (a ∷ b ∷ c ∷ d ∷ [])).only (λ x. linear_image images (x * 2 ^ place)) keeps each v below)
  where
    keeps : (x y : ℕ) → linear_image images (bit_xor x y * 2 ^ place)
        ≡ bit_xor (linear_image images (x * 2 ^ place)) (linear_image images (y * 2 ^ place))
    keeps x y = ap (linear_image images) (sym (xor_shl place x y)) ∙ (the_linear_map images).of_sum (x * 2 ^ place) (y * 2 ^ place)

    bit : (j : ℕ) → j < 4 → linear_image images (2 ^ j * 2 ^ place) ≡ slice_index images (place + j)
    bit j small =
        let order : j + place ≡ place + j = omega arith in
        ap (linear_image images) (sym (pow-add 2 j place) ∙ ap (λ (e : ℕ). 2 ^ e) order)
        ∙ (the_linear_map images).of_bit (place + j) (omega (arith, small, room))

    each : (j : ℕ) → j < 4 → linear_image images (2 ^ j * 2 ^ place) ≡ slice_index (a ∷ b ∷ c ∷ d ∷ []) j
    each zero small = bit 0 small ∙ ap (slice_index images) (add-zero place) ∙ sym is_a
    each (suc zero) small = bit 1 small ∙ sym is_b
    each (suc (suc zero)) small = bit 2 small ∙ sym is_c
    each (suc (suc (suc zero))) small = bit 3 small ∙ sym is_d
    each (suc (suc (suc (suc j)))) small = absurd (omega (arith, small))
