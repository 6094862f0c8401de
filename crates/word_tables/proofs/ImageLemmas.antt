-- Images one after the other, and of one map after another.
use Rattle.std.proofs.Common.{◌≡◌, ℕ, zero, suc, ◌^◌, ◌<◌, List, [], ◌∷◌, length, map, refl, sym, ◌∙◌, ap, subst, arith}
use Rattle.std.specs.Prelude.{bit_xor, slice_index}
use Rattle.std.proofs.lemmas.List.{length-map}
use Rattle.field_base.specs.LinearMaps.{linear_image}
use Rattle.field_base.proofs.EightCases.{eight_cases}
use Rattle.field_base.proofs.LinearMapLemmas.{the_linear_map}

-- an entry of the images of a list is the image of the entry
pub entry_of_map : (f : ℕ → ℕ) (xs : List ℕ) (i : ℕ) → i < length xs → slice_index (map f xs) i ≡ f (slice_index xs i)
entry_of_map f [] i within = absurd (omega (arith, within))
entry_of_map f (x ∷ xs) zero within = refl
entry_of_map f (x ∷ xs) (suc i) within = entry_of_map f xs i (omega (arith, within))

-- the map whose images are the images of images is the one map after the other
pub one_after_other : (outer first both : List ℕ) → both ≡ map (linear_image outer) first → (x : ℕ) → x < 2 ^ length first
    → linear_image both x ≡ linear_image outer (linear_image first x)
one_after_other outer first both is x fits =
    sym ((the_linear_map both).only (λ y. linear_image outer (linear_image first y)) keeps agrees x
    (subst (λ (n : ℕ). x < 2 ^ n) (sym long) fits))
  where
    long : length both ≡ length first
    long = ap length is ∙ length-map first (linear_image outer)

    keeps : (a b : ℕ) → linear_image outer (linear_image first (bit_xor a b))
        ≡ bit_xor (linear_image outer (linear_image first a)) (linear_image outer (linear_image first b))
    keeps a b = ap (linear_image outer) ((the_linear_map first).of_sum a b) ∙ (the_linear_map outer).of_sum _ _

    agrees : (j : ℕ) → j < length both → linear_image outer (linear_image first (2 ^ j)) ≡ slice_index both j
    agrees j below =
        let within : j < length first = omega (arith, below, long) in
        ap (linear_image outer) ((the_linear_map first).of_bit j within)
        ∙ sym (entry_of_map (linear_image outer) first j within) ∙ ap (λ (xs : List ℕ). slice_index xs j) (sym is)

-- ---- the two maps that have names

abbrev zeros : List ℕ
zeros = 0 ∷ 0 ∷ 0 ∷ 0 ∷ 0 ∷ 0 ∷ 0 ∷ 0 ∷ []

abbrev powers : List ℕ
powers = 1 ∷ 2 ∷ 4 ∷ 8 ∷ 16 ∷ 32 ∷ 64 ∷ 128 ∷ []

-- eight images that are 0 make 0 of every byte
pub zero_map : (x : ℕ) → x < 256 → linear_image zeros x ≡ 0
zero_map x fits =
    sym ((the_linear_map zeros).only (λ y. 0) (λ a b. refl)
    (eight_cases (λ j. 0 ≡ slice_index zeros j) refl refl refl refl refl refl refl refl) x fits)

-- eight images that are the powers of two leave every byte
pub identity_map : (x : ℕ) → x < 256 → linear_image powers x ≡ x
identity_map x fits =
    sym ((the_linear_map powers).only (λ y. y) (λ a b. refl)
    (eight_cases (λ j. 2 ^ j ≡ slice_index powers j) refl refl refl refl refl refl refl refl) x fits)
