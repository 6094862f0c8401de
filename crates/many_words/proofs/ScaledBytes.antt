-- The product by a scalar as a linear map of bytes.
use Rattle.std.proofs.Common.{◌≡◌, ℕ, zero, suc, ◌^◌, ◌<◌, List, [], ◌∷◌, length, get_or, map, sym, ◌∙◌, ap, arith}
use Rattle.std.proofs.lemmas.List.{get_or-map, get_or_default, length-map}
use Rattle.std.specs.Prelude.{slice_index}
use Rattle.field_base.specs.LinearMaps.{linear_image}
use Rattle.field_base.specs.Ring.{IsRing}
use Rattle.field_base.proofs.LinearMapLemmas.{the_linear_map}
use Rattle.field_base.proofs.RingLemmas.{sum_times}

-- the map that takes each bit to its product is the product
pub images_are : (width : ℕ) (product : ℕ → ℕ → ℕ) → IsRing width 1 product → (s a b c d e f g h : ℕ) → a ≡ product 1 s → b ≡ product 2 s
    → c ≡ product 4 s → d ≡ product 8 s → e ≡ product 16 s → f ≡ product 32 s → g ≡ product 64 s → h ≡ product 128 s
    → (x : ℕ) → x < 256 → linear_image (a ∷ b ∷ c ∷ d ∷ e ∷ f ∷ g ∷ h ∷ []) x ≡ product x s
images_are width product ring s a b c d e f g h a_is b_is c_is d_is e_is f_is g_is h_is x fits =
    sym ((the_linear_map (a ∷ b ∷ c ∷ d ∷ e ∷ f ∷ g ∷ h ∷ [])).only (λ y. product y s) (λ y z. sum_times width 1 product ring y z s) each x fits)
  where
    each : (j : ℕ) → j < 8 → product (2 ^ j) s ≡ slice_index (a ∷ b ∷ c ∷ d ∷ e ∷ f ∷ g ∷ h ∷ []) j
    each zero below = sym a_is
    each (suc zero) below = sym b_is
    each (suc (suc zero)) below = sym c_is
    each (suc (suc (suc zero))) below = sym d_is
    each (suc (suc (suc (suc zero)))) below = sym e_is
    each (suc (suc (suc (suc (suc zero))))) below = sym f_is
    each (suc (suc (suc (suc (suc (suc zero)))))) below = sym g_is
    each (suc (suc (suc (suc (suc (suc (suc zero))))))) below = sym h_is
    each (suc (suc (suc (suc (suc (suc (suc (suc j)))))))) below = absurd (omega (arith, below))

-- bytes that were mapped
pub all_mapped : (f : ℕ → ℕ) (product : ℕ → ℕ → ℕ) (s : ℕ) (old new : List ℕ) → new ≡ map f old → ((k : ℕ) → get_or old k 0 < 256)
    → ((x : ℕ) → x < 256 → f x ≡ product x s) → (k : ℕ) → k < length new → (d : ℕ) → get_or new k d ≡ product (get_or old k d) s
all_mapped f product s old new is fit same k inside d =
    let long : length new ≡ length old = ap length is ∙ length-map old f in
    let within : k < length old = omega (arith, inside, long) in
    ap (λ (l : List ℕ). get_or l k d) is ∙ get_or-map f old k 0 d within ∙ same (get_or old k 0) (fit k)
    ∙ ap (λ (x : ℕ). product x s) (get_or_default old k 0 d within)
