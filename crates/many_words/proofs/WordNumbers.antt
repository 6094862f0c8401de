-- Lists of words and of their numbers, read place by place and changed by others.
use Rattle.std.proofs.Common.{◌≡◌, ℕ, ◌<◌, List, length, get_or, map, sym, ◌∙◌, ap, ap₂, arith}
use Rattle.std.specs.Prelude.{bit_xor}
use Rattle.std.specs.Simd.Lanes.{zip2}
use Rattle.std.specs.Int.Bits.{xor_zero_l}
use Rattle.std.proofs.lemmas.List.{get_or-map, length-map}
use Rattle.std.proofs.lemmas.Simd.{get_or-zip2, length-zip2}
use Rattle.field_base.proofs.RemainderRing.{ghash_ring}
use Rattle.ghash_slices.specs.LowStages.{ghash_product}
use Rattle.ghash_slices.specs.Stages.{add_multiple}

module _ {A : Type 0} (value : A → ℕ) where
  -- a list that was changed by another is as long as it was
  pub changed_long : (f : ℕ → ℕ → ℕ) (xs ys zs : List A) → length xs ≡ length ys → map value zs ≡ zip2 f (map value xs) (map value ys)
      → length zs ≡ length xs
  changed_long f xs ys zs same are =
      sym (length-map zs value) ∙ ap length are
      ∙ length-zip2 f (map value xs) (map value ys) (length-map xs value ∙ same ∙ sym (length-map ys value))
      ∙ length-map xs value

  -- a word of it
  pub changed_at : (f : ℕ → ℕ → ℕ) (xs ys zs : List A) → length xs ≡ length ys → map value zs ≡ zip2 f (map value xs) (map value ys)
      → (k : ℕ) → k < length zs → (d : A) → value (get_or zs k d) ≡ f (value (get_or xs k d)) (value (get_or ys k d))
  changed_at f xs ys zs same are k inside d =
      let long = changed_long f xs ys zs same are in
      let within : k < length xs = omega (arith, inside, long) in
      let also : k < length ys = omega (arith, same, within) in
      sym (get_or-map value zs k d 0 inside) ∙ ap (λ (l : List ℕ). get_or l k 0) are
      ∙ get_or-zip2 f (map value xs) (map value ys) k 0 0 0 (omega (arith, length-map xs value, within)) (omega (arith, length-map ys value, also))
      ∙ ap₂ f (get_or-map value xs k d 0 within) (get_or-map value ys k d 0 also)

  -- products by a scalar that were added to zeros
  pub products_at : (s : ℕ) (zeros words products : List A) → length zeros ≡ length words
      → ((k : ℕ) → k < length zeros → (d : A) → value (get_or zeros k d) ≡ 0)
      → map value products ≡ zip2 (add_multiple ghash_product s) (map value zeros) (map value words)
      → (k : ℕ) → k < length products → (d : A) → value (get_or products k d) ≡ ghash_product (value (get_or words k d)) s
  products_at s zeros words products same nothing are k inside d =
      let long = changed_long (add_multiple ghash_product s) zeros words products same are in
      let within : k < length zeros = omega (arith, inside, long) in
      changed_at (add_multiple ghash_product s) zeros words products same are k inside d
      ∙ ap (λ (n : ℕ). bit_xor n (ghash_product s (value (get_or words k d)))) (nothing k within d)
      ∙ xor_zero_l (ghash_product s (value (get_or words k d)))
      ∙ ghash_ring.comm s (value (get_or words k d))
