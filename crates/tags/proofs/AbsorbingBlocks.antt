-- What is absorbed after whole blocks more, in one go.
use Rattle.std.proofs.Common.{◌≡◌, ℕ, zero, suc, ◌+◌, ◌*◌, ◌/◌, ◌%◌, ◌≤◌, List, ◌++◌, length, take, drop, refl, sym, ap, ◌∙◌, arith, subst, length-drop}
use Rattle.std.proofs.lemmas.List.{drop-drop}
use Rattle.std.specs.Prelude.{bit_xor, fold, map}
use Rattle.std.proofs.lemmas.List.{take-append-drop, length-take-le}
use Rattle.tags.specs.Absorbed.{IsAbsorbed}
use Rattle.tags.specs.Blocks.{first_blocks}
use Rattle.tags.specs.Powers.{added_block}
use Rattle.tags.specs.Reversed.{ghash_times}
use Rattle.tags.proofs.Absorbing.{first_blocks-append, IsAbsorbed_block}
use Rattle.tags.proofs.Folding.{hash_from, hash_from_none, hash_from_next}

module _ (element : List ℕ → ℕ) (key : ℕ) where
  pub IsAbsorbed_blocks : (h : ℕ) (b m d : List ℕ) (a n : ℕ) → IsAbsorbed element key h b (m ++ take a d) → (length m + a) % 16 ≡ 0
      → a + n * 16 ≤ length d → IsAbsorbed element key (hash_from element key h (drop a d) n) b (m ++ take (a + n * 16) d)
  IsAbsorbed_blocks h b m d a zero held edge fits =
      subst (λ (z : ℕ). IsAbsorbed element key z b (m ++ take (a + zero * 16) d)) (sym (hash_from_none element key h (drop a d)))
      (subst (λ (k : ℕ). IsAbsorbed element key h b (m ++ take k d)) (omega arith) held)
  IsAbsorbed_blocks h b m d a (suc n) held edge fits =
      let at : ℕ = a + n * 16 in
      let next : hash_from element key h (drop a d) (n + 1) ≡ added_block element key (hash_from element key h (drop a d) n) (take 16 (drop at d)) =
      hash_from_next element key h (drop a d) n (omega (arith, fits, length-drop a d))
      ∙ ap (λ (x : List ℕ). added_block element key (hash_from element key h (drop a d) n) (take 16 x)) (drop-drop (n * 16) a d) in
      let more : a + n * 16 + 16 ≡ a + suc n * 16 = omega arith in
      let count : n + 1 ≡ suc n = omega arith in
      subst (λ (z : ℕ). IsAbsorbed element key (hash_from element key h (drop a d) z) b (m ++ take (a + suc n * 16) d)) count
      (subst (λ (z : ℕ). IsAbsorbed element key z b (m ++ take (a + suc n * 16) d)) (sym next)
      (subst (λ (k : ℕ). IsAbsorbed element key (added_block element key (hash_from element key h (drop a d) n) (take 16 (drop at d))) b (m ++ take k d)) more
      (IsAbsorbed_block element key (hash_from element key h (drop a d) n) b m d (take 16 (drop at d)) at
      (IsAbsorbed_blocks h b m d a n held edge (omega (arith, fits))) (omega (arith, edge)) (omega (arith, fits)) refl)))

  -- the hash after n blocks depends on the bytes of these alone
  pub blocks_alone : (h : ℕ) (d : List ℕ) (a n : ℕ) → a + n * 16 ≤ length d
      → hash_from element key h (take (n * 16) (drop a d)) n ≡ hash_from element key h (drop a d) n
  blocks_alone h d a n fits =
      let xs : List ℕ = drop a d in
      let long : n * 16 ≤ length (take (n * 16) xs) =
      omega (arith, length-take-le (n * 16) xs (omega (arith, length-drop a d, fits))) in
      ap (λ (z : List (List ℕ)). fold (λ y x. ghash_times (bit_xor y x) key) h (map element z))
      (sym (first_blocks-append (take (n * 16) xs) (drop (n * 16) xs) n long)
      ∙ ap (first_blocks n) (take-append-drop (n * 16) xs))

  -- what is absorbed after the whole blocks x of d, once h is their hash
  pub whole_blocks : (sum : ℕ) (b m d x : List ℕ) (h a n : ℕ) → IsAbsorbed element key sum b (m ++ take a d) → (length m + a) % 16 ≡ 0
      → a + n * 16 ≤ length d → x ≡ take (n * 16) (drop a d) → h ≡ hash_from element key sum x (length x / 16)
      → IsAbsorbed element key h b (m ++ take (a + n * 16) d)
  whole_blocks sum b m d x h a n held edge fits of_x of_h =
      let count : length x / 16 ≡ n =
      omega (arith, ap length of_x, length-take-le (n * 16) (drop a d) (omega (arith, length-drop a d, fits))) in
      let same : hash_from element key sum (drop a d) n ≡ h =
      sym (of_h ∙ ap (λ (k : ℕ). hash_from element key sum x k) count
      ∙ ap (λ (y : List ℕ). hash_from element key sum y n) of_x ∙ blocks_alone sum d a n fits) in
      subst (λ (z : ℕ). IsAbsorbed element key z b (m ++ take (a + n * 16) d)) same
      (IsAbsorbed_blocks sum b m d a n held edge fits)
