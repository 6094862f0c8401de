-- Calls that are made one after the other: the coefficients of an element are observed or sampled.
use Rattle.std.proofs.Common.{◌≡◌, ◌<◌, ◌+◌, ◌*◌, ◌^◌, ℕ, suc, [], ◌∷◌, ◌++◌, sym, ap, ap₂, subst, ◌∙◌, add-one, arith}
use Rattle.std.proofs.lemmas.Grind.{flat_map-append}
use Rattle.std.proofs.lemmas.List.{append-nil, map-append, replicate-append-replicate}
use Rattle.std.specs.List.{flat_map}
use native.Mathlib.Nat.{mul-suc, mul-zero}
use Rattle.field_base.specs.Chunks.{chunk, chunks}
use Rattle.transcripts.specs.ByteCalls.{after, Observe, observing, Sample, sampling, Transitions}
use Rattle.transcripts.proofs.ObservedLists.{none_observed}
use Rattle.transcripts.proofs.Runs.{after_none, state_joined}
use Rattle.field_bytes.specs.Bytes.{low_bytes}
use Rattle.field_base.proofs.ChunkLists.{chunks-more, chunks-next, chunks-none, more-lt}
use Rattle.transcript_elements.specs.Sampled.{coefficient_bytes, squeezed_element, squeezed_elements}

module _ {S : Type 0} (transitions : Transitions S) where
  -- ---- coefficients that are observed

  -- observing 0 coefficients leaves the state
  pub no_coefficient_observed : (size width element : ℕ) (state : S)
      → state ≡ after transitions (observing (coefficient_bytes size width 0 element)) state
  no_coefficient_observed size width element state =
      none_observed transitions state
      ∙ ap (λ cs. after transitions (observing (flat_map (λ c. low_bytes size c) cs)) state) (sym (chunks-none width element))

  -- a loop that has observed n coefficients and observes coefficient n has observed n + 1
  pub one_more_coefficient : (size width count element coefficient : ℕ) (old now next : S)
      → now ≡ after transitions (observing (coefficient_bytes size width count element)) old
      → coefficient ≡ chunk width count element
      → next ≡ after transitions (observing (low_bytes size coefficient)) now
      → next ≡ after transitions (observing (coefficient_bytes size width (count + 1) element)) old
  one_more_coefficient size width count element coefficient old now next before is step =
      let longer : chunks width (count + 1) element ≡ chunks width count element ++ coefficient ∷ [] =
      chunks-next width count element ∙ ap (λ c. chunks width count element ++ c ∷ []) (sym is) in
      let joined : observing (flat_map (λ c. low_bytes size c) (chunks width (count + 1) element))
      ≡ observing (flat_map (λ c. low_bytes size c) (chunks width count element)) ++ observing (low_bytes size coefficient) =
      ap (λ cs. observing (flat_map (λ c. low_bytes size c) cs)) longer
      ∙ ap observing (flat_map-append (λ c. low_bytes size c) (chunks width count element) (coefficient ∷ [])
      ∙ ap (λ bs. flat_map (λ c. low_bytes size c) (chunks width count element) ++ bs) (append-nil (low_bytes size coefficient)))
      ∙ map-append Observe (flat_map (λ c. low_bytes size c) (chunks width count element)) (low_bytes size coefficient) in
      state_joined transitions (observing (flat_map (λ c. low_bytes size c) (chunks width count element)))
      (observing (low_bytes size coefficient)) old now next before step
      ∙ ap (λ calls. after transitions calls old) (sym joined)

  -- ---- coefficients that are sampled

  -- `count` coefficients were sampled, and they are those of the element, which has no others
  pub record Sampling (size width count element : ℕ) (old now : S) : Type 0 where
    pub below : element < 2 ^ (width * count)
    pub run : now ≡ after transitions (sampling (size * count)) old
    pub are : chunks width count element ≡ squeezed_elements transitions size width count old

  -- 0 has no coefficients, and none were sampled
  pub none_sampled : (size width element : ℕ) (old : S) → element ≡ 0 → Sampling size width 0 element old old
  unfolding squeezed_elements
  none_sampled size width element old nothing =
      let bits : width * 0 ≡ 0 = mul-zero width in
      record {
        below = subst (λ (k : ℕ). element < 2 ^ k) (sym bits) (omega (arith, nothing));
        run =
            sym (after_none transitions old)
            ∙ ap (λ (k : ℕ). after transitions (sampling k) old) (sym (mul-zero size));
        are = chunks-none width element;
      }

  -- n coefficients were sampled, and coefficient n is sampled and put above them: n + 1 were sampled
  pub one_more_sampled : (size width count element coefficient more : ℕ) (old now next : S)
      → Sampling size width count element old now → coefficient < 2 ^ width
      → next ≡ after transitions (sampling size) now
      → coefficient ≡ squeezed_element transitions size width now
      → more ≡ coefficient * 2 ^ (width * count) + element
      → Sampling size width (count + 1) more old next
  unfolding squeezed_elements
  one_more_sampled size width count element coefficient more old now next before fits step is put = record {
    below = more-lt width count more coefficient element before.below fits put;
    run =
        state_joined transitions (sampling (size * count)) (sampling size) old now next before.run step
        ∙ ap (λ calls. after transitions calls old)
        (replicate-append-replicate (size * count) size Sample ∙ ap sampling places);
    are =
        chunks-more width count more coefficient element before.below fits put
        ∙ ap₂ (λ cs (c : ℕ). cs ++ c ∷ []) before.are
        (is ∙ ap (squeezed_element transitions size width) before.run)
        ∙ sym (ap (λ (k : ℕ). squeezed_elements transitions size width k old) (add-one count));
  }
    where
      places : size * count + size ≡ size * (count + 1)
      places =
          let next : size * suc count ≡ size * count + size = mul-suc size count ∙ omega arith in
          sym next ∙ ap (λ (k : ℕ). size * k) (sym (add-one count))
