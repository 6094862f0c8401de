-- Products of two lists, a block of places at a time: what is written in a block was computed before any of it was.
use Rattle.std.proofs.Common.{◌≡◌, ℕ, ◌+◌, ◌<◌, List, get_or, length, set, refl, sym, ◌∙◌, ap₂, subst, arith}
use Rattle.std.proofs.lemmas.List.{get_or_default}
use Rattle.field_base.proofs.Places.{number-at}
use Rattle.field_slices.proofs.BothLists.{BothWritten, both_step}

module _ {W : Type 0} (number : W → ℕ) (f : ℕ → ℕ → ℕ) (old others before : List W) (start : ℕ)
    (so_far : BothWritten number f old others before start) where
  -- no place of the block is written
  pub block_start : BothWritten number f old others before (start + 0)
  block_start =
      let same : start ≡ start + 0 = omega arith in
      subst (λ (n : ℕ). BothWritten number f old others before n) same so_far

  -- a place of the block more
  pub block_step : (now : List W) (lane : ℕ) (product : W) → length before ≡ length old → length now ≡ length old
      → length others ≡ length old → start + lane < length old
      → ((d : W) → number product ≡ f (number (get_or before (start + lane) d)) (number (get_or others (start + lane) d)))
      → BothWritten number f old others now (start + lane)
      → BothWritten number f old others (set now (start + lane) product) (start + (lane + 1))
  block_step now lane product same_before same long within is written =
      let n = start + lane in
      let next : n + 1 ≡ start + (lane + 1) = omega arith in
      let ahead : n < length before = omega (arith, same_before, within) in
      let inside : n < length now = omega (arith, same, within) in
      let beside : n < length others = omega (arith, long, within) in
      let was = get_or before n product in
      let x = get_or now n product in
      let y = get_or others n product in
      -- a place of the block that is not yet written is as it was before the block
      let unwritten : number was ≡ number x =
      sym (number-at number before n was ahead (get_or_default before n product was ahead))
      ∙ so_far.rest n (omega arith) ∙ sym (written.rest n (omega arith))
      ∙ number-at number now n x inside (get_or_default now n product x inside) in
      subst (λ (k : ℕ). BothWritten number f old others (set now n product) k) next
      (both_step number f old others now n same long written x y product within
      (get_or_default now n product x inside) (get_or_default others n product y beside)
      (is product ∙ ap₂ f unwritten refl))
