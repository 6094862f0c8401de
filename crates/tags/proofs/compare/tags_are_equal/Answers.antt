use Rattle.std.proofs.Common.{◌≡◌, ℕ, List, inl, inr, get_or, sym, ap, ap₂, ◌∙◌, arith}
use Rattle.std.specs.Prelude.{bit_or, bit_xor}
use Rattle.std.proofs.lemmas.Bool.{cases_lt}
use Rattle.std.proofs.lemmas.Nat.{le_or_l, le_or_r}
use lib.Bits.{xor_self}
use Rattle.field_base.proofs.RingLemmas.{xor_nothing}
use Rattle.tags.proofs.compare.tags_are_equal.Goals as goal

pub bytes-preserved : goal.bytes-preserved
bytes-preserved c =
    let i : ℕ = c.bytes.i in
    let x : ℕ = get_or c.args.left.now i 0 in
    let y : ℕ = get_or c.args.right.now i 0 in
    let gathered : ℕ = c.bytes.difference in (
      λ nothing k below.
          elim (cases_lt k i) [
            | inl earlier ↦ c.bytes.invariant.0 (omega (arith, nothing, le_or_l gathered (bit_xor x y))) k earlier
            | inr is ↦
                let here : k ≡ i = omega (arith, is, below) in
                ap (λ (z : ℕ). get_or c.args.left.now z 0) here
                ∙ xor_nothing x y (omega (arith, nothing, le_or_r gathered (bit_xor x y)))
                ∙ ap (λ (z : ℕ). get_or c.args.right.now z 0) (sym here)
          ],
      λ same.
          ap₂ bit_or (c.bytes.invariant.1 same)
          (ap (λ (z : List ℕ). bit_xor (get_or z i 0) y) same ∙ xor_self y),
    )
