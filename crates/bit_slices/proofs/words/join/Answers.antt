use Rattle.std.proofs.Common.{◌≡◌, ℕ, ◌+◌, ◌*◌, ◌<◌, ◌^◌, sym, ◌∙◌, ap, arith}
use Rattle.std.proofs.Math.Nat.{mul_comm}
use Rattle.std.proofs.lemmas.List.{get_or_default}
use Rattle.bit_slices.proofs.Digits.{digits_of_sum, fits_number, fits_sum}
use Rattle.bit_slices.proofs.words.join.Goals as goal

pub overflow_add-bits : goal.overflow_add-bits
overflow_add-bits g c =
    let w = 2 ^ g.R.TowerWord.LEVEL in
    let digit = c.loop-digit.digit in
    let shift : digit * c.BITS.result ≡ w * digit = ap (λ (n : ℕ). digit * n) (c.BITS.ensures ∙ g.met.R.TowerWord.bits_law) ∙ mul_comm digit w in
    record {
      fits = fits_number w g.R.TowerWord.COUNT digit c.loop-digit.bits c.to_number.result
          (ap (λ (n : ℕ). n * g.R.TowerWord.COUNT) (sym g.met.R.TowerWord.bits_law) ∙ g.met.R.TowerWord.whole_law)
          (omega (arith, c.loop-digit-test.true, c.COUNT-digit-end.ensures)) c.loop-digit.invariant.0 c.to_number.ensures.fits _ shift;
    }

pub loop-digit-preserved : goal.loop-digit-preserved
loop-digit-preserved g c =
    let w = 2 ^ g.R.TowerWord.LEVEL in
    let digit = c.loop-digit.digit in
    let shift : digit * c.BITS.result ≡ w * digit = ap (λ (n : ℕ). digit * n) (c.BITS.ensures ∙ g.met.R.TowerWord.bits_law) ∙ mul_comm digit w in
    let whole : w * g.R.TowerWord.COUNT ≡ 128 = ap (λ (n : ℕ). n * g.R.TowerWord.COUNT) (sym g.met.R.TowerWord.bits_law) ∙ g.met.R.TowerWord.whole_law in
    let few : digit < g.R.TowerWord.COUNT = omega (arith, c.loop-digit-test.true, c.COUNT-digit-end.ensures) in (
      fits_sum w g.R.TowerWord.COUNT digit c.loop-digit.bits c.to_number.result whole few c.loop-digit.invariant.0 c.to_number.ensures.fits _ shift,
      digits_of_sum w g.R.TowerWord.COUNT digit c.loop-digit.bits c.to_number.result whole few c.loop-digit.invariant.0 c.to_number.ensures.fits _
          shift g.W.Reads.number c.args.words.now c.args.start c.loop-digit.invariant.1 (λ d. ap g.W.Reads.number (get_or_default c.args.words.now (c.args.start + digit) d c.index-words-start.result (omega (arith, few, c.requires)) ∙ sym c.index-words-start.is) ∙ sym (c.to_number.ensures.is ∙ c.stored.ensures)),
    )
