use Rattle.std.proofs.Common.{◌≡◌, ℕ, ◌*◌, ◌/◌, ◌%◌, ◌^◌, ◌∙◌, ap, arith}
use Rattle.std.proofs.Math.Nat.{mul_comm}
use Rattle.bit_slices.proofs.Digits.{one_more_digit, one_more_kept}
use Rattle.bit_slices.proofs.words.split.Goals as goal

pub loop-digit-preserved : goal.loop-digit-preserved
loop-digit-preserved g c =
    let w = 2 ^ g.R.TowerWord.LEVEL in
    let digit = c.loop-digit.digit in
    let shift : digit * c.BITS.result ≡ w * digit = ap (λ (n : ℕ). digit * n) (c.BITS.ensures ∙ g.met.R.TowerWord.bits_law) ∙ mul_comm digit w in (
      one_more_kept c.args.start digit c.args.words.now c.loop-digit.words c.of_stored.result c.loop-digit.invariant.0,
      one_more_digit w digit c.args.bits c.args.start g.W.Reads.number c.loop-digit.words c.of_stored.result
          (omega (arith, c.requires, c.loop-digit-test.true, c.COUNT-digit-end.ensures, c.loop-digit.invariant.0.long))
          (c.of_stored.ensures ∙ c.of_number.ensures ∙ ap (λ (n : ℕ). c.args.bits / 2 ^ n % 2 ^ w) shift) c.loop-digit.invariant.1,
    )
