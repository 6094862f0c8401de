use Rattle.std.proofs.Common.{◌≡◌, ℕ, suc, ◌+◌, ◌/◌, ◌%◌, ◌^◌, ◌∙◌, sym, ap, arith}
use Rattle.ghash_slices.proofs.Places.{next_quotient}
use Rattle.additive_transforms.proofs.ElementPoints.{bit_adds, bit_passes, point_ends, point_starts}
use Rattle.word_tables.specs.Cantor.{cantor_vector}
use Rattle.reed_solomon.proofs.points.point_of.Goals as goal
use Rattle.reed_solomon.proofs.points.point_of.Goals.{then-rest-eq1, else-rest-eq1}

pub loop-bit-init : goal.loop-bit-init
loop-bit-init g c = (
  omega arith,
  ap g.R.Stored.number c.ZERO-sum.ensures ∙ g.R.Stored.zero_number ∙ point_starts cantor_vector 0 c.args.p,
)

-- half of what is left
halved : (p rest n : ℕ) → rest ≡ p / 2 ^ n → rest / 2 ≡ p / 2 ^ (n + 1)
halved p rest n left =
    let after : suc n ≡ n + 1 = omega arith in
    ap (λ (r : ℕ). r / 2) left ∙ sym (next_quotient p n) ∙ ap (λ (k : ℕ). p / 2 ^ k) after

pub loop-bit-preserved : goal.loop-bit-preserved
loop-bit-preserved g c =
    let number = g.R.Stored.number in
    let rest = c.loop-bit.rest in (
      halved c.args.p rest c.loop-bit.bit c.loop-bit.invariant.0,
      elim c.if-rest-eq1.branch [
        | then-rest-eq1 w ↦
            ap number w.sum-is
            ∙ bit_adds cantor_vector 0 c.args.p c.loop-bit.bit rest (number c.loop-bit.sum) c.loop-bit.invariant.0
            c.loop-bit.invariant.1 (number w.xor-sum.result) (number w.cantor_vector.result) w.if-rest-eq1.true
            w.xor-sum.ensures w.cantor_vector.ensures.vector
        | else-rest-eq1 w ↦
            let none : rest % 2 ≡ 0 = omega (arith, w.if-rest-eq1.false) in
            ap number w.sum-is
            ∙ bit_passes cantor_vector 0 c.args.p c.loop-bit.bit rest (number c.loop-bit.sum) c.loop-bit.invariant.0
            c.loop-bit.invariant.1 none
      ],
    )

pub returns : goal.returns
returns g c =
    point_ends cantor_vector 0 c.args.p (2 ^ g.L.Level.LEVEL) c.loop-bit.bit (g.R.Stored.number c.loop-bit.sum)
    (omega arith) c.loop-bit.invariant.1
