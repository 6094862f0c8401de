use Rattle.std.proofs.Common.{◌≡◌, ℕ, ◌<◌, ◌^◌, ◌/◌, get_or, length, sym, ◌∙◌, ap₂, subst, arith}
use Rattle.std.proofs.lemmas.Nat.{pow_below}
use Rattle.field_base.specs.Powers.{power}
use Rattle.field_base.proofs.PowerLemmas.{power_end}
use Rattle.many_words.proofs.PowerPlaces.{step_kept, value_fits}
use Rattle.many_words.proofs.powers.multiply_by_powers.Goals as goal

pub bits-preserved : goal.bits-preserved
bits-preserved g c =
    let number = g.W.Reads.number in
    let width = g.K.FieldKernel.width in
    let times = g.K.FieldKernel.product in
    let ring = g.K.FieldKernel.field_law.ring in
    let one_fits : 1 < 2 ^ width = pow_below 0 width g.K.FieldKernel.wide_law in
    let known = c.bits.invariant in
    let long = c.multiply_where.ensures.long in
    let also = c.change_all.ensures.long in
    let values = c.multiply_where.new.values in
    let bases = c.change_all.new.words in
    let same : length bases ≡ length values = omega (arith, c.requires.same, known.0, known.1, long, also) in
    let before : length c.bits.values ≡ length values = omega (arith, long) in (
      long ∙ known.0,
      also ∙ known.1,
      (λ k inside d.
          subst (λ (n : ℕ). n < 2 ^ width) (sym (c.multiply_where.ensures.products k inside d))
          (value_fits width times ring one_fits (number (get_or c.bits.values k d)) (number (get_or c.bits.bases k d)) c.bits.rest
          (known.2 k (omega (arith, inside, before)) d))),
      (λ k inside d. subst (λ (n : ℕ). n < 2 ^ width) (sym (c.change_all.ensures.results k inside d)) (ring.below _ _)),
      (λ k inside d.
          ap₂ (λ (v b : ℕ). times v (power 1 times b (c.bits.rest / 2))) (c.multiply_where.ensures.products k inside d)
          (c.change_all.ensures.results k (omega (arith, inside, same)) d)
          ∙ step_kept width times ring one_fits (number (get_or c.bits.values k d)) (number (get_or c.bits.bases k d)) c.bits.rest
          ∙ known.4 k (omega (arith, inside, before)) d),
    )

pub returns-clause-products : goal.returns-clause-products
returns-clause-products g c = λ k inside d.
    let number = g.W.Reads.number in
    let width = g.K.FieldKernel.width in
    let one_fits : 1 < 2 ^ width = pow_below 0 width g.K.FieldKernel.wide_law in
    sym (power_end width 1 g.K.FieldKernel.product g.K.FieldKernel.field_law.ring one_fits (number (get_or c.bits.values k d))
    (number (get_or c.bits.bases k d)) c.bits.rest (c.bits.invariant.2 k inside d) c.bits-test.false)
    ∙ c.bits.invariant.4 k inside d
