use Rattle.std.proofs.Common.{◌∙◌, true, ap, length, map, sym}
use Rattle.std.proofs.lemmas.Bool.{false≢true}
use Rattle.additive_transforms.specs.Transform.{AreOnlyCoefficients, HoldPolynomialValues}
use Rattle.additive_transforms.specs.Images.{before_change}
use Rattle.additive_transforms.proofs.ImageBlocks.{fits_ghash, through_images}
use Rattle.additive_transforms.proofs.ghash.transform_ghash.Goals as goal
use Rattle.additive_transforms.proofs.ghash.transform_ghash.Goals.{else-is_inverse, then-is_inverse}

pub inverse_by-requires : goal.inverse_by-requires
inverse_by-requires g c = fits_ghash (length c.args.words.now) _ c.change_basis.ensures.length c.requires

pub transform-requires : goal.transform-requires
transform-requires g c = fits_ghash (length c.args.words.now) _ c.change_basis.ensures.length c.requires

pub returns-after-is_inverse-clause-values : goal.returns-after-is_inverse-clause-values
returns-after-is_inverse-clause-values g c forward =
    elim c.if-is_inverse.branch [
      | then-is_inverse w ↦ absurd (forward w.if-is_inverse.true)
      | else-is_inverse w ↦
          through_images g.W.Reads.number HoldPolynomialValues c.args.z c.to_tower_128-shift.result c.args.words.now c.change_basis.new.words
          w.transform.new.values c.change_basis-then-is_narrow.new.words c.to_tower_128-shift.ensures.image c.change_basis.ensures.changed
          (c.change_basis-then-is_narrow.ensures.changed ∙ ap (λ l. map (before_change true) (map g.W.Reads.number l)) w.words-is)
          w.transform.ensures.values
    ]

pub returns-after-is_inverse-clause-coefficients : goal.returns-after-is_inverse-clause-coefficients
returns-after-is_inverse-clause-coefficients g c inverse =
    elim c.if-is_inverse.branch [
      | then-is_inverse w ↦
          through_images g.W.Reads.number AreOnlyCoefficients c.args.z c.to_tower_128-shift.result c.args.words.now c.change_basis.new.words
          w.inverse_by.new.values c.change_basis-then-is_narrow.new.words c.to_tower_128-shift.ensures.image c.change_basis.ensures.changed
          (c.change_basis-then-is_narrow.ensures.changed ∙ ap (λ l. map (before_change true) (map g.W.Reads.number l)) w.words-is)
          w.inverse_by.ensures.coefficients
      | else-is_inverse w ↦ absurd (false≢true (sym w.if-is_inverse.false ∙ inverse))
    ]
