use Rattle.std.proofs.Common.{◌<◌, ◌≤◌, ◌^◌, ℕ, ◌∙◌, ap, sym, subst}
use native.Mathlib.Nat.{le_refl}
use Rattle.field_base.specs.Basis.{basis_image}
use Rattle.word_tables.proofs.LevelLaws.{level_cantor, kept_in_word}
use Rattle.word_polynomial.proofs.polynomials.PolynomialsLevelKernel.cantor_vector.Goals as goal

pub returns-clause-vector : goal.returns-clause-vector
returns-clause-vector g c =
    let m = g.M.Modulus in
    let room = subst (λ (w : ℕ). 2 ^ m.LEVEL ≤ w) (sym m.width_law ∙ g.met.M.Modulus.bits_law) (le_refl (2 ^ m.LEVEL)) in
    let below = (level_cantor m.LEVEL m.few).below c.args.i (subst (λ (w : ℕ). c.args.i < w) m.width_law c.requires) in
    c.to_polynomial.ensures
    ∙ ap (basis_image m.width m.modulus m.images)
    (kept_in_word m.LEVEL g.R.Stored.bits _ _ _ c.of_u128.ensures c.cantor_vector.ensures below room)
