use Rattle.std.proofs.Common.{◌≡◌, ℕ, ◌+◌, ◌*◌, ◌^◌, ◌∙◌, ap₂}
use native.Mathlib.Nat.{mod-eq_of_lt}
use Rattle.field_space.proofs.Spaces.{put_fits}
use Rattle.field_space.proofs.space.ElementBasedVectorSpace.with_basis_coefficient.Goals as goal

pub returns : goal.returns
returns g c =
    let width = g.J.FieldKernel.width in
    let low = g.R.Stored.number c.args.self.repr in
    let high = g.S.Stored.number c.args.coefficient.repr in
    let sum : g.R.Stored.number c.with_coefficient.result ≡ high * 2 ^ (width * c.args.i) + low =
    c.with_coefficient.ensures ∙ ap₂ (λ (m n : ℕ). m * 2 ^ (width * c.args.i) + n) c.word_of-2.ensures c.word_of.ensures in
    c.element_of_word.ensures
    ∙ mod-eq_of_lt (put_fits g.K.FieldKernel.width width g.K.SpaceOver.DIMENSION c.args.i (g.R.Stored.number c.with_coefficient.result) high low
    g.met.K.SpaceOver.space_law c.requires.place c.requires.below c.args.coefficient.in_range sum)
    ∙ sum
