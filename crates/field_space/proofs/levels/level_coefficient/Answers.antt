use Rattle.std.proofs.Common.{ℕ, ◌%◌, ◌^◌, ◌∙◌, ap}
use native.Mathlib.Nat.{mod-eq_of_lt}
use Rattle.field_base.specs.Chunks.{chunk}
use Rattle.field_base.proofs.ChunkLists.{chunk-lt}
use Rattle.field_space.proofs.levels.level_coefficient.Goals as goal

pub returns : goal.returns
returns g c =
    let width = 2 ^ g.J.Level.LEVEL in
    c.element_of_word.ensures
    ∙ ap (λ (n : ℕ). n % 2 ^ width) (c.coefficient_of.ensures ∙ ap (chunk width c.args.i) c.word_of.ensures)
    ∙ mod-eq_of_lt (chunk-lt width c.args.i (g.R.Stored.number c.args.element.now.repr))
