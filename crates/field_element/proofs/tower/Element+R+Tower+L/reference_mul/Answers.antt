use Rattle.std.proofs.Common.{◌%◌, ◌^◌, ℕ, ◌∙◌, ap, ap₂}
use native.Mathlib.Nat.{mod-eq_of_lt}
use Rattle.field_base.specs.Tower.{tower_mul}
use Rattle.field_base.proofs.TowerRing.{tower_ring}
use Rattle.field_element.proofs.tower.Element+R+Tower+L.reference_mul.Goals as goal

pub returns : goal.returns
returns g c =
    let k = g.L.Level.LEVEL in
    c.of_word.ensures ∙ ap (λ (n : ℕ). n % 2 ^ 2 ^ k) c.reference_multiply.ensures ∙ mod-eq_of_lt ((tower_ring k).below _ _)
    ∙ ap₂ (tower_mul k) (ap g.R.Stored.number c.word.ensures) (ap g.R.Stored.number c.word-2.ensures)
