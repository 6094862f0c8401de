use Rattle.std.proofs.Common.{ℕ, ◌%◌, ◌^◌, ◌∙◌, ap}
use Rattle.std.specs.Prelude.{bit_xor}
use Rattle.std.proofs.lemmas.Nat.{xor_mod}
use native.Mathlib.Nat.{mod-eq_of_lt}
use Rattle.field_base.specs.Tower.{tower_mul}
use Rattle.field_base.proofs.TowerRing.{tower_ring}
use Rattle.word_tower.proofs.tower.TowerFieldKernel.add_product.Goals as goal

pub returns : goal.returns
returns g c =
    let k = g.L.Level.LEVEL in
    let sum = g.R.Stored.number c.args.low in
    let x = g.R.Stored.number c.args.x in
    let y = g.R.Stored.number c.args.y in
    ap (λ (n : ℕ). n % 2 ^ 2 ^ k) (c.xor.ensures ∙ ap (bit_xor sum) c.multiply.ensures)
    ∙ xor_mod sum (tower_mul k x y) (2 ^ k)
    ∙ ap (bit_xor (sum % 2 ^ 2 ^ k)) (mod-eq_of_lt ((tower_ring k).below x y))
