use Rattle.std.proofs.Common.{ℕ, ◌∙◌, ap, arith}
use Rattle.std.specs.Prelude.{bit_xor}
use Rattle.field_base.specs.Tower.{tower_mul}
use Rattle.word_tower.proofs.Halves.{root_of_halves}
use Rattle.word_tower.proofs.levels.Bits128LevelU128.sqrt.Goals as goal

pub returns-clause-root : goal.returns-clause-root
returns-clause-root c =
    ap (λ (y : ℕ). tower_mul 7 y y) c.join.ensures
    ∙ root_of_halves 6 c.args.x c.divide_by_root-quotient.result c.sqrt_64.result c.sqrt_64-2.result c.requires (omega arith)
    (omega arith) (c.divide_by_root-quotient.ensures ∙ c.high.ensures)
    (c.sqrt_64.ensures ∙ ap (λ (y : ℕ). bit_xor y c.divide_by_root-quotient.result) c.low-low.ensures) c.sqrt_64-2.ensures
