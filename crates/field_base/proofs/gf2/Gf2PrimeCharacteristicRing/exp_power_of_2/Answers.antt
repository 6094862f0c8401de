use Rattle.std.proofs.Common.{◌≡◌, ◌%◌, ◌^◌, sym, ◌∙◌, ap, arith}
use Rattle.field_base.specs.Powers.{repeated_square}
use Rattle.field_base.specs.Tower.{tower_mul}
use Rattle.field_base.proofs.TowerFrobenius.{tower_repeated_square-mod_bits}
use Rattle.field_base.proofs.TowerLaws.{squarings_none}
use Rattle.field_base.proofs.gf2.Gf2PrimeCharacteristicRing.exp_power_of_2.Goals as goal

pub returns : goal.returns
returns c =
    let none : c.args._count % 2 ^ 0 ≡ 0 = omega arith in
    sym (squarings_none 0 c.args.self.now.repr c.args.self.now.in_range)
    ∙ ap (λ n. repeated_square 1 (tower_mul 0) n c.args.self.now.repr) (sym none)
    ∙ tower_repeated_square-mod_bits 0 c.args._count c.args.self.now.repr
