use Rattle.std.proofs.Common.{◌≡◌, ℕ, ◌*◌, ◌/◌, ◌%◌, ◌^◌, ◌∙◌, ap, ap₂}
use Rattle.field_space.proofs.LevelShifts.{low_of_low, shift_is}
use Rattle.field_space.proofs.levels.coefficient_of.Goals as goal

pub returns : goal.returns
returns g c =
    let j = g.J.Level.LEVEL in
    let k = g.L.Level.LEVEL in
    let shift : c.args.i * 2 ^ c.LEVEL.result % 18446744073709551616 ≡ 2 ^ j * c.args.i =
    ap (λ (l : ℕ). c.args.i * 2 ^ l % 18446744073709551616) c.LEVEL.ensures
    ∙ shift_is j k g.J.CoefficientsOf.COUNT c.args.i g.L.Level.few g.met.J.CoefficientsOf.count_law g.met.J.LiesIn.lies_law c.requires.place in
    c.truncate.ensures
    ∙ ap (λ (n : ℕ). n % 2 ^ 2 ^ j) c.of_u128.ensures
    ∙ low_of_low g.S.Stored.bits (2 ^ j) (c.to_u128.result / 2 ^ (c.args.i * 2 ^ c.LEVEL.result % 18446744073709551616)) g.met.J.Level.room_law
    ∙ ap₂ (λ (n s : ℕ). n / 2 ^ s % 2 ^ 2 ^ j) c.to_u128.ensures shift
