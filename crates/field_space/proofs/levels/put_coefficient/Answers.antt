use Rattle.std.proofs.Common.{ℕ, ◌%◌, ◌^◌, ◌<◌, sym, ◌∙◌, ap, subst}
use Rattle.std.proofs.Math.Facts.{Fits-of_lt}
use Rattle.std.proofs.Math.Pow.{pow_mono}
use native.Mathlib.Nat.{mod-eq_of_lt}
use Rattle.field_space.proofs.LevelShifts.{placed}
use Rattle.field_space.proofs.levels.put_coefficient.Goals as goal

pub overflow_add-to_u128 : goal.overflow_add-to_u128
overflow_add-to_u128 g c =
    let done =
    placed g.J.Level.LEVEL g.L.Level.LEVEL g.J.CoefficientsOf.COUNT c.args.i c.LEVEL.result (g.R.Stored.number c.args.x) c.to_u128.result
    (g.S.Stored.number c.args.coefficient) c.to_u128-2.result g.L.Level.few g.met.J.CoefficientsOf.count_law g.met.J.LiesIn.lies_law
    c.requires.place c.requires.below c.requires.fits c.LEVEL.ensures c.to_u128.ensures c.to_u128-2.ensures in
    Fits-of_lt (subst (λ (n : ℕ). n < 2 ^ 128) (sym done.0) (done.1 128 (pow_mono {i = g.L.Level.LEVEL} {j = 7} g.L.Level.few)))

pub returns : goal.returns
returns g c =
    let done =
    placed g.J.Level.LEVEL g.L.Level.LEVEL g.J.CoefficientsOf.COUNT c.args.i c.LEVEL.result (g.R.Stored.number c.args.x) c.to_u128.result
    (g.S.Stored.number c.args.coefficient) c.to_u128-2.result g.L.Level.few g.met.J.CoefficientsOf.count_law g.met.J.LiesIn.lies_law
    c.requires.place c.requires.below c.requires.fits c.LEVEL.ensures c.to_u128.ensures c.to_u128-2.ensures in
    c.of_u128.ensures ∙ ap (λ (n : ℕ). n % 2 ^ g.R.Stored.bits) done.0 ∙ mod-eq_of_lt (done.1 g.R.Stored.bits g.met.L.Level.room_law)
