use Rattle.std.proofs.Common.{◌∙◌, ap, arith, ℕ, ◌+◌, ◌%◌, ◌^◌}
use native.Mathlib.Nat.{mod-eq_of_lt}
use Rattle.field_bytes.proofs.Placing.{sum_fits}
use Rattle.field_bytes.proofs.little_endian.put_byte.Goals as goal

pub overflow_add-placed : goal.overflow_add-placed
overflow_add-placed g c =
    let read = c.to_u128.ensures in
    let fits = sum_fits c.args.i c.args.byte (g.U.Stored.number c.args.word) c.placed.result 128 (omega (arith, c.requires.within, c.requires.short)) c.placed.ensures.fits
    c.requires.above c.placed.ensures.worth in
    omega (arith, read, fits)

pub returns : goal.returns
returns g c =
    let fits = sum_fits c.args.i c.args.byte (g.U.Stored.number c.args.word) c.placed.result g.U.Stored.bits c.requires.within c.placed.ensures.fits c.requires.above
    c.placed.ensures.worth in
    c.of_u128.ensures ∙ ap (λ (n : ℕ). (c.placed.result + n) % 2 ^ g.U.Stored.bits) c.to_u128.ensures ∙ mod-eq_of_lt fits
    ∙ ap (λ (n : ℕ). n + g.U.Stored.number c.args.word) c.placed.ensures.worth
