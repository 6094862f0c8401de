use Rattle.std.proofs.Common.{◌≤◌, ◌^◌, ◌∙◌, ap, arith}
use Rattle.std.proofs.Math.Pow.{pow_mono}
use native.Mathlib.Nat.{mod-eq_of_lt}
use Rattle.many_words.proofs.fields.generator.Goals as goal

pub returns : goal.returns
returns g c =
    let kernel = g.K.FieldKernel in
    let word = g.R.Stored in
    let room : 2 ^ kernel.width ≤ 2 ^ word.bits = pow_mono {i = kernel.width} {j = word.bits} g.met.K.FieldKernel.room_law in
    c.of_stored.ensures ∙ ap word.number (c.GENERATOR.ensures ∙ g.met.K.FieldKernel.generator_is)
    ∙ word.number_of kernel.generator ∙ mod-eq_of_lt (omega (arith, kernel.generator_fits, room))
