-- The bytes are cut before the last 16.
use Rattle.std.proofs.Common.{refl, arith, length-take}
use Rattle.std.proofs.lemmas.List.{take_rest}
use Rattle.calculator.proofs.NumberLemmas.{number-in_two, fits-word}
use Rattle.calculator.proofs.number.Number.from_bytes.Goals as goal

pub overflow_cast-result : goal.overflow_cast-result
overflow_cast-result c =
    let few = fits-word c.number_of_bytes.result _ c.number_of_bytes.ensures.fits (omega (arith, length-take c.saturating_sub-above.result c.args.bytes.now)) in
    omega (arith, few)

pub returns : goal.returns
returns c =
    number-in_two c.number_of_bytes.result c.number_of_bytes-2.result c.saturating_sub-above.result c.args.bytes.now _ _ c.requires
    c.saturating_sub-above.ensures refl (take_rest c.args.bytes.now c.saturating_sub-above.result) c.number_of_bytes.ensures.number
    c.number_of_bytes-2.ensures.number
