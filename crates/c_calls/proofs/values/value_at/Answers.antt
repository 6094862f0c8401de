use Rattle.std.proofs.Common.{◌∙◌, ap}
use native.Mathlib.Nat.{mod-eq_of_lt}
use Rattle.field_base.specs.Powers.{value_of}
use Rattle.field_slices.proofs.HornerLanes.{value_of-numbers}
use Rattle.c_calls.specs.Low.{low_number}
use Rattle.c_calls.proofs.LowNumbers.{low_elements}
use Rattle.c_calls.proofs.values.value_at.Goals as goal

pub returns : goal.returns
returns g c =
    let field = g.S.ScalarWords.field c.args.field in
    let low = low_number field.number field.width in
    let coefficients = c.args.coefficients.now in
    c.truncated.ensures ∙ c.value_at.ensures
    ∙ value_of-numbers field.width 1 field.times (g.met.S.ScalarWords.field_law c.args.field).ring (low c.args.point) low field.number coefficients
    (low_elements field coefficients c.requires.coefficients)
    ∙ ap (value_of 1 field.times field.number coefficients) (mod-eq_of_lt c.requires.point)
