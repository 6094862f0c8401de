use Rattle.std.proofs.Common.{◌∙◌, get_or}
use Rattle.std.proofs.lemmas.Nat.Bits.{same_from_bits_below}
use Rattle.bits_packed.proofs.laws.transposing_twice_returns.Goals as goal

pub returns : goal.returns
returns c = λ width rows turned again rows_fit again_fit first second i row.
    same_from_bits_below width (get_or again i 0) (get_or rows i 0) (again_fit i) (rows_fit i)
    (λ j lane. second i j row lane ∙ first j i lane row)
