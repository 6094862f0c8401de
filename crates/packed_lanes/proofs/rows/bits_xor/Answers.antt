use Rattle.std.proofs.Common.{rules}
use Rattle.std.specs.Prelude.{bit_xor}
use Rattle.std.proofs.lemmas.Nat.{xor_lt}
use Rattle.packed_lanes.proofs.LaneLemmas.{part_xor, power_some, row_of_zipped}
use Rattle.packed_lanes.proofs.rows.bits_xor.Goals as goal

pub returns : goal.returns
returns g c =
    row_of_zipped g.U.Underlier.number g.U.Underlier.is_whole g.U.Word.Word.BITS _ _ _ _ _ g.U.Word.Word.number _ bit_xor
    (power_some _ _ g.met.U.Word.Word.bits_law) g.met.U.Underlier.bits_law (xor_lt _) (part_xor _) g.U.Underlier.range_law c.requires.left_whole
    c.requires.right_whole c.zip.ensures.whole (λ x y z is. search rules) c.zip.ensures.each
