use Rattle.std.proofs.Common.{arith}
use Rattle.word_tables.specs.LinearMap.{map_of}
use Rattle.word_tables.proofs.DigitMaps.{values_give_map}
use Rattle.word_tables.proofs.linear.LinearMap.new.Goals as goal

pub returns : goal.returns
unfolding map_of
returns c x =
    values_give_map c.args.images.now c.values_at_digits.result (omega (arith, c.told-images)) c.values_at_digits.ensures x
