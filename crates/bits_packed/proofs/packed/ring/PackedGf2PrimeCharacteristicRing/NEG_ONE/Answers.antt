use Rattle.std.proofs.Common.{◌≡◌, true}
use Rattle.std.proofs.Math.Bool.{Bool-set}
use mathlib.Core.HLevel.{is_prop→PathP}
use Rattle.bits_packed.proofs.packed.ring.PackedGf2PrimeCharacteristicRing.NEG_ONE.Goals as goal

pub returns : goal.returns
returns g c = λ i.
    record {
      bits = c.ONES.ensures i;
      in_range = is_prop→PathP (λ j. g.U.Underlier.is_whole (c.ONES.ensures j) ≡ true) (λ j. Bool-set _ _) c.result-1.given.0 g.U.Underlier.ones_whole i;
    }
