use Rattle.std.proofs.Common.{◌∷◌, [], refl}
use Rattle.field_base.proofs.TableChecks.{passes, tabulates}
use Rattle.additive_transforms.proofs.LaneWeaving.{lanes_woven}
use Rattle.additive_transforms.proofs.word_planes.U8x16WordPlanesByteMultiples.woven.Goals as goal

pub returns : goal.returns
unfolding tabulates passes
returns g c =
    lanes_woven 16 c.args.evens c.args.odds c.fits-evens.0 refl (0 ∷ 16 ∷ 1 ∷ 17 ∷ 2 ∷ 18 ∷ 3 ∷ 19 ∷ 4 ∷ 20 ∷ 5 ∷ 21 ∷ 6 ∷ 22 ∷ 7 ∷ 23 ∷ []) (8 ∷ 24 ∷ 9 ∷ 25 ∷ 10 ∷ 26 ∷ 11 ∷ 27 ∷ 12 ∷ 28 ∷ 13 ∷ 29 ∷ 14 ∷ 30 ∷ 15 ∷ 31 ∷ []) refl refl refl refl
