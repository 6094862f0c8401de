use Rattle.std.proofs.Common.{◌∷◌, [], refl}
use Rattle.field_base.proofs.TableChecks.{passes, tabulates}
use Rattle.additive_transforms.proofs.LaneWeaving.{lanes_unwoven}
use Rattle.additive_transforms.proofs.word_planes.U8x16WordPlanesByteMultiples.unwoven.Goals as goal

pub returns : goal.returns
unfolding tabulates passes
returns g c =
    lanes_unwoven 16 c.args.first c.args.second c.fits-first.0 refl (0 ∷ 2 ∷ 4 ∷ 6 ∷ 8 ∷ 10 ∷ 12 ∷ 14 ∷ 16 ∷ 18 ∷ 20 ∷ 22 ∷ 24 ∷ 26 ∷ 28 ∷ 30 ∷ []) (1 ∷ 3 ∷ 5 ∷ 7 ∷ 9 ∷ 11 ∷ 13 ∷ 15 ∷ 17 ∷ 19 ∷ 21 ∷ 23 ∷ 25 ∷ 27 ∷ 29 ∷ 31 ∷ []) refl refl refl refl
