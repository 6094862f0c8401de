use Rattle.std.proofs.Common.{◌∷◌, [], refl}
use Rattle.field_base.proofs.TableChecks.{passes, tabulates}
use Rattle.additive_transforms.proofs.LaneWeaving.{lanes_woven}
use Rattle.additive_transforms.proofs.word_planes.U8x32WordPlanesByteMultiples.woven.Goals as goal

pub returns : goal.returns
unfolding tabulates passes
returns g c =
    lanes_woven 32 c.args.evens c.args.odds c.fits-evens.0 refl (0 ∷ 32 ∷ 1 ∷ 33 ∷ 2 ∷ 34 ∷ 3 ∷ 35 ∷ 4 ∷ 36 ∷ 5 ∷ 37 ∷ 6 ∷ 38 ∷ 7 ∷ 39 ∷ 8 ∷ 40 ∷ 9 ∷ 41 ∷ 10 ∷ 42 ∷ 11 ∷ 43 ∷ 12 ∷ 44 ∷ 13 ∷ 45 ∷ 14 ∷ 46 ∷ 15 ∷ 47 ∷ []) (16 ∷ 48 ∷ 17 ∷ 49 ∷ 18 ∷ 50 ∷ 19 ∷ 51 ∷ 20 ∷ 52 ∷ 21 ∷ 53 ∷ 22 ∷ 54 ∷ 23 ∷ 55 ∷ 24 ∷ 56 ∷ 25 ∷ 57 ∷ 26 ∷ 58 ∷ 27 ∷ 59 ∷ 28 ∷ 60 ∷ 29 ∷ 61 ∷ 30 ∷ 62 ∷ 31 ∷ 63 ∷ []) refl refl refl refl
