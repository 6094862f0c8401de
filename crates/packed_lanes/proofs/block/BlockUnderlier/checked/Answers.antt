use Rattle.std.proofs.Common.{◌≡◌, Fits, length, rules, w64}
use Rattle.std.specs.Prelude.{bit_and}
use Rattle.std.specs.Simd.Lanes.{Each1, zip2}
use Rattle.packed_lanes.specs.lemmas.Joined.{whole_from}
use Rattle.packed_lanes.proofs.FittingLanes.{fit_themselves}
use Rattle.packed_lanes.proofs.block.BlockUnderlier.checked.Goals as goal

pub returns-clause-whole : goal.returns-clause-whole
returns-clause-whole g c =
    let long : length c.args.self.now.words ≡ g.row.N = search rules in
    let lanes : Each1 (Fits w64) (zip2 bit_and c.args.self.now.words c.args.self.now.words) = search rules in
    whole_from 64 g.row.N c.args.self.now.words long (fit_themselves c.args.self.now.words lanes)
