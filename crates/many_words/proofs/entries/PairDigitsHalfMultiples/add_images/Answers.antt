use Rattle.std.proofs.Common.{◌≡◌, ◌+◌, ◌*◌, ◌/◌, ◌^◌, ◌≤◌, ℕ, ◌∙◌, ap, arith, length}
use Rattle.std.specs.Prelude.{bit_xor}
use Rattle.std.proofs.Math.Nat.{pow-succ'}
use Rattle.additive_transforms.specs.Halves.{lane_of_halves}
use Rattle.additive_transforms.specs.Rows.{level_of}
use Rattle.many_words.proofs.TableLanes.{digits_bits, first_tables, second_tables, two_images}
use Rattle.many_words.proofs.entries.PairDigitsHalfMultiples.add_images.Goals as goal

pub returns : goal.returns
unfolding lane_of_halves
returns g c f from are l below =
    let lane = g.S.Planes.lane in
    let tables = c.args.tables.now in
    let half = length tables / 2 in
    let step = 2 ^ level_of g.P.Planes.depth in
    let parts = c.split_at.ensures in
    let count = c.requires in
    let bits = digits_bits g.P.Planes.depth in
    let power = pow-succ' 2 g.P.Planes.depth in
    let up : 4 * half ≡ step = omega (arith, count, bits, power) in
    let room : half ≤ length tables = omega arith in
    let low = g.P.Planes.lane c.args.self.now.low l in
    let high = g.P.Planes.lane c.args.self.now.high l in
    c.add_images-2.ensures f (from + step) (second_tables lane f from tables are half step _ parts.back parts.back_len up) l below
    ∙ ap (λ (x : ℕ). bit_xor x (f (high * 2 ^ (from + step))))
    (c.add_images.ensures f from (first_tables lane f from tables are half _ parts.front parts.front_len room) l below)
    ∙ two_images lane f from tables are step low high (lane c.args.sums.now l) (g.met.P.Planes.fits_law c.args.self.now.low l)
