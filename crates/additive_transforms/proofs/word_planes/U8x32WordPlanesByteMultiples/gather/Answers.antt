use Rattle.std.proofs.Common.{◌/◌, ℕ, List, ◌++◌, length, map, refl, sym, subst}
use Rattle.std.specs.Prelude.{slice_index}
use Rattle.additive_transforms.specs.Units.{AreUnits}
use Rattle.additive_transforms.proofs.LaneWeaving.{joined_first, joined_second, lanes_read}
use Rattle.additive_transforms.proofs.UnitFacts.{half_count, half_rooms, two_read}
use Rattle.additive_transforms.proofs.word_planes.U8x32WordPlanesByteMultiples.gather.Goals as goal

pub read_bytes-first-requires : goal.read_bytes-first-requires
read_bytes-first-requires g c =
    (half_rooms g.W.WordBytes.size c.args.count c.args.start (length c.args.words.now) g.met.W.WordBytes.size_law c.requires.count
    c.requires.inside).0

pub read_bytes-second-requires : goal.read_bytes-second-requires
read_bytes-second-requires g c =
    (half_rooms g.W.WordBytes.size c.args.count c.args.start (length c.args.words.now) g.met.W.WordBytes.size_law c.requires.count
    c.requires.inside).1

pub returns : goal.returns
returns g c =
    let size = g.W.WordBytes.size in
    let half = half_count size c.args.count 16 1 g.met.W.WordBytes.size_law refl c.requires.count in
    let numbers = map g.W.Reads.number c.args.words.now in
    let a = c.read_bytes-first.result in
    let b = c.read_bytes-second.result in
    let long = c.holds_bytes.ensures.count in
    lanes_read size c.args.start 32 c.joined.result numbers
    (subst (λ (bytes : List ℕ). AreUnits 0 size c.args.start 32 (slice_index bytes) numbers) (sym c.joined.ensures)
    (two_read 0 size c.args.start (c.args.count / 2) 16 half.0 (slice_index a) (slice_index b) (slice_index (a ++ b))
    (λ p below. joined_first a b 16 p long below) (λ p past below. joined_second a b 16 p long past) numbers c.read_bytes-first.ensures
    c.read_bytes-second.ensures))
