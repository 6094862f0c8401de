use Rattle.std.proofs.Common.{◌/◌, ◌+◌, ◌≤◌, ℕ, List, length, map, refl, sym, ◌∙◌, ap, subst}
use Rattle.std.specs.Prelude.{slice_index}
use Rattle.additive_transforms.proofs.ChunkProducts.{halved}
use Rattle.additive_transforms.proofs.LaneWeaving.{joined_first, joined_second, lanes_put}
use Rattle.additive_transforms.proofs.UnitFacts.{half_count, half_rooms, two_put}
use Rattle.additive_transforms.proofs.word_planes.U8x32WordPlanesByteMultiples.scatter.Goals as goal

pub write_bytes-requires : goal.write_bytes-requires
write_bytes-requires g c =
    (half_rooms g.W.WordBytes.size c.args.count c.args.start (length c.args.words.now) g.met.W.WordBytes.size_law c.requires.count
    c.requires.inside).0

pub write_bytes-requires-2 : goal.write_bytes-requires-2
write_bytes-requires-2 g c =
    (half_rooms g.W.WordBytes.size c.args.count c.args.start (length c.write_bytes.new.words) g.met.W.WordBytes.size_law c.requires.count
    (subst (λ (n : ℕ). c.args.start + c.args.count ≤ n) (sym c.write_bytes.ensures.length) c.requires.inside)).1

pub returns-clause-words : goal.returns-clause-words
returns-clause-words g c =
    let size = g.W.WordBytes.size in
    let half = half_count size c.args.count 16 1 g.met.W.WordBytes.size_law refl c.requires.count in
    let numbers = map g.W.Reads.number in
    let a = c.halves.result.0 in
    let b = c.halves.result.1 in
    let parts = halved c.args.self a b c.fits-self.0 c.halves.ensures in
    let at = λ (p : ℕ). ap (λ (bytes : List ℕ). slice_index bytes p) parts.0 in
    lanes_put size c.args.start 32 c.args.self (numbers c.args.words.now) (numbers c.write_bytes-2.new.words) c.fits-self.0 c.fits-self.1
    (two_put 0 size c.args.start (c.args.count / 2) 16 half.0 (slice_index a) (slice_index b) (slice_index c.args.self)
    (λ p below. at p ∙ joined_first a b 16 p parts.1 below) (λ p past below. at p ∙ joined_second a b 16 p parts.1 past)
    (numbers c.args.words.now) (numbers c.write_bytes.new.words) (numbers c.write_bytes-2.new.words) c.write_bytes.ensures.words
    c.write_bytes-2.ensures.words)
