use Rattle.std.proofs.Common.{length}
use Rattle.additive_transforms.proofs.WordPlaces.{room_for}
use Rattle.additive_transforms.proofs.word_planes.U8x16WordPlanesByteMultiples.scatter.Goals as goal

pub write_bytes-requires : goal.write_bytes-requires
write_bytes-requires g c =
    room_for g.W.WordBytes.size c.args.start c.args.count (length c.args.words.now) 16 c.requires.count c.requires.inside
