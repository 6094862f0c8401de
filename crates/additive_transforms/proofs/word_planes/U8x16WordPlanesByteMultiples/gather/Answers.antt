use Rattle.std.proofs.Common.{length}
use Rattle.additive_transforms.proofs.WordPlaces.{room_for}
use Rattle.additive_transforms.proofs.word_planes.U8x16WordPlanesByteMultiples.gather.Goals as goal

pub read_bytes-requires : goal.read_bytes-requires
read_bytes-requires g c =
    room_for g.W.WordBytes.size c.args.start c.args.count (length c.args.words.now) 16 c.requires.count c.requires.inside
