use Rattle.std.proofs.Common.{◌∙◌}
use Rattle.word_tables.proofs.HalfImages.{images_by_halves}
use Rattle.word_tables.proofs.nibbles.images_in_lanes.Goals as goal

pub returns : goal.returns
returns g c =
    c.entry_sums.ensures
    ∙ images_by_halves c.args.images.now c.args.low c.args.high c.told-images c.requires.low c.requires.high (g.V.ByteVector.bytes c.args.bytes)
    c.holds_bytes.ensures.fit
