use Rattle.std.proofs.Common.{map, ap, ◌∙◌}
use Rattle.field_base.proofs.ChunkLists.{chunks-whole}
use Rattle.packed_lanes.proofs.words.only_word.Goals as goal

pub returns : goal.returns
returns g c = ap (map g.W.Word.number) c.from_ref.ensures.value ∙ chunks-whole g.W.Word.BITS _ c.to_u64-fits.ensures.fits
