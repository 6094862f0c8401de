use Rattle.std.proofs.Common.{◌∙◌, ap, take}
use Rattle.field_bytes.specs.Bytes.{low_bytes}
use Rattle.field_bytes.proofs.LowBytes.{low_first_of}
use Rattle.field_bytes.proofs.short_element.ShortElement.low_first.Goals as goal

pub returns : goal.returns
returns g c =
    let size = g.Self.RawDataSerializable.NUM_BYTES in
    ap (take size) c.to_le_bytes.ensures
    ∙ low_first_of size c.to_u128.result g.met.Self.ShortElement.short_law
    ∙ ap (low_bytes size) (c.to_u128.ensures ∙ c.to_repr.ensures)
