use Rattle.std.proofs.Common.{◌-◌, ◌∙◌, ap, drop}
use Rattle.field_bytes.specs.BigEndian.{be_bytes}
use Rattle.field_bytes.proofs.LowBytes.{high_first_of}
use Rattle.field_bytes.proofs.short_element.ShortElement.high_first.Goals as goal

pub returns : goal.returns
returns g c =
    let size = g.Self.RawDataSerializable.NUM_BYTES in
    ap (drop (16 - size)) c.to_be_bytes.ensures
    ∙ high_first_of size c.to_u128.result g.met.Self.ShortElement.short_law
    ∙ ap (be_bytes size) (c.to_u128.ensures ∙ c.to_repr.ensures)
