use Rattle.std.proofs.Common.{◌%◌, ◌^◌, ℕ, ◌∙◌, ap}
use Rattle.small_tables.proofs.SmallFields.{basis-fits, shift-fits}
use Rattle.small_tables.proofs.small_field.SmallField.basis.Goals as goal

pub unit_chunk-number-requires : goal.unit_chunk-number-requires
unit_chunk-number-requires g c =
    let field = g.F.Represented in
    let small = c.args.self.now in
    shift-fits field.width field.product small.width small.levels c.args.place g.F.RawDataSerializable.NUM_BYTES small.space c.requires
    g.met.F.RawDataSerializable.room_law g.met.F.ShortElement.short_law

pub returns : goal.returns
returns g c =
    let field = g.F.Represented in
    let small = c.args.self.now in
    c.of_number.ensures ∙ ap (λ (x : ℕ). x % 2 ^ field.width) c.unit_chunk-number.ensures
    ∙ basis-fits field.width field.product small.width small.levels c.args.place small.space c.requires
