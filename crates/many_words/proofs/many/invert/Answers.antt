use Rattle.std.proofs.Common.{◌<◌, ◌^◌, ◌∙◌}
use Rattle.field_base.specs.Field.{IsInverseOrZero}
use Rattle.many_words.proofs.BothParts.{both_parts_of, first_part, last_part}
use Rattle.many_words.proofs.many.invert.Goals as goal

pub invert_all-requires : goal.invert_all-requires
invert_all-requires g c =
    let parts = c.split_at_mut-blocks in
    first_part (λ (x : _). g.W.Reads.number x < 2 ^ g.K.FieldKernel.width) c.args.words.now parts.result.0.now parts.result.1.now
    parts.ensures.value c.requires

pub invert_all-requires-2 : goal.invert_all-requires-2
invert_all-requires-2 g c =
    let parts = c.split_at_mut-blocks in
    last_part (λ (x : _). g.W.Reads.number x < 2 ^ g.K.FieldKernel.width) c.args.words.now parts.result.0.now parts.result.1.now
    parts.ensures.value c.requires

pub returns-clause-inverses : goal.returns-clause-inverses
returns-clause-inverses g c =
    let number = g.W.Reads.number in
    let parts = c.split_at_mut-blocks in
    let front = parts.result.0.now in
    let back = parts.result.1.now in
    let long = parts.ensures.front_len in
    both_parts_of (λ x y z. (number z < 2 ^ g.K.FieldKernel.width) × IsInverseOrZero g.K.FieldKernel.product (number x) (number z)) _
    front back front back c.invert_all.new.words c.invert_all-2.new.words long long (c.invert_all.ensures.long ∙ long) c.args.words.now
    c.args.words.now parts.ensures.value parts.ensures.value c.invert_all.ensures.inverses c.invert_all-2.ensures.inverses
