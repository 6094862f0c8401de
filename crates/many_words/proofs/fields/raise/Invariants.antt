use Rattle.std.proofs.Common.{◌≡◌, ◌<◌, ◌^◌}
use Rattle.field_base.specs.Powers.{power}
use Rattle.many_words.specs.Fields.{field_of}
use Rattle.many_words.proofs.fields.raise.Given as goal

-- what is left to multiply, times what is there, is the whole power; and what is there is an element
abbrev pub invariant-loop-rest : goal.invariant-loop-rest
invariant-loop-rest g l =
    let field = field_of g.W.Reads.number g.K.FieldKernel.width g.K.FieldKernel.product g.K.FieldKernel.generator in
    (field.times (field.number l.value) (power 1 field.times (field.number l.base) l.rest)
    ≡ power 1 field.times (field.number l.fn.x) l.fn.exponent)
    × (field.number l.value < 2 ^ field.width)

abbrev pub decreases-loop-rest : goal.decreases-loop-rest
decreases-loop-rest g l = l.rest
