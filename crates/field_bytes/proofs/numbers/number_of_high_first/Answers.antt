use Rattle.std.proofs.Common.{◌∙◌, ap, arith, reverse, sym, lit<}
use Rattle.std.proofs.lemmas.List.{take_all}
use Rattle.field_bytes.specs.Bytes.{number_of_bytes}
use Rattle.field_bytes.proofs.GrowingNumbers.{grown, number_of_first, number_of_none, room_for}
use Rattle.field_bytes.proofs.numbers.number_of_high_first.Goals as goal

pub loop-i-init : goal.loop-i-init
loop-i-init c = record { below = lit< tt; is = sym number_of_none }

pub with_low_byte-number-requires : goal.with_low_byte-number-requires
with_low_byte-number-requires c =
    room_for (omega (arith, c.requires, c.loop-i-test.true)) c.loop-i.invariant.below c.loop-i.invariant.is
    (omega (arith, c.type_inv.bytes c.loop-i.i))

pub loop-i-preserved : goal.loop-i-preserved
loop-i-preserved c =
    let more =
    grown (omega (arith, c.requires, c.loop-i-test.true)) c.loop-i.invariant.below c.loop-i.invariant.is
    (omega (arith, c.type_inv.bytes c.loop-i.i)) (number_of_first c.args.bytes.now c.loop-i.i c.loop-i-test.true) c.with_low_byte-number.ensures in
    record { below = more.0; is = more.1 }

pub returns : goal.returns
returns c =
    c.loop-i.invariant.is
    ∙ ap (λ xs. number_of_bytes (reverse xs)) (take_all c.loop-i.i c.args.bytes.now (omega (arith, c.loop-i-test.false)))
