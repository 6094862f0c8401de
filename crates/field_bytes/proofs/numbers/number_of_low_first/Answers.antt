use Rattle.std.proofs.Common.{◌≡◌, ◌-◌, ◌∙◌, ℕ, ap, arith, drop, length, sym, lit<}
use Rattle.std.proofs.lemmas.List.{drop_all}
use Rattle.field_bytes.specs.Bytes.{number_of_bytes}
use Rattle.field_bytes.proofs.GrowingNumbers.{grown, number_of_last, number_of_none, room_for}
use Rattle.field_bytes.proofs.numbers.number_of_low_first.Goals as goal

pub loop-i-init : goal.loop-i-init
loop-i-init c = record {
  below = lit< tt;
  is = sym (ap number_of_bytes (drop_all (length c.args.bytes.now - 0) c.args.bytes.now (omega arith)) ∙ number_of_none);
}

pub with_low_byte-number-requires : goal.with_low_byte-number-requires
with_low_byte-number-requires c =
    room_for (omega (arith, c.requires, c.loop-i-test.true)) c.loop-i.invariant.below c.loop-i.invariant.is
    (omega (arith, c.type_inv.bytes (length c.args.bytes.now - 1 - c.loop-i.i)))

pub loop-i-preserved : goal.loop-i-preserved
loop-i-preserved c =
    let more =
    grown (omega (arith, c.requires, c.loop-i-test.true)) c.loop-i.invariant.below c.loop-i.invariant.is
    (omega (arith, c.type_inv.bytes (length c.args.bytes.now - 1 - c.loop-i.i))) (number_of_last c.args.bytes.now c.loop-i.i c.loop-i-test.true) c.with_low_byte-number.ensures in
    record { below = more.0; is = more.1 }

pub returns : goal.returns
returns c =
    let all : length c.args.bytes.now - c.loop-i.i ≡ 0 = omega (arith, c.loop-i-test.false) in
    c.loop-i.invariant.is ∙ ap (λ (k : ℕ). number_of_bytes (drop k c.args.bytes.now)) all
