use Rattle.std.proofs.Common.{◌≡◌, ◌<◌, ◌*◌, ◌^◌, reverse, take}
use Rattle.field_bytes.specs.Bytes.{number_of_bytes}
use Rattle.field_bytes.proofs.numbers.number_of_high_first.Given as goal

-- the number of the first bytes, as many as have been read
abbrev pub invariant-loop-i : goal.invariant-loop-i
invariant-loop-i l = record {
  below : l.number < 2 ^ (8 * l.i);
  is : l.number ≡ number_of_bytes (reverse (take l.i l.bytes));
}
