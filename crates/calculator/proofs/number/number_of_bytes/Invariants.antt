-- The number so far is that of the bytes so far.
use Rattle.std.proofs.Common.{◌≡◌, ◌<◌, ◌^◌, ◌*◌, ◌+◌, fold, take}
use Rattle.calculator.proofs.number.number_of_bytes.Given as goal

abbrev pub invariant-loop-byte : goal.invariant-loop-byte
invariant-loop-byte l = record {
  fits : l.number < 256 ^ l.byte-index;
  read : l.number ≡ fold (λ n byte. n * 256 + byte) 0 (take l.byte-index l.bytes);
}
