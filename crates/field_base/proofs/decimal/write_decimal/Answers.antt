use Rattle.std.proofs.Common.{◌-◌, drop, arith, take_all, length-drop}
use Rattle.std.proofs.lemmas.Fmt.{IsAscii-decimal_wide}
use Rattle.std.proofs.lemmas.Str.{IsUtf8-from_ascii}
use Rattle.field_base.proofs.decimal.write_decimal.Goals as goal

pub from_utf8_unchecked-requires : goal.from_utf8_unchecked-requires
from_utf8_unchecked-requires g c =
    let w = c.place_digits-start in
    IsUtf8-from_ascii _ (rw (take_all (40 - w.result) (drop w.result w.new.buffer) (omega (arith, length-drop w.result w.new.buffer)), w.ensures.written) (IsAscii-decimal_wide c.args.n (omega (arith, c.ranges.n.fits))))
