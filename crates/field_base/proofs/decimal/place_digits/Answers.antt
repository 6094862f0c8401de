use Rattle.std.proofs.Common.{arith, append_assoc}
use Rattle.field_base.proofs.Groups.{decimal_wide, length_wide, group_placed}
use Rattle.field_base.proofs.decimal.place_digits.Goals as goal

pub write_digits-requires : goal.write_digits-requires
write_digits-requires c =
    let l = c.loop-left in
    let fits = l.auto.left-fits.fits in
    let wide = decimal_wide l.left (omega arith) fits in
    (rw c.split_group-quotient.ensures.remainder (omega (arith, length_wide c.args.n c.ranges.n.fits, wide.1, wide.2)), omega arith)

pub overflow_sub-end : goal.overflow_sub-end
overflow_sub-end c =
    let l = c.loop-left in
    let wide = decimal_wide l.left (omega arith) l.auto.left-fits.fits in
    omega (arith, length_wide c.args.n c.ranges.n.fits, wide.1)

pub loop-left-preserved : goal.loop-left-preserved
loop-left-preserved c =
    let l = c.loop-left in
    let split = c.split_group-quotient in
    let w = c.write_digits in
    let wide = decimal_wide l.left (omega arith) l.auto.left-fits.fits in
    let long = length_wide c.args.n c.ranges.n.fits in
    let placed = group_placed l.buffer w.new.buf _ l.end w.result w.ensures.start (rw split.ensures.remainder wide.2) (omega (arith, long, wide.1)) l.invariant.4 w.ensures.written w.ensures.before in (
      omega arith,
      omega (arith, w.auto.buf),
      rw split.ensures.quotient (omega (arith, long, wide.1)),
      rw (split.ensures.quotient, placed.0, split.ensures.remainder, ← append_assoc, ← wide.0) l.invariant.3,
      placed.1,
    )

pub write_digits-requires-2 : goal.write_digits-requires-2
write_digits-requires-2 c = (omega (arith, length_wide c.args.n c.ranges.n.fits), omega arith)
