use Rattle.field_element.proofs.TripleBytes.{second_below, second_put, third_below, third_put}
use Rattle.field_element.proofs.triple_bytes.with_byte_of.Goals as goal

pub put_byte-requires-then-i-lt16-clause-above : goal.put_byte-requires-then-i-lt16-clause-above
put_byte-requires-then-i-lt16-clause-above c =
    let x = c.args.words in second_below c.args.i x.c0 x.c1 x.c2 c.if-i-lt8.false c.requires.above

pub returns-then-i-lt16 : goal.returns-then-i-lt16
returns-then-i-lt16 c =
    let x = c.args.words in second_put c.args.i c.args.byte x.c0 x.c1 x.c2 _ c.if-i-lt8.false c.put_byte-then-i-lt16.ensures

pub put_byte-requires-2-clause-above : goal.put_byte-requires-2-clause-above
put_byte-requires-2-clause-above c =
    let x = c.args.words in third_below c.args.i x.c0 x.c1 x.c2 c.if-i-lt16.false c.requires.above

pub returns : goal.returns
returns c =
    let x = c.args.words in third_put c.args.i c.args.byte x.c0 x.c1 x.c2 _ c.if-i-lt16.false c.put_byte-2.ensures
