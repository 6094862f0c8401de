use Rattle.field_base.proofs.Steps.{three_numbers}
use Rattle.word_polynomial.proofs.triple.Triple.read.Goals as goal

pub returns : goal.returns
returns g c =
    three_numbers g.F.Format.gives g.F.Format.stays c.args.from.now c.begin_seq.new.self c.read_item.new.from c.read_item-2.new.from
    c.read_item-3.new.from c.expect_end.new.self _ _ _ c.in_ok-begin_seq.ensures c.in_ok-c0.ensures c.in_ok-c1.ensures
    c.in_ok-c2.ensures c.in_ok-expect_end.ensures
