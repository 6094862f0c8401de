use Rattle.c_calls.proofs.numbers.four_numbers.Goals as goal

pub returns : goal.returns
returns c = c.numbers_of.ensures.whole c.requires
