use Rattle.c_calls.proofs.LowNumbers.{held_inverses}
use Rattle.c_calls.proofs.values.write_inverses.Goals as goal

pub returns : goal.returns
returns g c =
    let field = g.S.ScalarWords.field c.args.field in
    held_inverses field c.args.words.now c.inverses_into.new.inverses c.truncate_all.new.words c.truncate_all.ensures.long
    c.requires.elements c.inverses_into.ensures c.truncate_all.ensures.low
