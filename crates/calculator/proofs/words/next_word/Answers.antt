-- The two exits: a line of spaces has no word, and any other its first one and then those of what follows it.
use Rattle.std.proofs.Common.{sym}
use Rattle.std.proofs.lemmas.List.{take_rest}
use Rattle.calculator.proofs.WordLemmas.{words_none, words_some}
use Rattle.calculator.proofs.words.next_word.Goals as goal

pub returns-in_err-begun : goal.returns-in_err-begun
returns-in_err-begun c = rw c.from_residual.ensures (words_none c.args.line.now (sym c.in_err-begun.ensures))

pub returns : goal.returns
returns c =
    let line = c.args.line.now in
    words_some line _ c.in_ok-begun.field-0 c.unwrap_or-end.result c.first_space.result (take_rest line c.in_ok-begun.field-0)
    c.in_ok-begun.ensures c.first_space.ensures c.unwrap_or-end.ensures
