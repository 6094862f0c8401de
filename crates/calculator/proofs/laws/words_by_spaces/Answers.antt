-- The laws of words.
use Rattle.calculator.proofs.WordLemmas.{words-nil, words-run, words-space_between}
use Rattle.calculator.proofs.laws.words_by_spaces.Goals as goal

pub returns-clause-empty : goal.returns-clause-empty
returns-clause-empty c = words-nil

pub returns-clause-run : goal.returns-clause-run
returns-clause-run c = words-run

pub returns-clause-space : goal.returns-clause-space
returns-clause-space c = words-space_between
