-- The rule of the Cantor vectors, clause by clause.
use Rattle.word_tables.proofs.CantorVectors.{are_even, lie_in_levels, one_of_each_parity, solve_the_one_before}
use Rattle.word_tables.proofs.cantor.cantor_vectors_are_solutions.Goals as goal

pub returns-clause-levels : goal.returns-clause-levels
returns-clause-levels c = lie_in_levels

pub returns-clause-solutions : goal.returns-clause-solutions
returns-clause-solutions c = solve_the_one_before

pub returns-clause-even : goal.returns-clause-even
returns-clause-even c = are_even

pub returns-clause-unique : goal.returns-clause-unique
returns-clause-unique c = one_of_each_parity
