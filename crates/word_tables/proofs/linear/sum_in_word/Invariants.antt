use Rattle.std.proofs.Common.{◌≡◌, ◌+◌}
use Rattle.std.specs.Prelude.{bit_xor}
use Rattle.word_tables.specs.LinearMap.{sum_of_values}
use Rattle.word_tables.proofs.linear.sum_in_word.Given as goal

-- the values at the first i digits of the word are in the sum
abbrev pub invariant-loop-i : goal.invariant-loop-i
invariant-loop-i l = bit_xor (sum_of_values l.first l.values l.x) l.sum ≡ sum_of_values (l.first + l.i) l.values l.x
