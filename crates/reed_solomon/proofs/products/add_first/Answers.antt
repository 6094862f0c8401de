use Rattle.std.proofs.Common.{arith}
use Rattle.reed_solomon.proofs.RowProducts.{bytes_of_word}
use Rattle.reed_solomon.proofs.products.add_first.Goals as goal

pub add_in_planes-requires-then-LEVEL-eq4-clause-size : goal.add_in_planes-requires-then-LEVEL-eq4-clause-size
add_in_planes-requires-then-LEVEL-eq4-clause-size g c =
    bytes_of_word c.in_sixteen-words.result _ 1 c.in_sixteen-words.ensures.bytes (omega (arith, c.if-words-eq8.true))

pub add_in_planes-requires-then-LEVEL-eq5-clause-size : goal.add_in_planes-requires-then-LEVEL-eq5-clause-size
add_in_planes-requires-then-LEVEL-eq5-clause-size g c =
    bytes_of_word c.in_sixteen-words.result _ 2 c.in_sixteen-words.ensures.bytes (omega (arith, c.if-words-eq4.true))

pub add_in_planes-requires-then-LEVEL-eq6-clause-size : goal.add_in_planes-requires-then-LEVEL-eq6-clause-size
add_in_planes-requires-then-LEVEL-eq6-clause-size g c =
    bytes_of_word c.in_sixteen-words.result _ 3 c.in_sixteen-words.ensures.bytes (omega (arith, c.if-words-eq2.true))

pub add_in_planes-requires-then-LEVEL-eq7-clause-size : goal.add_in_planes-requires-then-LEVEL-eq7-clause-size
add_in_planes-requires-then-LEVEL-eq7-clause-size g c =
    bytes_of_word c.in_sixteen-words.result _ 4 c.in_sixteen-words.ensures.bytes (omega (arith, c.if-words-eq1.true))
