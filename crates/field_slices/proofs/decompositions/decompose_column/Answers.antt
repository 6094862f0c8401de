use Rattle.field_slices.proofs.RowExchanges.{exchanged-placed}
use Rattle.field_slices.proofs.TriangularSteps.{decomposition-cleared, decomposition-exchanged}
use Rattle.field_slices.proofs.decompositions.decompose_column.Goals as goal

pub returns-in-Some-clause-decomposed : goal.returns-in-Some-clause-decomposed
returns-in-Some-clause-decomposed g c =
    let ring = (g.met.S.Scalars.field_law c.args.field).ring in
    let column = c.args.column in
    let row = c.in-Some.row in
    let found = c.in-Some.ensures.inside in
    let placed = c.swap.ensures.by_index in
    let factors = c.write_factors in
    let cleared = c.clear_below in
    λ A so_far.
    decomposition-cleared ring
    (decomposition-exchanged ring so_far found.0 found.1 c.requires.column (λ i. exchanged-placed column row i c.args.order.now c.swap.new.self placed)
    (λ i j inside. c.exchange_rows-in-Some.ensures.entries i j inside) (λ i j inside. c.exchange_rows.ensures.entries i j inside))
    c.requires.column factors.ensures.factors factors.ensures.stays cleared.ensures.cleared cleared.ensures.stays
