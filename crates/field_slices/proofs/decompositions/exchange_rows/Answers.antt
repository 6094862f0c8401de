use Rattle.std.proofs.Common.{◌≡◌, ℕ, subst, arith}
use Rattle.field_slices.specs.Decompositions.{exchanged_entry}
use Rattle.field_slices.specs.Matrices.{entry_of}
use Rattle.field_slices.proofs.RowExchanges.{exchange_start, exchange_step}
use Rattle.field_slices.proofs.decompositions.exchange_rows.Goals as goal

pub loop-column-init : goal.loop-column-init
loop-column-init g c = exchange_start

pub loop-column-preserved : goal.loop-column-preserved
loop-column-preserved g c =
    exchange_step c.loop-column.invariant (omega arith) c.entry-x.ensures c.entry-y.ensures c.set_entry.ensures c.set_entry-in-loop-column.ensures

pub returns-clause-entries : goal.returns-clause-entries
returns-clause-entries g c =
    let number = g.S.Scalars.number c.args.field in
    let all : c.loop-column.column ≡ c.args.count = omega arith in
    λ i j inside.
    subst (λ (n : ℕ). entry_of number c.args.shape.columns c.loop-column.matrix i j
    ≡ exchanged_entry c.args.first c.args.second n (entry_of number c.args.shape.columns c.args.matrix.now) i j) all
    (c.loop-column.invariant.entries i j inside)
