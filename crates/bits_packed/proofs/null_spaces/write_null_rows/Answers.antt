use Rattle.std.proofs.Common.{◌∙◌, arith}
use Rattle.std.specs.Prelude.{slice_index}
use Rattle.field_base.specs.lemmas.BitRing.{bits_ring}
use Rattle.field_slices.proofs.NullSpaces.{free-here, vector-fits}
use Rattle.field_slices.proofs.NullSpaces.{vectors_start, vectors_pass, vectors_add, vectors_count, vectors_end, vectors_same}
use Rattle.bits_packed.specs.BitMatrices.{bit_entry}
use Rattle.bits_packed.proofs.BitNullRows.{behind_more, behind_same, null-behind}
use Rattle.bits_packed.proofs.null_spaces.write_null_rows.Goals as goal
use Rattle.bits_packed.proofs.null_spaces.write_null_rows.Goals.{then-leads_at, else-leads_at}

pub loop-column-init : goal.loop-column-init
loop-column-init c = (vectors_start bits_ring c.requires.reduced, λ q j below. absurd (omega (arith, below)))

pub write_null_row-requires-clause-row : goal.write_null_row-requires-clause-row
write_null_row-requires-clause-row c =
    let so_far = c.loop-column.invariant.0 in
    let free = free-here bits_ring c.requires.reduced so_far (c.leads_at.ensures.none c.if-leads_at.false) in
    let fits = vector-fits bits_ring c.requires.reduced so_far c.loop-column-test.true free in
    record { shape = so_far.shape ∙ c.requires.shape; row_within = omega (arith, fits, c.requires.rows) }

pub write_null_row-requires-clause-inside : goal.write_null_row-requires-clause-inside
write_null_row-requires-clause-inside c = λ k below.
    let fits = c.requires.reduced.pivots_fit k below in omega (arith, fits, c.requires.columns)

pub write_null_row-requires-clause-free : goal.write_null_row-requires-clause-free
write_null_row-requires-clause-free c =
    free-here bits_ring c.requires.reduced c.loop-column.invariant.0 (c.leads_at.ensures.none c.if-leads_at.false)

pub loop-column-preserved : goal.loop-column-preserved
loop-column-preserved c =
    let words = c.args.shape.words in
    let columns = c.args.columns in
    let loop = c.loop-column in
    let so_far = loop.invariant.0 in
    elim c.if-leads_at.branch [
      | then-leads_at w ↦
          let found = c.leads_at.ensures.next w.if-leads_at.true in (
            vectors_same (vectors_pass bits_ring c.requires.reduced so_far found.0 found.1) w.basis-is w.passed-is (omega (arith, w.passed-is)),
            behind_same words columns loop.invariant.1 w.basis-is (omega (arith, w.passed-is)),
          )
      | else-leads_at w ↦
          let write = w.write_null_row.ensures in
          let free = free-here bits_ring c.requires.reduced so_far (c.leads_at.ensures.none w.if-leads_at.false) in (
            vectors_same
                (vectors_add bits_ring c.requires.reduced so_far c.loop-column-test.true free write.shape
                (λ j inside. write.entries j (omega (arith, inside, c.requires.columns)))
                (λ i j other inside. write.others i j other (omega (arith, inside, c.requires.columns))))
                w.basis-is w.passed-is (omega (arith, w.passed-is, so_far.all)),
            behind_same words columns
                (behind_more words columns loop.invariant.1 write
                (λ j past. null-behind (slice_index c.args.pivots.now) (bit_entry words c.args.reduced.now) loop.column c.args.rank columns j
                c.requires.reduced.pivots_fit c.loop-column-test.true past))
                w.basis-is (omega (arith, w.passed-is, so_far.all)),
          )
    ]

pub returns-clause-basis : goal.returns-clause-basis
returns-clause-basis c = vectors_end bits_ring c.requires.reduced c.loop-column.invariant.0 (omega arith)

pub returns-clause-behind : goal.returns-clause-behind
returns-clause-behind c =
    let count = vectors_count bits_ring c.requires.reduced c.loop-column.invariant.0 (omega arith) in
    λ q j below. c.loop-column.invariant.1 q j (omega (arith, below, count))
