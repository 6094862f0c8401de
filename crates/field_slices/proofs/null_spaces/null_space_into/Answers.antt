use Rattle.std.proofs.Common.{◌∙◌, arith}
use Rattle.field_slices.proofs.NullSpaces.{rank-columns, free-here, vector-fits}
use Rattle.field_slices.proofs.NullSpaces.{vectors_start, vectors_pass, vectors_add, vectors_end, vectors_same}
use Rattle.field_slices.proofs.null_spaces.null_space_into.Goals as goal
use Rattle.field_slices.proofs.null_spaces.null_space_into.Goals.{then-leads_at, else-leads_at}

pub overflow_sub-shape : goal.overflow_sub-shape
overflow_sub-shape g c = rank-columns (g.met.S.Scalars.field_law c.args.field).ring c.requires.reduced

pub loop-column-init : goal.loop-column-init
loop-column-init g c = vectors_start (g.met.S.Scalars.field_law c.args.field).ring c.requires.reduced

pub write_null_row-requires-clause-row : goal.write_null_row-requires-clause-row
write_null_row-requires-clause-row g c =
    let ring = (g.met.S.Scalars.field_law c.args.field).ring in
    let so_far = c.loop-column.invariant in
    record {
      shape = so_far.shape ∙ c.requires.shape;
      row_within = vector-fits ring c.requires.reduced so_far c.loop-column-test.true
          (free-here ring c.requires.reduced so_far (c.leads_at.ensures.none c.if-leads_at.false));
    }

pub loop-column-preserved : goal.loop-column-preserved
loop-column-preserved g c =
    let ring = (g.met.S.Scalars.field_law c.args.field).ring in
    let so_far = c.loop-column.invariant in
    elim c.if-leads_at.branch [
      | then-leads_at w ↦
          let found = c.leads_at.ensures.next w.if-leads_at.true in
          vectors_same (vectors_pass ring c.requires.reduced so_far found.0 found.1) w.basis-is w.passed-is (omega (arith, w.passed-is))
      | else-leads_at w ↦
          let write = w.write_null_row.ensures in
          vectors_same
          (vectors_add ring c.requires.reduced so_far c.loop-column-test.true
          (free-here ring c.requires.reduced so_far (c.leads_at.ensures.none w.if-leads_at.false)) write.shape write.entries write.others)
          w.basis-is w.passed-is (omega (arith, w.passed-is, so_far.all))
    ]

pub returns-clause-basis : goal.returns-clause-basis
returns-clause-basis g c =
    vectors_end (g.met.S.Scalars.field_law c.args.field).ring c.requires.reduced c.loop-column.invariant (omega arith)
