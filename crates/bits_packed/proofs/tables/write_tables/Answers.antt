use Rattle.std.proofs.Common.{◌≡◌, ℕ, ◌+◌, arith, subst}
use Rattle.std.specs.Prelude.{slice_index}
use Rattle.bits_packed.specs.BitMatrices.{HasTables, row_word}
use Rattle.bits_packed.proofs.FourRowTables.{no_tables, table_more}
use Rattle.bits_packed.proofs.tables.write_tables.Goals as goal

pub loop-group-init : goal.loop-group-init
loop-group-init c = (
  c.requires.tables,
  no_tables c.args.strip.width (λ k w. row_word c.args.inner c.args.strip.words c.args.matrix.now (slice_index c.args.places.now k) (c.args.strip.start + w)) c.args.tables.now,
)

pub loop-group-preserved : goal.loop-group-preserved
loop-group-preserved c = (
  c.write_table.ensures.tables,
  table_more c.args.strip.width c.loop-group.group (λ k w. row_word c.args.inner c.args.strip.words c.args.matrix.now (slice_index c.args.places.now k) (c.args.strip.start + w))
      c.loop-group.tables c.write_table.new.tables c.requires.strip.narrow c.loop-group.invariant.1 c.write_table.ensures.entries c.write_table.ensures.others,
)

pub returns-clause-entries : goal.returns-clause-entries
returns-clause-entries c =
    let all : c.loop-group.group ≡ 16 = omega arith in
    subst (λ (n : ℕ). HasTables c.args.strip.width n (λ k w. row_word c.args.inner c.args.strip.words c.args.matrix.now (slice_index c.args.places.now k) (c.args.strip.start + w)) c.loop-group.tables)
    all c.loop-group.invariant.1
