use Rattle.std.proofs.Common.{◌+◌, ◌^◌, ℕ, map, ◌∙◌, ap, subst}
use Rattle.field_bytes.specs.Streams.{joined_bytes}
use Rattle.transcripts.specs.Commitments.{IsTreeOver, row_at}
use Rattle.protocols.specs.CommitmentScheme.{matrix_rows}
use Rattle.protocols.specs.Tables.{AreExtendedColumns}
use Rattle.protocols.proofs.BlockPlaces.{matrix-whole}
use Rattle.protocols.proofs.commitment_scheme.commit.Goals as goal

pub commit_table-requires-clause-count : goal.commit_table-requires-clause-count
commit_table-requires-clause-count g c =
    let sizes = c.args.parameters.now in
    c.requires.count ∙ matrix-whole sizes.queries sizes.variables sizes.rows sizes.levels sizes.rows_are sizes.levels_are

pub returns : goal.returns
returns g c =
    let field = g.F.Represented in
    let sizes = c.args.parameters.now in
    let held = c.in_ok-held.held in
    let says : ℕ → ℕ → Type 0 =
    λ (k rows : ℕ).
    AreExtendedColumns field.repr field.width field.product (λ (i : ℕ). g.F.TowerLevel.basis (g.F.TowerLevel.cantor i)) k 2 (2 ^ rows)
    (map field.repr c.args.table.now) held.columns.items in
    record {
      count = c.requires.count;
      extended =
          subst (λ (k : ℕ). says k (matrix_rows sizes.queries sizes.variables)) sizes.levels_are
          (subst (λ (r : ℕ). says sizes.levels r) sizes.rows_are c.in_ok-held.ensures.columns);
      depth = c.in_ok-held.ensures.depth ∙ ap (λ (k : ℕ). 2 + k) sizes.levels_are;
      over =
          subst
          (λ (r : ℕ). IsTreeOver (g.H.ByteHasher32.digest c.args.hasher.now)
          (λ (p : ℕ). joined_bytes g.F.RawDataSerializable.NUM_BYTES field.repr (row_at (2 ^ r) held.columns.items p)) held.tree) sizes.rows_are
          c.in_ok-held.ensures.tree;
    }
