use Rattle.std.proofs.Common.{rules, ◌≡◌, ◌^◌, ℕ, List, length, sym, ◌∙◌, ap, subst}
use Rattle.field_bytes.specs.Streams.{joined_bytes}
use Rattle.field_element.specs.Element.{repr_of}
use Rattle.transcripts.specs.Commitments.{row_at}
use Rattle.transcripts.specs.MerkleTrees.{rows_root}
use Rattle.protocols.specs.CommitmentScheme.{matrix_rows}
use Rattle.prove_sums.specs.Tables.{IsTable}
use Rattle.prove_sums.proofs.commands.commit.Goals as goal

pub returns-clause-table : goal.returns-clause-table
returns-clause-table g c =
    let table = c.in_ok-table.table in
    let size : length table.elements.items ≡ 2 ^ table.shape.rounds = search rules in
    subst (λ (l : List _). IsTable c.args.field repr_of c.args.bytes.now table.shape.rounds l) (sym c.in_ok-committed.ensures.table)
    (record { few = table.shape.few; count = size; written = c.in_ok-table.ensures.words })

pub returns-clause-root : goal.returns-clause-root
returns-clause-root g c =
    let held = c.in_ok-committed.ensures.holds in
    let columns = c.in_ok-committed.committed.held.columns.items in
    let shape = c.in_ok-table.table.shape in
    let hash = g.H.ByteHasher32.digest c.args.hasher.now in
    let row : ℕ → List ℕ = λ (p : ℕ). joined_bytes 16 repr_of (row_at (2 ^ matrix_rows shape.queries shape.rounds) columns p) in
    record {
      extended = held.extended;
      rooted =
          c.root_of-root.ensures.rows hash row c.in_ok-committed.ensures.tree
          ∙ ap (λ (n : ℕ). rows_root hash n row) held.depth;
    }

pub returns-clause-tree : goal.returns-clause-tree
returns-clause-tree g c = record {
  over = c.in_ok-committed.ensures.tree;
  depth = c.in_ok-committed.ensures.holds.depth;
  top = c.root_of-root.ensures.top;
}
