use Rattle.std.proofs.Common.{◌≡◌, ◌+◌, ◌*◌, ◌^◌, ◌<◌, ℕ, List, length, map, sym, ◌∙◌, ap, ap₂, subst}
use Rattle.std.proofs.lemmas.Nat.{pow-add}
use native.Mathlib.Nat.{mul_assoc}
use Rattle.field_bytes.specs.Streams.{joined_bytes}
use Rattle.transcripts.specs.Commitments.{row_at}
use Rattle.transcripts.specs.MerkleTrees.{row_input}
use Rattle.protocols.specs.Tables.{AreExtendedColumns, column_at}
use Rattle.protocols.proofs.ProofBytes.{length-proof}
use Rattle.protocols.proofs.TableOpenings.{column-bytes, extended-columns}
use Rattle.protocols.proofs.tables.commit_table.Goals as goal

pub columns_of-requires : goal.columns_of-requires
columns_of-requires g c =
    ap length c.as_slice.ensures.value ∙ c.in_ok-matrix.ensures.size
    ∙ ap (λ (n : ℕ). c.power_of_two-height.result * n) (sym (c.power_of_two.ensures.power ∙ pow-add 2 c.args.expansion c.args.levels))

pub over_rows-requires-clause-count : goal.over_rows-requires-clause-count
over_rows-requires-clause-count g c =
    let repr = g.F.Represented.repr in
    let bytes = g.F.RawDataSerializable.NUM_BYTES in
    let height = c.power_of_two-height.result in
    ap length c.as_slice-3.ensures.value ∙ ap length c.in_ok-bytes.ensures ∙ length-proof bytes repr c.as_slice-2.result.now
    ∙ ap (λ (n : ℕ). n * bytes)
    (ap length c.as_slice-2.ensures.value ∙ c.in_ok-columns.ensures.count ∙ ap (λ (n : ℕ). n * height) c.power_of_two.ensures.power)
    ∙ mul_assoc (2 ^ (c.args.expansion + c.args.levels)) height bytes
    ∙ ap (λ (n : ℕ). 2 ^ (c.args.expansion + c.args.levels) * (height * n)) (sym c.NUM_BYTES.ensures)

pub returns-clause-columns : goal.returns-clause-columns
returns-clause-columns g c =
    let ring = g.F.Represented in
    let vector : ℕ → ℕ = λ (i : ℕ). g.F.TowerLevel.basis (g.F.TowerLevel.cantor i) in
    let height = c.power_of_two-height.result in
    let matrix = c.in_ok-matrix.matrix.items in
    let columns = c.in_ok-columns.columns.items in
    let size = c.power_of_two.ensures.power ∙ pow-add 2 c.args.expansion c.args.levels in
    subst
    (λ (n : ℕ). AreExtendedColumns ring.repr ring.width ring.product vector c.args.levels c.args.expansion n (map ring.repr c.args.table.now) columns)
    c.power_of_two-height.ensures.power
    (extended-columns ring.repr ring.width ring.product vector c.args.levels c.args.expansion height c.args.table.now matrix columns
    c.in_ok-matrix.ensures.size c.in_ok-matrix.ensures.systematic c.in_ok-matrix.ensures.code_words
    (c.in_ok-columns.ensures.count ∙ ap (λ (n : ℕ). n * height) size)
    (λ p below.
    c.in_ok-columns.ensures.each p (subst (λ (n : ℕ). p < n) (sym size) below)
    ∙ ap₂ (λ (n : ℕ) l. column_at height n (map ring.repr l) p) size c.as_slice.ensures.value))

pub returns-clause-tree : goal.returns-clause-tree
returns-clause-tree g c =
    let repr = g.F.Represented.repr in
    let bytes = g.F.RawDataSerializable.NUM_BYTES in
    let hash = g.H.ByteHasher32.digest c.args.hasher.now in
    let height = c.power_of_two-height.result in
    let columns = c.in_ok-columns.columns.items in
    let rows : List ℕ = c.as_slice-3.result.now in
    let all : rows ≡ joined_bytes bytes repr columns =
    c.as_slice-3.ensures.value ∙ c.in_ok-bytes.ensures ∙ ap (joined_bytes bytes repr) c.as_slice-2.ensures.value in
    let row : (i : ℕ) → i < 2 ^ c.in_ok-tree.tree.depth
    → row_at (height * c.NUM_BYTES.result) rows i ≡ joined_bytes bytes repr (row_at (2 ^ c.args.rows) columns i) =
    λ i below.
    ap₂ (λ (n : ℕ) l. row_at (height * n) l i) c.NUM_BYTES.ensures all
    ∙ column-bytes repr bytes c.power_of_two.result height columns i c.in_ok-columns.ensures.count
    (subst (λ (n : ℕ). i < n) (ap (λ (d : ℕ). 2 ^ d) c.in_ok-tree.ensures.0 ∙ sym c.power_of_two.ensures.power) below)
    ∙ ap (λ (n : ℕ). joined_bytes bytes repr (row_at n columns i)) c.power_of_two-height.ensures.power in
    record {
      leaf = λ i below. c.in_ok-tree.ensures.1.leaf i below ∙ ap (λ r. hash (row_input r)) (row i below);
      node = c.in_ok-tree.ensures.1.node;
    }
