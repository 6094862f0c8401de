-- Columns of an extended table that a prover opens: the row of the columns' values at a point agrees with them.
use Rattle.std.proofs.Common.{◌≡◌, ℕ, ◌+◌, ◌*◌, ◌^◌, ◌<◌, ◌≤◌, List, length, map, take, sym, ◌∙◌, ap, subst, zero-add, arith}
use Rattle.std.specs.Prelude.{slice_index}
use Rattle.std.specs.List.{range_with_len}
use Rattle.std.proofs.Math.Nat.{mul-le-mul_right}
use Rattle.std.proofs.lemmas.List.{get_or-take, length-map, length-take-le}
use Rattle.std.proofs.lemmas.List.FromFn.{fill_by_all, get_or-range_with_len, length-range_with_len}
use Rattle.std.proofs.lemmas.Nat.{pow-add, pow_pos}
use native.Mathlib.Nat.{one-mul}
use Rattle.field_base.specs.Ring.{IsRing}
use Rattle.field_bytes.specs.Streams.{joined_bytes}
use Rattle.field_slices.specs.Multilinear.{multilinear_value}
use Rattle.transcripts.specs.declared.merkle_tree.MerkleTree.{MerkleTree}
use Rattle.transcripts.specs.Commitments.{IsTreeOver, root_of, row_at}
use Rattle.transcripts.specs.Openings.{AreAscending, OpensRows}
use Rattle.protocols.specs.Tables.{AgreesAt, AreExtendedColumns, ExtendsTable, IsHonestOpening, column_at, column_values}
use Rattle.protocols.proofs.TableLaws.{column_values_agree}
use Rattle.protocols.proofs.TableOpenings.{opens-same}

module _ {F : Type 0} (repr : F → ℕ) (width : ℕ) (times : ℕ → ℕ → ℕ) (vector : ℕ → ℕ) (wide : 0 < width) (ring : IsRing width 1 times)
    (columns : List F) where
  module _ (k r : ℕ) (height : ℕ) (point table : List ℕ) (high : height ≡ 2 ^ length point)
      (extended : AreExtendedColumns repr width times vector k r height table columns) where
    abbrev size : ℕ
    size = 2 ^ r * 2 ^ k

    -- the value at the point of a column
    abbrev value : ℕ → ℕ
    value p = multilinear_value times (map repr (row_at height columns p)) point

    place-is : (p : ℕ) → p < size → slice_index (range_with_len 0 size) p ≡ p
    place-is p below = get_or-range_with_len 0 size p 0 below ∙ zero-add p

    -- the code word of the table's values agrees with the columns at all places
    everywhere : AgreesAt width times vector k r point (column_values times point (2 ^ k) table) (range_with_len 0 size)
        (λ i. column_at (2 ^ length point) size extended.matrix (slice_index (range_with_len 0 size) i))
    everywhere =
        column_values_agree width times vector wide ring k r point table extended.matrix (range_with_len 0 size)
        (subst (λ (n : ℕ). ExtendsTable width times vector k r n table extended.matrix) high extended.extends)
        (λ i within.
        let below : i < size = subst (λ (n : ℕ). i < n) (length-range_with_len 0 size) within in
        subst (λ (n : ℕ). n < size) (sym (place-is i below)) below)

    at : (p : ℕ) → p < size → value p ≡ slice_index everywhere.word p
    at p below =
        let place = place-is p below in
        ap (λ (l : List ℕ). multilinear_value times l point)
        (extended.each p below ∙ ap (λ (n : ℕ). column_at n size extended.matrix p) high
        ∙ ap (column_at (2 ^ length point) size extended.matrix) (sym place))
        ∙ everywhere.agrees p (subst (λ (n : ℕ). p < n) (sym (length-range_with_len 0 size)) below)
        ∙ ap (slice_index everywhere.word) place

    begins : take (2 ^ k) everywhere.word ≡ map value (range_with_len 0 (2 ^ k))
    begins =
        fill_by_all value (take (2 ^ k) everywhere.word) (2 ^ k) 0
        (length-take-le (2 ^ k) everywhere.word (let long = everywhere.code_word.size in omega (arith, long, room)))
        (λ p below. get_or-take (2 ^ k) everywhere.word p 0 below ∙ sym (at p (omega (arith, below, room))))
      where
        room : 2 ^ k ≤ size
        room =
            let some : 1 ≤ 2 ^ r = pow_pos r in
            let least = mul-le-mul_right (2 ^ k) some in
            let one = one-mul (2 ^ k) in
            omega (arith, least, one)

    -- which are the values of the table's columns
    pub row-is-values : map value (range_with_len 0 (2 ^ k)) ≡ column_values times point (2 ^ k) table
    row-is-values = sym begins ∙ everywhere.begins

    row-agrees : (row places : List ℕ) (opened : List F) → row ≡ map value (range_with_len 0 (2 ^ k))
        → ((i : ℕ) → i < length places → slice_index places i < size)
        → ((i : ℕ) → i < length places → row_at height opened i ≡ row_at height columns (slice_index places i))
        → AgreesAt width times vector k r point row places (λ i. map repr (row_at height opened i))
    row-agrees row places opened is inside same = record {
      word = everywhere.word;
      code_word = everywhere.code_word;
      begins = begins ∙ sym is;
      below = inside;
      agrees = λ i below.
          ap (λ (l : List F). multilinear_value times (map repr l) point) (same i below) ∙ at (slice_index places i) (inside i below);
    }

  -- so a verifier accepts what is opened
  pub honest-opening : {A : Type 0} (bytes h : ℕ) (tree : MerkleTree A) (places : List ℕ) (opened : List F) (nodes : List (List ℕ))
      → AreAscending (2 ^ tree.depth) places → length opened ≡ length places * 2 ^ h
      → ((i : ℕ) → i < length places → row_at (2 ^ h) opened i ≡ row_at (2 ^ h) columns (slice_index places i))
      → ((hash : List ℕ → List ℕ) (row : ℕ → List ℕ) → IsTreeOver hash row tree
      → OpensRows hash tree.depth (root_of tree) places (λ i. row (slice_index places i)) nodes)
      → IsHonestOpening repr bytes width times vector h tree columns places opened nodes
  honest-opening bytes h tree places opened nodes ascending count same opens hash k r table point row deep long extended over is =
      record {
        count = count ∙ ap (λ (n : ℕ). length places * 2 ^ n) (sym long);
        opened =
            subst (λ (n : ℕ). OpensRows hash (r + k) (root_of tree) places (λ i. joined_bytes bytes repr (row_at (2 ^ n) opened i)) nodes) (sym long)
            (subst (λ (d : ℕ). OpensRows hash d (root_of tree) places (λ i. joined_bytes bytes repr (row_at (2 ^ h) opened i)) nodes) (sym deep)
            (opens-same hash tree.depth (root_of tree) places
            (λ i. joined_bytes bytes repr (row_at (2 ^ h) columns (slice_index places i)))
            (λ i. joined_bytes bytes repr (row_at (2 ^ h) opened i)) nodes (λ i below. ap (joined_bytes bytes repr) (sym (same i below)))
            (opens hash (λ p. joined_bytes bytes repr (row_at (2 ^ h) columns p)) over)));
        agrees =
            subst
            (λ (n : ℕ). AgreesAt width times vector k r (map repr point) (map repr row) places (λ i. map repr (row_at (2 ^ n) opened i)))
            (sym long)
            (row-agrees k r (2 ^ h) (map repr point) table (ap (λ (n : ℕ). 2 ^ n) (sym (length-map point repr ∙ long))) extended (map repr row)
            places opened is
            (λ i below. subst (λ (n : ℕ). slice_index places i < n) (ap (λ (d : ℕ). 2 ^ d) (sym deep) ∙ pow-add 2 r k) (ascending.below i below))
            same);
      }
