-- One root commits to the bytes of a table.
use Rattle.std.proofs.Common.{◌≡◌, ℕ, zero, suc, ◌+◌, ◌*◌, ◌^◌, ◌<◌, ◌≤◌, List, [], ◌∷◌, ◌++◌, length, map, take, drop}
use Rattle.std.proofs.Common.{refl, sym, ◌∙◌, ap, ap₂, subst, arith, lit<}
use Rattle.std.specs.Prelude.{slice_index}
use Rattle.std.specs.List.{range_with_len}
use Rattle.std.proofs.lemmas.List.{drop-drop, get_or-take, length-drop, length-map, take-append-drop}
use Rattle.additive_transforms.specs.Images.{tower_image}
use Rattle.additive_transforms.proofs.Counts.{one_exponent}
use Rattle.field_bytes.specs.Bytes.{number_of_bytes}
use Rattle.field_bytes.specs.Streams.{joined_bytes}
use Rattle.transcripts.specs.Commitments.{row_at}
use Rattle.transcripts.specs.MerkleTrees.{rows_root}
use Rattle.transcripts.specs.declared.merkle_tree.MerkleTree.{MerkleTree}
use Rattle.sum_checks.proofs.Runs.{elements-same}
use Rattle.protocols.specs.CodeWords.{PartsDetermine}
use Rattle.protocols.specs.CommitmentScheme.{HoldsColumns, matrix_rows, row_levels, word_levels}
use Rattle.protocols.specs.Tables.{AreExtendedColumns, column_at}
use Rattle.protocols.proofs.ProofBytes.{same-bytes, same-proof}
use Rattle.prove_sums.specs.Bits.{AreFor}
use Rattle.prove_sums.specs.Soundness.{HasPoints}
use Rattle.prove_sums.specs.Tables.{AreEmbedded, AreTableWords, IsTable, tower_bytes}
use Rattle.prove_sums.specs.Verdicts.{IsCommitment, IsTableRoot, IsTableTree, word_times, word_vector}
use Rattle.prove_sums.specs.declared.tables.TableField.{TableField}
use Rattle.prove_sums.specs.declared.tables.TableField.TheVariants.{Ghash, Tower8, Tower16, Tower32, Tower64, Tower128}
use Rattle.prove_sums.proofs.SizeBits.{one-for}

-- lists of as many rows, which are the same, are the same
rows-whole : {X : Type 0} (size count : ℕ) (one other : List X) → length one ≡ count * size → length other ≡ count * size
    → ((i : ℕ) → i < count → row_at size one i ≡ row_at size other i) → one ≡ other
rows-whole size zero [] [] long longer same = refl
rows-whole size zero [] (y ∷ ys) long longer same = absurd (omega (arith, longer))
rows-whole size zero (x ∷ xs) other long longer same = absurd (omega (arith, long))
rows-whole {X} size (suc count) one other long longer same =
    sym (take-append-drop size one)
    ∙ ap₂ (λ (front behind : List X). front ++ behind) (sym (first one) ∙ same 0 (omega arith) ∙ first other)
    (rows-whole size count (drop size one) (drop size other) (shorter one long) (shorter other longer)
    (λ i below. later one i ∙ same (suc i) (omega (arith, below)) ∙ sym (later other i)))
    ∙ take-append-drop size other
  where
    shorter : (list : List X) → length list ≡ suc count * size → length (drop size list) ≡ count * size
    shorter list is =
        let behind = length-drop size list in
        let more : suc count * size ≡ size + count * size = omega arith in
        omega (arith, behind, is, more)

    first : (list : List X) → row_at size list 0 ≡ take size list
    first list = let none : 0 * size ≡ 0 = omega arith in ap (λ (n : ℕ). take size (drop n list)) none

    later : (list : List X) (i : ℕ) → row_at size (drop size list) i ≡ row_at size list (suc i)
    later list i =
        let next : size + i * size ≡ suc i * size = omega arith in
        ap (take size) (drop-drop (i * size) size list) ∙ ap (λ (n : ℕ). take size (drop n list)) next

module _ {F : Type 0} (repr : F → ℕ) (points : HasPoints repr 16 128 word_times word_vector) (determine : PartsDetermine) where
  -- ---- columns

  -- the columns of a table's extension are these alone
  one-extension : (k height : ℕ) (table : List ℕ) (one other : List F) → 2 + k ≤ 128
      → AreExtendedColumns repr 128 word_times word_vector k 2 height table one
      → AreExtendedColumns repr 128 word_times word_vector k 2 height table other → one ≡ other
  one-extension k height table one other fits first second =
      rows-whole height (2 ^ 2 * 2 ^ k) one other first.count second.count
      (λ p below.
      elements-same repr points.same (row_at height one p) (row_at height other p)
      (first.each p below ∙ ap (λ (matrix : List ℕ). column_at height (2 ^ 2 * 2 ^ k) matrix p) matrices ∙ sym (second.each p below)))
    where
      matrices : first.matrix ≡ second.matrix
      matrices =
          rows-whole (2 ^ 2 * 2 ^ k) height first.matrix second.matrix first.extends.size second.extends.size
          (λ i below.
          determine 128 word_times word_vector (lit< tt) points.field points.vectors points.fit k 2 (row_at (2 ^ 2 * 2 ^ k) first.matrix i)
          (row_at (2 ^ 2 * 2 ^ k) second.matrix i) (λ j. j) fits (first.extends.code_words i below) (second.extends.code_words i below)
          (record { below = λ j inside. omega (arith, inside); differ = λ a b _ _ same. same })
          (λ j inside.
          sym (get_or-take (2 ^ k) (row_at (2 ^ 2 * 2 ^ k) first.matrix i) j 0 inside)
          ∙ ap (λ (l : List ℕ). slice_index l j) (first.extends.systematic i below ∙ sym (second.extends.systematic i below))
          ∙ get_or-take (2 ^ k) (row_at (2 ^ 2 * 2 ^ k) second.matrix i) j 0 inside))

  -- ---- tables

  -- images of the same words are the same
  images-same : (size : ℕ) (bytes : List ℕ) (one other : List F) → length one ≡ length other → AreEmbedded size repr bytes one
      → AreEmbedded size repr bytes other → map repr one ≡ map repr other
  images-same size bytes one other long first second =
      first.each ∙ ap (λ (n : ℕ). map (λ p. tower_image (number_of_bytes (row_at size bytes p))) (range_with_len 0 n)) long ∙ sym second.each

  words-same : (field : TableField) (bytes : List ℕ) (one other : List F) → AreTableWords (tower_bytes field) repr bytes one
      → AreTableWords (tower_bytes field) repr bytes other → map repr one ≡ map repr other
  words-same Ghash bytes one other first second =
      ap (map repr) (same-proof 16 repr (lit< tt) (same-bytes 16 repr 128 points.room points.range points.same) one other (sym first ∙ second))
  words-same Tower8 bytes one other first second =
      let a = first.whole in let b = second.whole in images-same 1 bytes one other (omega (arith, a, b)) first second
  words-same Tower16 bytes one other first second =
      let a = first.whole in let b = second.whole in images-same 2 bytes one other (omega (arith, a, b)) first second
  words-same Tower32 bytes one other first second =
      let a = first.whole in let b = second.whole in images-same 4 bytes one other (omega (arith, a, b)) first second
  words-same Tower64 bytes one other first second =
      let a = first.whole in let b = second.whole in images-same 8 bytes one other (omega (arith, a, b)) first second
  words-same Tower128 bytes one other first second =
      let a = first.whole in let b = second.whole in images-same 16 bytes one other (omega (arith, a, b)) first second

  -- ---- roots

  module _ (hash : List ℕ → List ℕ) (bits : ℕ) (field : TableField) (bytes root other : List ℕ) (first : IsCommitment hash repr bits field bytes root)
      (m n : ℕ) (elements columns : List F) (sized : AreFor bits m n) (table : IsTable field repr bytes n elements)
      (commits : IsTableRoot hash repr m n elements columns other) where
    numbers : map repr first.elements ≡ map repr elements
    numbers = words-same field bytes first.elements elements first.table.written table.written

    rounds-same : first.rounds ≡ n
    rounds-same =
        one_exponent first.rounds n
        (sym first.table.count ∙ sym (length-map first.elements repr) ∙ ap length numbers ∙ length-map elements repr ∙ table.count)

    moved : IsTableRoot hash repr m n first.elements first.columns root
    moved =
        subst (λ (v : ℕ). IsTableRoot hash repr v n first.elements first.columns root)
        (one-for bits n first.queries m (subst (λ (v : ℕ). AreFor bits first.queries v) rounds-same first.sized) sized)
        (subst (λ (v : ℕ). IsTableRoot hash repr first.queries v first.elements first.columns root) rounds-same first.commits)

    pub one-root : root ≡ other
    one-root =
        moved.rooted
        ∙ ap (λ (l : List F). rows_root hash (word_levels m n) (λ p. joined_bytes 16 repr (row_at (2 ^ matrix_rows m n) l p)))
        (one-extension (row_levels m n) (2 ^ matrix_rows m n) (map repr elements) first.columns columns
        (let few = table.few in omega (arith, few))
        (subst (λ (l : List ℕ). AreExtendedColumns repr 128 word_times word_vector (row_levels m n) 2 (2 ^ matrix_rows m n) l first.columns) numbers
        moved.extended)
        commits.extended)
        ∙ sym commits.rooted

-- a table whose root and tree commit to it is held by the scheme
pub table-held : {F A : Type 0} {hash : List ℕ → List ℕ} {repr : F → ℕ} {field : TableField} {m n : ℕ} {bytes root : List ℕ} {elements columns : List F}
    {tree : MerkleTree A} → IsTable field repr bytes n elements → IsTableRoot hash repr m n elements columns root
    → IsTableTree hash repr m n columns root tree → HoldsColumns hash repr 16 128 word_times word_vector m n elements columns tree
table-held table commits held = record { count = table.count; extended = commits.extended; depth = held.depth; over = held.over }
