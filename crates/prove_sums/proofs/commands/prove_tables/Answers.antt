use Rattle.std.proofs.Common.{◌≡◌, ◌<◌, ℕ, List, length, ◌∙◌, ap, ap₂, subst, arith, rules}
use Rattle.field_bytes.specs.Streams.{joined_bytes}
use Rattle.field_element.specs.Element.{repr_of}
use Rattle.prove_sums.specs.ProofFiles.{file_bytes}
use Rattle.prove_sums.specs.Reports.{sum_line}
use Rattle.prove_sums.specs.Shapes.{sum_in}
use Rattle.prove_sums.specs.Verdicts.{HoldsTable, IsTableRoot, IsTableTree, word_times, word_vector}
use Rattle.prove_sums.specs.Tables.{IsTable}
use Rattle.prove_sums.proofs.CommittedRoots.{table-held}
use Rattle.prove_sums.proofs.Completeness.{honest-file}
use Rattle.prove_sums.proofs.Files.{AreNodes}
use Rattle.prove_sums.proofs.SizeBits.{sizes-moved}
use Rattle.prove_sums.proofs.SumSteps.{number-at}
use Rattle.prove_sums.proofs.commands.prove_tables.Goals as goal

pub prove-requires-clause-left : goal.prove-requires-clause-left
prove-requires-clause-left g c = c.in_ok-shape.ensures.holds

pub prove-requires-clause-right : goal.prove-requires-clause-right
prove-requires-clause-right g c =
    let second = c.in_ok-other.second in
    let same : c.in_ok-other.other.rounds ≡ c.in_ok-shape.shape.rounds = omega (arith, c.if-others-rounds.false) in
    sizes-moved (λ (m n : ℕ). HoldsTable repr_of 128 word_times word_vector m n second.elements.items second.held.columns.items second.held.tree)
    c.args.bits same c.in_ok-other.ensures.sized c.in_ok-shape.ensures.sized c.in_ok-other.ensures.holds

pub bounds-elements-0 : goal.bounds-elements-0
bounds-elements-0 g c =
    let long = ap length (c.as_slice-elements.ensures.value ∙ c.in_ok-sent.ensures.honest.written) in omega (arith, long)

pub returns : goal.returns
returns g c =
    let m = c.in_ok-shape.shape.queries in
    let n = c.in_ok-shape.shape.rounds in
    let first = c.in_ok-shape.first in
    let second = c.in_ok-other.second in
    let sent = c.in_ok-sent.sent in
    let left = c.in_ok-shape.ensures in
    let right = c.in_ok-other.ensures in
    let right_root = c.in_ok-other.right_root in
    let hash = g.H.ByteHasher32.digest c.args.hasher.now in
    let same : c.in_ok-other.other.rounds ≡ n = omega (arith, c.if-others-rounds.false) in
    let long = ap length (c.as_slice-elements.ensures.value ∙ c.in_ok-sent.ensures.honest.written) in
    let some : 0 < length c.as_slice-elements.result.now = omega (arith, long) in
    let honest = c.in_ok-sent.ensures.honest in
    let right_tree =
    sizes-moved (λ (u v : ℕ). IsTableTree hash repr_of u v second.held.columns.items right_root second.held.tree) c.args.bits same right.sized left.sized
    right.tree in
    let right_table = subst (λ (v : ℕ). IsTable c.args.field repr_of c.args.right.now v second.elements.items) same right.table in
    let right_commits =
    sizes-moved (λ (u v : ℕ). IsTableRoot hash repr_of u v second.elements.items second.held.columns.items right_root) c.args.bits same right.sized
    left.sized right.root in
    let left_size : length c.in_ok-shape.left_root ≡ 32 = search rules in
    let right_size : length right_root ≡ 32 = search rules in
    let sized = subst (λ (l : List (List ℕ)). AreNodes l) c.as_slice-nodes.ensures.value c.in_ok-bytes.ensures.sized in
    let size : c.len.result ≡ length c.in_ok-bytes.bytes.items = search rules in
    record {
      is = record {
        queries = m;
        rounds = n;
        one = first.elements.items;
        other = second.elements.items;
        one_columns = first.held.columns.items;
        other_columns = second.held.columns.items;
        one_root = c.in_ok-shape.left_root;
        other_root = right_root;
        one_tree = first.held.tree;
        other_tree = second.held.tree;
        elements = sent.elements.items;
        nodes = sent.nodes.items;
        sized = left.sized;
        left_table = left.table;
        right_table = right_table;
        left_root = left.root;
        right_root = right_commits;
        left_tree = left.tree;
        right_tree = right_tree;
        file = record {
          may_be =
              honest-file c.openings_have_one_count.ensures hash (table-held left.table left.root left.tree)
              (table-held right_table right_commits right_tree) honest c.in_ok-shape.left_root right_root c.in_ok-shape.shape.some_queries
              c.in_ok-shape.shape.few_queries c.in_ok-shape.shape.few left_size right_size sized;
          written =
              c.in_ok-bytes.ensures.bytes
              ∙ ap₂ (λ (l : List _) (ns : List (List ℕ)). file_bytes c.args.field m n c.in_ok-shape.left_root right_root (joined_bytes 16 repr_of l) ns)
              c.as_slice-elements.ensures.value c.as_slice-nodes.ensures.value;
        };
        honest = honest;
      };
      said =
          c.in_ok-report.ensures.line
          ∙ ap₂ sum_line
          (number-at repr_of c.as_slice-elements.result.now 0 c.index-elements-0.result some c.index-elements-0.is
          ∙ ap (sum_in repr_of) c.as_slice-elements.ensures.value) size;
      succeeds = c.in_ok-report.ensures.status;
    }
