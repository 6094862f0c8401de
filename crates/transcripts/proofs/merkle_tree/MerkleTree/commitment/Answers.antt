use Rattle.std.proofs.Common.{◌∙◌, [], arith}
use Rattle.std.specs.Int.{to_le_bytes, w64}
use Rattle.std.specs.Prelude.{slice_index}
use Rattle.std.proofs.lemmas.List.{get_or_read}
use Rattle.std.proofs.lemmas.Nat.{pow_pos}
use Rattle.transcripts.specs.Commitments.{digest_at}
use Rattle.transcripts.proofs.Roots.{tree-root}
use Rattle.transcripts.proofs.merkle_tree.MerkleTree.commitment.Goals as goal

pub returns-clause-rows : goal.returns-clause-rows
returns-clause-rows g c = λ hash row tree.
    let self = c.args.self.now in
    get_or_read self.nodes.items 1 _ (omega (arith, self.nodes.ok.0, self.all, pow_pos self.depth)) c.index.ensures []
    ∙ tree-root hash self.depth row (digest_at self) tree.leaf tree.node

pub returns-clause-root : goal.returns-clause-root
returns-clause-root g c = λ hash words tree. returns-clause-rows g c hash (λ i. to_le_bytes w64 (slice_index words i)) tree.over
