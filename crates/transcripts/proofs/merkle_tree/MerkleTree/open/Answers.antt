use Rattle.transcripts.proofs.CapPaths.{leads_to_root}
use Rattle.transcripts.proofs.merkle_tree.MerkleTree.open.Goals as goal

pub returns-clause-rows : goal.returns-clause-rows
returns-clause-rows g c = λ hash row tree. leads_to_root hash c.args.self.now c.args.index _ _ c.requires (c.in_ok-path.ensures.rows hash row tree)

pub returns-clause-words : goal.returns-clause-words
returns-clause-words g c = λ hash words tree. leads_to_root hash c.args.self.now c.args.index _ _ c.requires (c.in_ok-path.ensures.words hash words tree)
