use Rattle.std.proofs.Common.{◌+◌, inl, ℕ, length, ◌∙◌}
use Rattle.reed_solomon.specs.Shards.{IsReconstructed}
use Rattle.shard_files.proofs.MatrixWords.{at_size, can_restore}
use Rattle.shard_files.proofs.matrix.restore_by_matrix.Goals as goal

-- the shards are restored in the size of the code
restored : (c : goal.After-slice_known-2-1)
    → IsReconstructed c.args.code.now.data_shards (c.args.code.now.data_shards + c.args.code.now.parity_shards) c.args.code.now.size
    (c.args.code.now.data_shards + c.args.code.now.parity_shards) c.args.present.now c.args.shards.now c.reconstruct-restored.new.shards
restored c =
    let code = c.args.code.now in
    let own = c.matrix_of-matrix.result in
    let made = c.matrix_of-matrix.ensures in
    let old = c.args.shards.now in
    let present = c.args.present.now in
    at_size (λ (k t s : ℕ). IsReconstructed k t s t present old c.reconstruct-restored.new.shards) code.data_shards code.parity_shards
    own.data_shards own.parity_shards code.size (length old) made.0 made.1 own.some_data c.requires.whole
    (c.reconstruct-restored.ensures.restored (c.reconstruct-restored.ensures.accepted.1
    (can_restore code.data_shards code.parity_shards own.data_shards own.parity_shards code.size present old made.0 made.1 code.some_data
    code.some_size c.requires.whole c.requires.flags c.requires.enough)))

pub returns-clause-restored : goal.returns-clause-restored
returns-clause-restored c =
    λ whole words long agree.
    let code = c.args.code.now in
    c.lost_shards_return.ensures code.data_shards _ code.size c.args.present.now whole c.args.shards.now c.reconstruct-restored.new.shards
    (code.has_code.matrix c.requires.matrix) c.requires.flags c.requires.enough (long ∙ c.requires.whole)
    (c.reconstruct-restored.ensures.long ∙ c.requires.whole) words agree (restored c)

pub returns-clause-kept : goal.returns-clause-kept
returns-clause-kept c = λ i column inside below is. (restored c).keeps i column inside below (inl is)
