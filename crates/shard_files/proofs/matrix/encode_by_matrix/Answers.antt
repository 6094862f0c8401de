use Rattle.std.proofs.Common.{◌+◌, ℕ, length}
use Rattle.reed_solomon.specs.Shards.{IsEncoded}
use Rattle.shard_files.proofs.MatrixWords.{at_size, data_kept, sized_own}
use Rattle.shard_files.proofs.matrix.encode_by_matrix.Goals as goal

-- the shards are encoded in the size of the code
encoded : (c : goal.After-slice_known-2-1)
    → IsEncoded c.args.code.now.data_shards (c.args.code.now.data_shards + c.args.code.now.parity_shards) c.args.code.now.size c.args.shards.now
    c.encode-encoded.new.shards
encoded c =
    let code = c.args.code.now in
    let own = c.matrix_of-matrix.result in
    let made = c.matrix_of-matrix.ensures in
    let old = c.args.shards.now in
    at_size (λ (k t s : ℕ). IsEncoded k t s old c.encode-encoded.new.shards) code.data_shards code.parity_shards own.data_shards own.parity_shards
    code.size (length old) made.0 made.1 own.some_data c.requires.whole
    (c.encode-encoded.ensures.encoded (c.encode-encoded.ensures.accepted.1
    (sized_own code.data_shards code.parity_shards own.data_shards own.parity_shards code.size (length old) made.0 made.1 code.some_data
    code.some_size c.requires.whole)))

pub returns-clause-encoded : goal.returns-clause-encoded
returns-clause-encoded c = (encoded c).codewords

pub returns-clause-kept : goal.returns-clause-kept
returns-clause-kept c = data_kept c.args.code.now.data_shards _ c.args.code.now.size c.args.shards.now c.encode-encoded.new.shards (encoded c)
