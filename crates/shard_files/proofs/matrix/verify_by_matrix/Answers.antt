use Rattle.shard_files.proofs.MatrixWords.{code_words_by}
use Rattle.shard_files.proofs.matrix.verify_by_matrix.Goals as goal

pub returns : goal.returns
returns c =
    let code = c.args.code.now in
    let own = c.matrix_of.result in
    let made = c.matrix_of.ensures in
    let law = code_words_by code.data_shards code.parity_shards own.data_shards own.parity_shards code.size c.args.shards.now made.0 made.1
    code.some_data code.some_size c.requires.whole in
    (λ is. law.0 (c.is_whole.ensures.0 is), λ words. c.is_whole.ensures.1 (law.1 words))
