use Rattle.std.proofs.Common.{get_or, ◌∙◌, ap}
use Rattle.std.specs.Prelude.{bit_xor}
use Rattle.reed_solomon.proofs.AddedShards.{entries_product}
use Rattle.reed_solomon.proofs.codec.ReedSolomon.add_shard.Goals as goal

pub returns-clause-added : goal.returns-clause-added
returns-clause-added c = λ all column inside.
    c.add_row.ensures.added column inside
    ∙ ap (bit_xor (get_or c.args.sums.now column 0))
    (entries_product c.args.self.now.data_shards c.args.self.now.parity_shards c.args.parity_shard c.args.data_shard c.args.tables.now all
    c.requires.of_parity c.requires.of_data (get_or c.args.shard.now column 0) (c.bytes_fit.ensures column))
