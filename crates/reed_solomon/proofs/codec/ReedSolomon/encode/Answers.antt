-- The shards of data stay, and those of parity behind them are theirs.
use Rattle.std.proofs.Common.{length}
use Rattle.reed_solomon.proofs.ParityWords.{all_encoded, parity_room}
use Rattle.reed_solomon.proofs.codec.ReedSolomon.encode.Goals as goal

pub write_parity-requires-clause-room : goal.write_parity-requires-clause-room
write_parity-requires-clause-room c =
    let halves = c.split_at_mut-front in
    parity_room c.args.self.now.data_shards c.args.self.now.parity_shards c.total_shard_count-total.result c.in_ok-size.size (length c.args.shards.now)
    (length halves.result.1.now) c.total_shard_count-total.ensures c.in_ok-size.ensures.size.1 halves.ensures.back_len

pub returns-clause-encoded : goal.returns-clause-encoded
returns-clause-encoded c =
    let halves = c.split_at_mut-front in
    λ ok.
    all_encoded c.args.self.now.data_shards c.args.self.now.parity_shards c.total_shard_count-total.result c.in_ok-size.size c.args.shards.now halves.result.0.now
    halves.result.1.now _ c.total_shard_count-total.ensures c.in_ok-size.ensures.size.0 halves.ensures.value c.write_parity.ensures.encoded
