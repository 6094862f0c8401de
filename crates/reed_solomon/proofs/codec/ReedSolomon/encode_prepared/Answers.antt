-- The shards of data stay, and those of parity behind them are theirs.
use Rattle.std.proofs.Common.{◌+◌, length, refl}
use Rattle.reed_solomon.proofs.ParityWords.{all_encoded, parity_room}
use Rattle.reed_solomon.proofs.codec.ReedSolomon.encode_prepared.Goals as goal

pub write_prepared-requires-clause-room : goal.write_prepared-requires-clause-room
write_prepared-requires-clause-room c =
    let code = c.args.self.now in
    let parts = c.split_at_mut-front in
    parity_room code.data_shards code.parity_shards (code.data_shards + code.parity_shards) c.in_ok-size.size (length c.args.shards.now)
    (length parts.result.1.now) refl c.in_ok-size.ensures.size.1 parts.ensures.back_len

pub returns-clause-encoded : goal.returns-clause-encoded
returns-clause-encoded c = λ ok set.
    let code = c.args.self.now in
    let parts = c.split_at_mut-front in
    all_encoded code.data_shards code.parity_shards (code.data_shards + code.parity_shards) c.in_ok-size.size c.args.shards.now parts.result.0.now
    parts.result.1.now _ refl c.in_ok-size.ensures.size.0 parts.ensures.value (c.write_prepared.ensures.encoded set)
