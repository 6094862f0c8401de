use Rattle.shard_files.proofs.Heads.{fields_are}
use Rattle.shard_files.proofs.head.Head.fields.Goals as goal

pub returns : goal.returns
returns c =
    let head = c.args.self.now in
    fields_are head.origin head.index c.to_le_bytes-code.result c.to_le_bytes-some.result c.to_le_bytes-more.result c.to_le_bytes-index.result
    c.to_le_bytes-code.ensures c.to_le_bytes-some.ensures c.to_le_bytes-more.ensures c.to_le_bytes-index.ensures
