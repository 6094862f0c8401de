use Rattle.shard_files.proofs.Heads.{head_written}
use Rattle.shard_files.proofs.head.Head.write.Goals as goal

pub returns : goal.returns
returns g c =
    let contents = g.W.Write.contents in
    head_written c.args.self.now c.fields.result c.to_le_bytes.result c.to_le_bytes-2.result c.digest.result (contents c.args.writer.now)
    (contents c.write_all.new.self) (contents c.write_all-2.new.self) (contents c.write_all-3.new.self) (contents c.write_all-4.new.self)
    (contents c.write_all-5.new.self) c.fields.ensures c.to_le_bytes.ensures c.to_le_bytes-2.ensures c.digest.ensures c.in_ok-write_all.ensures.bytes
    c.in_ok-write_all-2.ensures.bytes c.in_ok-write_all-3.ensures.bytes c.in_ok-write_all-4.ensures.bytes c.in_ok-write_all-5.ensures.bytes
