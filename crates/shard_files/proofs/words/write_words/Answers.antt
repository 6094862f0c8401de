use Rattle.std.proofs.Common.{◌∙◌}
use Rattle.shard_files.proofs.WordLoops.{kept_more, written_more}
use Rattle.shard_files.proofs.words.write_words.Goals as goal

pub loop-i-preserved : goal.loop-i-preserved
loop-i-preserved c =
    let i = c.loop-i.i in
    let wrote = c.write_word.ensures in
    let so_far = c.loop-i.invariant in (
      wrote.long ∙ so_far.0,
      written_more c.args.first i c.args.words.now c.args.bytes.now c.loop-i.bytes c.write_word.new.bytes wrote.kept so_far.1 wrote.written,
      kept_more c.args.first i c.args.words.now c.args.bytes.now c.loop-i.bytes c.write_word.new.bytes wrote.kept so_far.2,
    )
