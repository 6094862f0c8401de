use Rattle.additive_transforms.specs.Words.{level_element}
use Rattle.reed_solomon.proofs.CodedColumns.{next_strip}
use Rattle.reed_solomon.proofs.encoding.encode_columns.Goals as goal

pub loop-start-preserved : goal.loop-start-preserved
loop-start-preserved g c =
    let code = c.args.code.now in
    next_strip (level_element g.R.Stored.number g.L.Level.LEVEL) g.R.Stored.ZERO g.L.Level.LEVEL code.levels code.data_shards code.parity_shards
    c.args.size c.loop-start.start c.strip_at-strip.result c.args.shards.now c.loop-start.parity c.encode_strip.new.parity
    c.strip_at-strip.ensures.size c.strip_at-strip.ensures.start c.encode_strip.ensures.others c.loop-start.invariant.1
    c.encode_strip.ensures.encoded
