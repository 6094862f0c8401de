use Rattle.std.proofs.Common.{◌+◌, arith}
use Rattle.reed_solomon.proofs.ColumnPlaces.{scattered_more, strip_within}
use Rattle.reed_solomon.proofs.columns.scatter.Goals as goal

pub copy_words-requires-clause-room : goal.copy_words-requires-clause-room
copy_words-requires-clause-room g c =
    let strip = c.args.strip in
    let within = strip_within strip.size c.args.count (c.args.first + c.loop-t.t) strip.start strip.width
    (omega (arith, c.requires.fit, c.loop-t-test.true)) strip.inside in
    omega (arith, within, c.loop-t.auto.shards, c.requires.whole)

pub loop-t-preserved : goal.loop-t-preserved
loop-t-preserved g c =
    scattered_more g.R.Stored.ZERO c.args.strip.size c.args.strip.start c.args.strip.width c.args.first c.loop-t.t c.args.values.now
    c.args.shards.now c.loop-t.shards c.copy_words.new.target c.args.strip.inside c.copy_words.ensures.put c.loop-t.invariant

pub overflow_add-place : goal.overflow_add-place
overflow_add-place g c =
    let strip = c.args.strip in
    let within = strip_within strip.size c.args.count (c.args.first + c.loop-t.t) strip.start strip.width
    (omega (arith, c.requires.fit, c.loop-t-test.true)) strip.inside in
    omega (arith, within, c.requires.whole, c.requires.fit, c.loop-t-test.true)

pub overflow_mul-place : goal.overflow_mul-place
overflow_mul-place g c =
    let strip = c.args.strip in
    let within = strip_within strip.size c.args.count (c.args.first + c.loop-t.t) strip.start strip.width
    (omega (arith, c.requires.fit, c.loop-t-test.true)) strip.inside in
    omega (arith, within, c.requires.whole)

pub copy_words-requires-clause-enough : goal.copy_words-requires-clause-enough
copy_words-requires-clause-enough g c =
    let width = c.args.strip.width in
    let row = strip_within width c.args.taken c.loop-t.t 0 width (omega (arith, c.loop-t-test.true)) (omega arith) in
    omega (arith, row, c.requires.enough)
