use Rattle.std.proofs.Common.{◌+◌, List, sym, subst, arith}
use Rattle.reed_solomon.specs.Restoring.{AreMended}
use Rattle.reed_solomon.proofs.ColumnPlaces.{strip_within}
use Rattle.reed_solomon.proofs.MendedColumns.{mended_passed, mended_wrote}
use Rattle.reed_solomon.proofs.restoring.mend.Goals as goal
use Rattle.reed_solomon.proofs.restoring.mend.Goals.{then-not-present-first, else-not-present-first}

pub copy_words-requires-clause-room : goal.copy_words-requires-clause-room
copy_words-requires-clause-room g c =
    let strip = c.args.strip in
    let within = strip_within strip.size c.args.count c.loop-i.i strip.start strip.width (omega (arith, c.loop-i-test.true)) strip.inside in
    omega (arith, within, c.loop-i.auto.shards, c.requires.whole)

pub loop-i-preserved : goal.loop-i-preserved
loop-i-preserved g c =
    let zero = g.R.Stored.ZERO in
    let strip = c.args.strip in
    let i = c.loop-i.i in
    let present = c.args.present.now in
    let values = c.args.values.now in
    let mended = λ (ws : List _). AreMended zero strip.size strip.start strip.width (i + 1) c.args.from c.args.first present values c.args.shards.now ws in
    elim c.if-not-present-first.branch [
      | then-not-present-first w ↦
          subst mended (sym w.shards-is)
          (mended_wrote zero strip.size strip.start strip.width i c.args.from c.args.first present values c.args.shards.now c.loop-i.shards
          c.loop-i.invariant w.copy_words.new.target w.if-not-present-first.true strip.inside w.copy_words.ensures.put)
      | else-not-present-first w ↦
          subst mended (sym w.shards-is)
          (mended_passed zero strip.size strip.start strip.width i c.args.from c.args.first present values c.args.shards.now c.loop-i.shards
          c.loop-i.invariant w.if-not-present-first.false)
    ]

pub overflow_mul-place : goal.overflow_mul-place
overflow_mul-place g c =
    let strip = c.args.strip in
    let within = strip_within strip.size c.args.count c.loop-i.i strip.start strip.width (omega (arith, c.loop-i-test.true)) strip.inside in
    omega (arith, within, c.requires.whole)

pub overflow_add-place : goal.overflow_add-place
overflow_add-place g c =
    let strip = c.args.strip in
    let within = strip_within strip.size c.args.count c.loop-i.i strip.start strip.width (omega (arith, c.loop-i-test.true)) strip.inside in
    omega (arith, within, c.requires.whole)

pub copy_words-requires-clause-enough : goal.copy_words-requires-clause-enough
copy_words-requires-clause-enough g c =
    let width = c.args.strip.width in
    let row = strip_within width (c.args.from + c.args.count) (c.args.from + c.loop-i.i) 0 width (omega (arith, c.loop-i-test.true)) (omega arith) in
    omega (arith, row, c.requires.enough)
