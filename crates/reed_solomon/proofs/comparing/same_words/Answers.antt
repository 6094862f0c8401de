use Rattle.std.proofs.Common.{◌+◌, arith, sym, ◌∙◌, ap, below_more}
use Rattle.std.proofs.lemmas.List.{get_or_read}
use Rattle.additive_transforms.specs.Words.{level_element}
use Rattle.reed_solomon.proofs.comparing.same_words.Goals as goal

pub loop-c-preserved : goal.loop-c-preserved
loop-c-preserved g c =
    let zero = g.R.Stored.ZERO in
    let element = level_element g.R.Stored.number g.L.Level.LEVEL in
    let one = c.args.one.now in
    let other = c.args.other.now in
    let below = c.loop-c-test.true in
    let read = get_or_read other (c.args.place + c.loop-c.c) c.index-other-place.result (omega (arith, below, c.requires.room)) c.index-other-place.is zero in
    let symbol = get_or_read one (c.args.from + c.loop-c.c) c.index-one-from.result (omega (arith, below, c.requires.enough)) c.index-one-from.is zero in
    let same = (g.met.R.Stored.eq_law c.truncate.result c.truncate-in-loop-c.result).0 (sym c.eq-same.ensures ∙ c.if-not-same.false) in
    below_more _ c.loop-c.c c.loop-c.invariant
    (ap element (sym read) ∙ sym c.truncate.ensures ∙ same ∙ c.truncate-in-loop-c.ensures ∙ ap element symbol)
