use Rattle.std.proofs.Common.{refl, sym, ◌∙◌}
use Rattle.std.proofs.lemmas.Bool.{false≢true}
use Rattle.additive_transforms.specs.Words.{level_element}
use Rattle.reed_solomon.proofs.CodedColumns.{next_strip, strip_of_coded}
use Rattle.reed_solomon.proofs.comparing.are_coded.Goals as goal

pub returns-then-not-is_coded_strip : goal.returns-then-not-is_coded_strip
returns-then-not-is_coded_strip g c =
    let level = g.L.Level.LEVEL in
    let code = c.args.code.now in
    let strip = c.strip_at-strip in (
      (λ wrong. absurd (false≢true wrong)),
      λ words. absurd (false≢true (sym c.if-not-is_coded_strip.true ∙ c.is_coded_strip.ensures.answer.1
          (strip_of_coded (level_element g.R.Stored.number level) g.R.Stored.ZERO level code.levels code.data_shards code.parity_shards c.args.size
          strip.result c.args.shards.now c.args.parity.now strip.ensures.size words))),
    )

pub loop-start-preserved : goal.loop-start-preserved
loop-start-preserved g c =
    let code = c.args.code.now in
    next_strip (level_element g.R.Stored.number g.L.Level.LEVEL) g.R.Stored.ZERO g.L.Level.LEVEL code.levels code.data_shards code.parity_shards
    c.args.size c.loop-start.start c.strip_at-strip.result c.args.shards.now c.args.parity.now c.args.parity.now c.strip_at-strip.ensures.size
    c.strip_at-strip.ensures.start (λ i d below other. refl) c.loop-start.invariant.1
    (c.is_coded_strip.ensures.answer.0 c.if-not-is_coded_strip.false)
