use Rattle.std.proofs.Common.{◌<◌, ℕ, length, get_or, set, ◌∙◌, ap, arith}
use Rattle.std.proofs.lemmas.List.{length-set}
use Rattle.std.proofs.lemmas.List.Edits.{fill_by_more}
use Rattle.shard_files.proofs.split.fill.Goals as goal

pub loop-i-preserved : goal.loop-i-preserved
loop-i-preserved c =
    let inside : c.loop-i.i < length c.loop-i.shards = omega (arith, c.loop-i.invariant.0, c.loop-i-test.true) in (
      length-set c.loop-i.shards c.loop-i.i c.byte_at.result ∙ c.loop-i.invariant.0,
      λ j below.
          ap (λ (b : ℕ). get_or (set c.loop-i.shards c.loop-i.i b) j 0) c.byte_at.ensures
          ∙ fill_by_more (λ n. get_or c.args.content.now n 0) c.loop-i.shards c.loop-i.i 0 inside c.loop-i.invariant.1 j below,
    )
