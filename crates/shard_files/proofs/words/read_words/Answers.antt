use Rattle.std.proofs.Common.{◌+◌, ◌*◌, ◌<◌, length, ◌∙◌, arith}
use Rattle.std.proofs.lemmas.List.{length-set}
use Rattle.shard_files.specs.Codes.{IsWordAt}
use Rattle.shard_files.proofs.WordLoops.{read_more}
use Rattle.shard_files.proofs.words.read_words.Goals as goal

pub loop-i-preserved : goal.loop-i-preserved
loop-i-preserved c =
    let i = c.loop-i.i in
    let words = c.loop-i.words in
    let inside : i < length words = omega (arith, c.loop-i.invariant.0, c.loop-i-test.true) in (
      length-set words i c.word_at.result ∙ c.loop-i.invariant.0,
      read_more (λ j word. IsWordAt c.args.bytes.now (2 * (c.args.first + j)) word) words i c.word_at.result inside c.loop-i.invariant.1 c.word_at.ensures,
    )
