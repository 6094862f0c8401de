use Rattle.std.proofs.Common.{◌≡◌, ◌*◌, ◌/◌, ℕ, length, ◌∙◌, subst, arith}
use Rattle.shard_files.specs.Codes.{AreWordsOf}
use Rattle.shard_files.proofs.TransformCalls.{words_room}
use Rattle.shard_files.proofs.transform.words_of_shards.Goals as goal

pub words_of-requires : goal.words_of-requires
words_of-requires c = omega (arith, words_room c.args.code.now c.requires.transform (length c.args.shards.now) c.requires.whole)

pub words_of-requires-2 : goal.words_of-requires-2
words_of-requires-2 c =
    omega (
      arith,
      words_room c.args.code.now c.requires.transform (length c.args.shards.now) c.requires.whole,
      c.len.ensures,
      c.in_ok-words.words.ok.0,
      c.in_ok-words.ensures.0,
    )

pub returns : goal.returns
returns c =
    let first_is : c.len.result ≡ c.args.code.now.data_shards * (c.args.code.now.size / 2) =
    c.len.ensures ∙ c.in_ok-words.words.ok.0 ∙ c.in_ok-words.ensures.0 in
    record {
      long = c.in_ok-words.ensures.0;
      parity_long = c.in_ok-parity.ensures.0;
      are = c.in_ok-words.ensures.1;
      parity_are = subst (λ (n : ℕ). AreWordsOf c.args.shards.now n c.in_ok-parity.parity.items) first_is c.in_ok-parity.ensures.1;
    }
