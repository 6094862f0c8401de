use Rattle.std.proofs.Common.{◌*◌, ◌/◌, ℕ, List, length, sym, ◌∙◌, ap, subst, arith}
use Rattle.shard_files.specs.Codes.{AreShardWords}
use Rattle.shard_files.proofs.TransformCalls.{agree_own, agree_theirs, all_bytes, even, read_own, some_half, total_is, word_own}
use Rattle.shard_files.proofs.transform.restore_by_transform.Goals as goal

pub restore_words-requires-clause-some : goal.restore_words-requires-clause-some
restore_words-requires-clause-some c = some_half c.args.code.now c.requires.transform

pub restore_words-requires-clause-words : goal.restore_words-requires-clause-words
restore_words-requires-clause-words c =
    let code = c.args.code.now in
    let own = c.transform_of-transform.result in
    let made = c.transform_of-transform.ensures in
    let shards = c.args.shards.now in
    let words = c.in_ok-words.words.items in
    let parity = c.in_ok-words.parity.items in
    subst (λ (l : List ℕ). AreShardWords own.data_shards own.parity_shards (code.size / 2) shards l c.as_mut_slice-3.result.now)
    (sym c.as_mut_slice-2.ensures.value)
    (subst (λ (l : List ℕ). AreShardWords own.data_shards own.parity_shards (code.size / 2) shards words l) (sym c.as_mut_slice-3.ensures.value)
    (read_own code own made c.requires.transform shards words parity c.in_ok-words.ensures))

pub restore_words-requires-clause-whole : goal.restore_words-requires-clause-whole
restore_words-requires-clause-whole c =
    all_bytes c.args.code.now c.transform_of-transform.result c.transform_of-transform.ensures c.requires.transform (length c.args.shards.now) c.requires.whole

pub restore_words-requires-clause-room : goal.restore_words-requires-clause-room
restore_words-requires-clause-room c =
    ap length c.as_mut_slice.ensures.value ∙ c.in_ok-space.ensures ∙ ap (λ (n : ℕ). 40 * n) c.point_count.ensures

pub restore_words-requires-clause-flags : goal.restore_words-requires-clause-flags
restore_words-requires-clause-flags c =
    c.requires.flags ∙ sym (total_is c.args.code.now c.transform_of-transform.result c.transform_of-transform.ensures c.requires.transform)

pub restore_words-requires-clause-enough : goal.restore_words-requires-clause-enough
restore_words-requires-clause-enough c = omega (arith, c.requires.enough, c.transform_of-transform.ensures.0)

pub returns-clause-restored : goal.returns-clause-restored
returns-clause-restored c =
    λ whole ok word long agree.
    let code = c.args.code.now in
    let own = c.transform_of-transform.result in
    let made = c.transform_of-transform.ensures in
    c.restore_words.ensures.restored code.size whole (even code c.requires.transform) (word_own code own made c.requires.transform whole word)
    long (agree_own code own made c.requires.transform c.args.present.now c.args.shards.now whole agree)

pub returns-clause-kept : goal.returns-clause-kept
returns-clause-kept c =
    λ ok.
    agree_theirs c.args.code.now c.transform_of-transform.result c.transform_of-transform.ensures c.requires.transform c.args.present.now
    c.restore_words.new.shards c.args.shards.now (c.restore_words.ensures.kept c.args.code.now.size (even c.args.code.now c.requires.transform))
