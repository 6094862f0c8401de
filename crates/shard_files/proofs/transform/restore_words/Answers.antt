use Rattle.std.proofs.Common.{◌≡◌, ◌+◌, ◌*◌, ℕ, length, refl, sym, ◌∙◌, ap, subst, arith}
use Rattle.reed_solomon.specs.Restoring.{AreRestoredColumns}
use Rattle.shard_files.specs.Codes.{AreShardWords}
use Rattle.shard_files.proofs.TransformCalls.{can_rebuild, half_is, parts, words_are}
use Rattle.shard_files.proofs.TransformWords.{element, restored_kept, restored_whole}
use Rattle.shard_files.proofs.transform.restore_words.Goals as goal

pub write_words-requires : goal.write_words-requires
write_words-requires c =
    let own = c.args.transform.now in
    let room = parts (length c.args.shards.now) own.data_shards own.parity_shards c.args.half c.requires.whole in
    omega (arith, room, c.reconstruct-restored.ensures.long, c.requires.words.long)

pub write_words-requires-2 : goal.write_words-requires-2
write_words-requires-2 c =
    let own = c.args.transform.now in
    let room = parts (length c.args.shards.now) own.data_shards own.parity_shards c.args.half c.requires.whole in
    omega (
      arith,
      room,
      c.reconstruct-restored.ensures.parity_long,
      c.requires.words.long,
      c.requires.words.parity_long,
      c.write_words.ensures.long,
    )

-- the shards have the words that were restored
written : (c : goal.After-slice_known-9-1)
    → AreShardWords c.args.transform.now.data_shards c.args.transform.now.parity_shards c.args.half c.write_words-2.new.bytes
    c.reconstruct-restored.new.shards c.reconstruct-restored.new.parity
written c =
    let now = c.reconstruct-restored.ensures in
    words_are c.args.transform.now c.args.half c.args.shards.now c.write_words.new.bytes c.write_words-2.new.bytes c.args.words.now c.args.parity.now
    c.reconstruct-restored.new.shards c.reconstruct-restored.new.parity (length c.args.words.now) refl c.requires.words now.long now.parity_long
    c.write_words.ensures.written c.write_words-2.ensures.written c.write_words-2.ensures.kept

-- and these are so in each column
rebuilt : (c : goal.After-slice_known-9-1)
    → AreRestoredColumns element 0 4 c.args.transform.now.levels c.args.transform.now.data_shards c.args.transform.now.parity_shards c.args.half
    c.args.present.now c.args.half c.args.words.now c.args.parity.now c.reconstruct-restored.new.shards c.reconstruct-restored.new.parity
rebuilt c =
    let own = c.args.transform.now in
    let half = c.args.half in
    let needs = c.requires in
    let words = c.args.words.now in
    let parity = c.args.parity.now in
    let present = c.args.present.now in
    let ok = c.reconstruct-restored.ensures.accepted.1
    (can_rebuild own half (length words) (length parity) (length c.args.space.now) needs.some needs.points needs.words.long needs.words.parity_long
    needs.room present needs.flags needs.enough) in
    subst (λ (n : ℕ). AreRestoredColumns element 0 4 own.levels own.data_shards own.parity_shards n present n words parity
    c.reconstruct-restored.new.shards c.reconstruct-restored.new.parity)
    (half_is own.data_shards half (length words) own.some_data needs.words.long) (c.reconstruct-restored.ensures.restored ok)

pub returns-clause-restored : goal.returns-clause-restored
returns-clause-restored c =
    λ size whole even word long agree.
    let own = c.args.transform.now in
    let all : length c.args.shards.now ≡ (own.data_shards + own.parity_shards) * size =
    c.requires.whole ∙ ap (λ (n : ℕ). (own.data_shards + own.parity_shards) * n) (sym even) in
    restored_whole own.data_shards own.parity_shards c.args.half own.levels own.padded c.lost_symbols_return.ensures size even c.args.present.now
    c.args.shards.now c.write_words-2.new.bytes whole c.args.words.now c.args.parity.now c.reconstruct-restored.new.shards
    c.reconstruct-restored.new.parity c.requires.words (written c) (rebuilt c) word agree
    (c.write_words-2.ensures.long ∙ c.write_words.ensures.long ∙ all) (long ∙ all)

pub returns-clause-kept : goal.returns-clause-kept
returns-clause-kept c =
    λ size even.
    let own = c.args.transform.now in
    restored_kept own.data_shards own.parity_shards c.args.half own.levels size even c.args.present.now c.args.shards.now c.write_words-2.new.bytes
    c.args.words.now c.args.parity.now c.reconstruct-restored.new.shards c.reconstruct-restored.new.parity c.requires.words (written c) (rebuilt c)
