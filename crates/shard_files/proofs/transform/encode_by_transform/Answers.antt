use Rattle.std.proofs.Common.{◌≡◌, ◌*◌, ◌/◌, ℕ, List, length, sym, ◌∙◌, ap, subst, arith}
use Rattle.reed_solomon.specs.Codes.{AreCodedColumns}
use Rattle.shard_files.proofs.TransformCalls.{encoded, encoded_kept, some_half, words_room}
use Rattle.shard_files.proofs.TransformWords.{element}
use Rattle.shard_files.proofs.transform.encode_by_transform.Goals as goal

pub words_of-requires : goal.words_of-requires
words_of-requires c =
    omega (arith, words_room c.args.code.now c.requires.transform (length c.args.shards.now) c.requires.whole)

pub coded_parity-requires-clause-some : goal.coded_parity-requires-clause-some
coded_parity-requires-clause-some c = some_half c.args.code.now c.requires.transform

pub coded_parity-requires-clause-whole : goal.coded_parity-requires-clause-whole
coded_parity-requires-clause-whole c =
    ap length c.as_slice.ensures.value ∙ c.in_ok-words.ensures.0 ∙ ap (λ (n : ℕ). n * (c.args.code.now.size / 2)) (sym c.transform_of-transform.ensures.0)

pub write_words-requires : goal.write_words-requires
write_words-requires c =
    let code = c.args.code.now in
    let made = c.transform_of-transform.ensures in
    let room = words_room code c.requires.transform (length c.args.shards.now) c.requires.whole in
    let long : length c.as_slice-2.result.now ≡ code.parity_shards * (code.size / 2) =
    ap length c.as_slice-2.ensures.value ∙ c.in_ok-parity.ensures.0 ∙ ap (λ (n : ℕ). n * (code.size / 2)) made.1 in
    omega (arith, room, long, c.len.ensures, c.in_ok-words.words.ok.0, c.in_ok-words.ensures.0)

pub returns-clause-encoded : goal.returns-clause-encoded
returns-clause-encoded c =
    λ ok.
    let code = c.args.code.now in
    let own = c.transform_of-transform.result in
    let made = c.transform_of-transform.ensures in
    let words = c.in_ok-words.words.items in
    let half = code.size / 2 in
    encoded code own made c.requires.transform c.args.shards.now c.write_words.new.bytes words c.as_slice-2.result.now c.len.result
    (c.len.ensures ∙ c.in_ok-words.words.ok.0) c.write_words.ensures.kept c.in_ok-words.ensures.0 c.in_ok-words.ensures.1
    (ap length c.as_slice-2.ensures.value ∙ c.in_ok-parity.ensures.0) c.write_words.ensures.written
    (subst (λ (l : List ℕ). AreCodedColumns element 0 4 own.levels own.data_shards own.parity_shards half words l) (sym c.as_slice-2.ensures.value)
    (subst (λ (l : List ℕ). AreCodedColumns element 0 4 own.levels own.data_shards own.parity_shards half l c.in_ok-parity.parity.items)
    c.as_slice.ensures.value c.in_ok-parity.ensures.1))

pub returns-clause-kept : goal.returns-clause-kept
returns-clause-kept c =
    encoded_kept c.args.code.now c.transform_of-transform.result c.transform_of-transform.ensures c.requires.transform c.args.shards.now c.write_words.new.bytes
    c.in_ok-words.words.items c.as_slice-2.result.now c.len.result (c.len.ensures ∙ c.in_ok-words.words.ok.0) c.write_words.ensures.kept c.in_ok-words.ensures.0
