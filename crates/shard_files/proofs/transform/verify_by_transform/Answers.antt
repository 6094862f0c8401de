use Rattle.std.proofs.Common.{◌*◌, ◌/◌, ℕ, List, length, sym, ◌∙◌, ap, subst}
use Rattle.shard_files.specs.Codes.{AreShardWords}
use Rattle.shard_files.proofs.TransformCalls.{told}
use Rattle.shard_files.proofs.transform.verify_by_transform.Goals as goal

pub is_coded-is_whole-requires-clause-room : goal.is_coded-is_whole-requires-clause-room
is_coded-is_whole-requires-clause-room c =
    ap length c.as_mut_slice.ensures.value ∙ c.in_ok-space.ensures ∙ ap (λ (n : ℕ). 40 * n) c.point_count.ensures

pub returns : goal.returns
returns c =
    let code = c.args.code.now in
    let shards = c.args.shards.now in
    let words = c.in_ok-words.words.items in
    let parity = c.in_ok-words.parity.items in
    let law = told code c.transform_of-transform.result c.transform_of-transform.ensures c.requires.transform shards c.as_slice.result.now c.as_slice-2.result.now
    (subst (λ (l : List ℕ). AreShardWords code.data_shards code.parity_shards (code.size / 2) shards l c.as_slice-2.result.now) (sym c.as_slice.ensures.value)
    (subst (λ (l : List ℕ). AreShardWords code.data_shards code.parity_shards (code.size / 2) shards words l) (sym c.as_slice-2.ensures.value)
    c.in_ok-words.ensures)) in
    (λ is. law.0 (c.is_coded-is_whole.ensures.0 is), λ word. c.is_coded-is_whole.ensures.1 (law.1 word))
