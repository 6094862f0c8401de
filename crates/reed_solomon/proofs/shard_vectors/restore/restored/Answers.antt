use Rattle.std.proofs.Common.{◌+◌, ◌*◌, ◌/◌, ◌<◌, ◌≤◌, ℕ, List, length, take, drop, sym, ◌∙◌, ap, subst, arith}
use Rattle.std.specs.Prelude.{is_some}
use Rattle.std.proofs.Math.Nat.{mul-le-mul_right}
use Rattle.std.proofs.lemmas.List.{length-map, length-take-le, take_at}
use Rattle.std.proofs.lemmas.Result.{IfOk-weaker}
use Rattle.reed_solomon.specs.Shards.{IsReconstructed}
use Rattle.reed_solomon.proofs.VectorRestoring.{end_within, joined-sized, length-joined, made-of}
use Rattle.reed_solomon.proofs.shard_vectors.restore.restored.Goals as goal

pub restore_bytes-requires-clause-size : goal.restore_bytes-requires-clause-size
restore_bytes-requires-clause-size g c =
    let k = c.args.code.now.data_shards in
    let total = c.args.code.now.data_shards + c.args.code.now.parity_shards in
    let some : 0 < k = c.args.code.now.some_data in
    joined-sized total c.args.size (length c.as_mut_slice.result.now) (omega (arith, some)) c.requires.some
    (ap length (c.as_mut_slice.ensures.value ∙ c.in_ok-joined.ensures) ∙ length-joined c.args.size c.args.shards.now c.requires.sizes
    ∙ ap (λ (n : ℕ). n * c.args.size) c.requires.count)

pub made_shards-requires : goal.made_shards-requires
made_shards-requires g c =
    let code = c.args.code.now in
    let total = c.args.code.now.data_shards + c.args.code.now.parity_shards in
    let after = c.restore_bytes.new.joined in
    let flags = ap length c.requires.flags ∙ length-map c.args.shards.now is_some ∙ c.requires.count in
    let end = end_within c.args.until code.data_shards code.parity_shards c.requires.end in
    let taken = length-take-le c.args.until c.args.present.now (subst (λ (n : ℕ). c.args.until ≤ n) (sym flags) end) in
    let short = subst (λ (n : ℕ). n ≤ total) (sym taken) end in
    let written = c.as_slice.ensures.value
    ∙ take_at after (drop (length after) c.in_ok-joined.joined.items) c.in_ok-joined.joined.len (c.restore_bytes.auto.joined ∙ c.as_mut_slice.ensures.len) in
    let long = ap length written ∙ c.restore_bytes.auto.joined ∙ ap length (c.as_mut_slice.ensures.value ∙ c.in_ok-joined.ensures)
    ∙ length-joined c.args.size c.args.shards.now c.requires.sizes ∙ ap (λ (n : ℕ). n * c.args.size) c.requires.count in
    subst (λ (n : ℕ). length (take c.args.until c.args.present.now) * c.args.size ≤ n) (sym long) (mul-le-mul_right c.args.size short)

pub returns : goal.returns
returns g c =
    let code = c.args.code.now in
    let k = c.args.code.now.data_shards in
    let total = c.args.code.now.data_shards + c.args.code.now.parity_shards in
    let joined = c.as_mut_slice.result.now in
    let flags = ap length c.requires.flags ∙ length-map c.args.shards.now is_some ∙ c.requires.count in
    let some : 0 < k = c.args.code.now.some_data in
    let within = subst (λ (n : ℕ). c.args.until ≤ n) (sym flags) (end_within c.args.until code.data_shards code.parity_shards c.requires.end) in
    let after = c.restore_bytes.new.joined in
    let written = c.as_slice.ensures.value
    ∙ take_at after (drop (length after) c.in_ok-joined.joined.items) c.in_ok-joined.joined.len (c.restore_bytes.auto.joined ∙ c.as_mut_slice.ensures.len) in
    let done = subst (λ (bytes : List ℕ). IsReconstructed k total (length joined / total) c.args.until c.args.present.now joined bytes)
    (sym written) c.restore_bytes.ensures in
    IfOk-weaker c.made_shards.result _ _
    (λ made each.
    made-of k total c.args.until c.args.size c.args.present.now c.args.shards.now made.items joined c.as_slice.result.now
    (omega (arith, some)) c.requires.count c.requires.sizes within (c.as_mut_slice.ensures.value ∙ c.in_ok-joined.ensures) done each)
    c.made_shards.ensures
