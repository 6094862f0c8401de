use Rattle.std.proofs.Common.{◌≡◌, ◌*◌, ◌^◌, ℕ, length, sym, ◌∙◌, ap, subst}
use Rattle.std.proofs.lemmas.List.{take_at}
use Rattle.reed_solomon.specs.Codes.{AreCodedColumns}
use Rattle.shard_files.proofs.TransformCalls.{can_encode, half_is}
use Rattle.shard_files.proofs.TransformWords.{element}
use Rattle.shard_files.proofs.transform.coded_parity.Goals as goal

pub returns : goal.returns
returns c =
    let own = c.args.transform.now in
    let words = c.args.words.now in
    let half = c.args.half in
    let needs = c.requires in
    let new = c.encode-encoded.new.parity in
    let long : length c.as_mut_slice-2.result.now ≡ own.parity_shards * half =
    ap length c.as_mut_slice-2.ensures.value ∙ c.in_ok-parity.ensures ∙ ap (λ (n : ℕ). n * half) c.parity_shard_count.ensures in
    let room : length c.as_mut_slice.result.now ≡ 40 * 2 ^ own.all_levels =
    ap length c.as_mut_slice.ensures.value ∙ c.in_ok-space.ensures ∙ ap (λ (n : ℕ). 40 * n) c.point_count.ensures in
    let written = c.encode-encoded.ensures.long ∙ ap length c.as_mut_slice-2.ensures.value ∙ sym c.in_ok-parity.parity.ok.0 in
    let same = take_at new _ c.in_ok-parity.parity.len written in
    let ok = c.encode-encoded.ensures.accepted.1
    (can_encode own half (length words) (length c.as_mut_slice-2.result.now) (length c.as_mut_slice.result.now) needs.some needs.points needs.whole long
    room) in (
      ap length same ∙ c.encode-encoded.ensures.long ∙ long,
      subst (AreCodedColumns element 0 4 own.levels own.data_shards own.parity_shards half words) (sym same)
          (subst (λ (n : ℕ). AreCodedColumns element 0 4 own.levels own.data_shards own.parity_shards n words new)
          (half_is own.data_shards half (length words) own.some_data needs.whole) (c.encode-encoded.ensures.encoded ok)),
    )
