use Rattle.std.proofs.Common.{◌≡◌, ◌+◌, ◌<◌, ℕ, length, take, refl, sym, ◌∙◌, subst, arith}
use Rattle.std.proofs.lemmas.Bool.{false≢true}
use Rattle.reed_solomon.specs.ShardVectors.{HaveSize, first_size}
use Rattle.reed_solomon.proofs.RestoreErrors.{fewer, more, refused, seen_empty, seen_flags, seen_lost, seen_whole, unequal}
use Rattle.reed_solomon.proofs.VectorRestoring.{end_within, restored-made}
use Rattle.reed_solomon.proofs.shard_vectors.restore.reconstruct_until.Goals as goal

pub returns-then-shards-total : goal.returns-then-shards-total
returns-then-shards-total g c =
    let code = c.args.code.now in
    let total = code.data_shards + code.parity_shards in
    let less : length c.args.shards.now < total = omega (arith, c.if-shards-total.true, c.total_shard_count-total.ensures) in
    (λ ok. absurd (false≢true ok), fewer code.data_shards total c.args.shards.now less, refl)

pub returns-then-shards-total-2 : goal.returns-then-shards-total-2
returns-then-shards-total-2 g c =
    let code = c.args.code.now in
    let total = code.data_shards + code.parity_shards in
    let above : total < length c.args.shards.now = omega (arith, c.if-shards-total-2.true, c.total_shard_count-total.ensures) in
    (λ ok. absurd (false≢true ok), more code.data_shards total c.args.shards.now above, refl)

pub returns-then-not-have_size : goal.returns-then-not-have_size
returns-then-not-have_size g c =
    let code = c.args.code.now in
    let shards = c.args.shards.now in
    let total = code.data_shards + code.parity_shards in
    let long : length shards ≡ total = omega (arith, c.total_shard_count-total.ensures, c.if-shards-total.false, c.if-shards-total-2.false) in
    let other : HaveSize (first_size shards) shards → ⊥ =
    λ sized. false≢true (c.if-not-have_size.ensures.1 (subst (λ (n : ℕ). HaveSize n shards) (sym c.first_size-size.ensures) sized)) in
    (λ ok. absurd (false≢true ok), unequal code.data_shards total shards long other, refl)

pub returns-then-count_of-data_shard_count : goal.returns-then-count_of-data_shard_count
returns-then-count_of-data_shard_count g c =
    let shards = c.args.shards.now in
    let total = c.args.code.now.data_shards + c.args.code.now.parity_shards in
    let long : length shards ≡ total = omega (arith, c.total_shard_count-total.ensures, c.if-shards-total.false, c.if-shards-total-2.false) in (
      λ ok. absurd (false≢true ok),
      seen_lost c.args.code.now.data_shards total shards c.total_shard_count-total.result c.first_size-size.result c.flags_of-flags.result
          c.total_shard_count-total.ensures long c.first_size-size.ensures (c.if-not-have_size.ensures.0 refl) c.flags_of-flags.ensures.flags
          (omega (arith, c.if-count_of-data_shard_count.true, c.count_of.ensures, c.data_shard_count.ensures)),
      refl,
    )

pub returns-then-size-eq0 : goal.returns-then-size-eq0
returns-then-size-eq0 g c =
    let shards = c.args.shards.now in
    let total = c.args.code.now.data_shards + c.args.code.now.parity_shards in
    let long : length shards ≡ total = omega (arith, c.total_shard_count-total.ensures, c.if-shards-total.false, c.if-shards-total-2.false) in (
      λ ok. absurd (false≢true ok),
      seen_empty c.args.code.now.data_shards total shards c.total_shard_count-total.result c.first_size-size.result c.flags_of-flags.result
          c.total_shard_count-total.ensures long c.first_size-size.ensures (c.if-not-have_size.ensures.0 refl) c.flags_of-flags.ensures.flags
          (omega (arith, c.if-count_of-data_shard_count.false, c.count_of.ensures, c.data_shard_count.ensures))
          c.if-size-eq0.true,
      refl,
    )

pub returns-in-Err : goal.returns-in-Err
returns-in-Err g c =
    let shards = c.args.shards.now in
    let total = c.args.code.now.data_shards + c.args.code.now.parity_shards in
    let long : length shards ≡ total = omega (arith, c.total_shard_count-total.ensures, c.if-shards-total.false, c.if-shards-total-2.false) in (
      λ ok. absurd (false≢true ok),
      refused c.args.code.now.data_shards total shards
          (seen_whole c.args.code.now.data_shards total shards c.total_shard_count-total.result c.first_size-size.result c.flags_of-flags.result
          c.total_shard_count-total.ensures long c.first_size-size.ensures (c.if-not-have_size.ensures.0 refl) c.flags_of-flags.ensures.flags
          (omega (arith, c.if-count_of-data_shard_count.false, c.count_of.ensures, c.data_shard_count.ensures))
          c.if-size-eq0.false),
      refl,
    )

pub returns : goal.returns
returns g c =
    let shards = c.args.shards.now in
    let code = c.args.code.now in
    let total = code.data_shards + code.parity_shards in
    let counted = c.total_shard_count-total.ensures in
    let long : length shards ≡ total = omega (arith, counted, c.if-shards-total.false, c.if-shards-total-2.false) in
    let sized = c.if-not-have_size.ensures.0 refl in
    let made = restored-made code.data_shards total c.args.until c.first_size-size.result
    (take c.total_shard_count-total.result c.flags_of-flags.result) shards c.in-Ok.made.items c.put.new.shards
    (end_within c.args.until code.data_shards code.parity_shards c.requires) c.first_size-size.ensures
    (seen_flags code.data_shards total shards c.total_shard_count-total.result c.first_size-size.result c.flags_of-flags.result counted long
    c.first_size-size.ensures sized c.flags_of-flags.ensures.flags)
    long (c.put.auto.shards ∙ long) sized c.in-Ok.ensures c.put.ensures in (
      λ ok. (
        seen_whole code.data_shards total shards c.total_shard_count-total.result c.first_size-size.result c.flags_of-flags.result counted long
            c.first_size-size.ensures sized c.flags_of-flags.ensures.flags
            (omega (arith, c.if-count_of-data_shard_count.false, c.count_of.ensures, c.data_shard_count.ensures)) c.if-size-eq0.false,
        made,
      ),
      tt,
      tt,
    )
