use Rattle.std.proofs.Common.{◌≡◌, inl, inr, ◌+◌, ◌*◌, ◌<◌, ◌≤◌, ◌∷◌, ◌++◌, ℕ, List, [], length, get_or, take, refl, sym, ◌∙◌, ap, ap₂, subst, arith}
use Rattle.std.proofs.lemmas.Bool.{true≢false}
use Rattle.std.proofs.lemmas.Result.{err_from_is_err_and}
use Rattle.sha2.specs.Sha256.{sha256}
use Rattle.shard_files.specs.Files.{AppendsToLost, shard_file}
use Rattle.shard_files.specs.Groups.{AreHeadDigests, GivesEnough, numbered, shard_at}
use Rattle.shard_files.specs.Heads.{head_digest, head_file}
use Rattle.shard_files.specs.Pieces.{piece_bytes}
use Rattle.shard_files.specs.Splits.{BeginWith}
use Rattle.shard_files.specs.Stripes.{shard_total, stripe_content, stripe_total, stripe_width}
use Rattle.shard_files.specs.declared.error.JoinError.{JoinError}
use Rattle.shard_files.specs.declared.error.RepairError.TheVariants.{Join}
use Rattle.shard_files.specs.declared.head.Origin.{Origin}
use Rattle.shard_files.proofs.Faults.{not_few_join}
use Rattle.shard_files.proofs.Joined.{joined_content, none_yet, take_all, whole_length}
use Rattle.shard_files.proofs.Lost.{file_taken, lost_same, lost_twice}
use Rattle.shard_files.proofs.Positions.{content_length, ends_at}
use Rattle.shard_files.proofs.Repaired.{all_long, begin_with, first_bytes, first_long}
use Rattle.shard_files.proofs.Written.{each_more, file_more, file_none, split_all, split_more, split_none}
use Rattle.shard_files.proofs.repair.repair_shards.Goals as goal

pub loop-stripe-init : goal.loop-stripe-init
loop-stripe-init g c =
    let origin = c.args.layout.origin in
    let lost = c.args.lost.now in (
      (
        [],
        [],
        c.new-hasher.ensures,
        split_none BeginWith origin,
        λ held source_held. (source_held, λ s below. absurd (omega (arith, below)), λ content wholes gives. none_yet (stripe_width origin) content),
        λ before files_held.
            let put = c.in_ok-put_lost_heads.ensures.put before files_held in (
              put.0,
              put.1,
              lost_same (length lost) lost (λ index. head_file (numbered origin index)) (shard_file origin []) before put.0
                  (λ index below. file_none origin index) put.2,
            ),
      ),
      λ held content wholes before source_held count gives files_held.
          let put = c.in_ok-put_lost_heads.ensures.put before files_held in (
            source_held,
            (
              put.0,
              put.1,
              lost_same (length lost) lost (λ index. head_file (numbered origin index)) (shard_file origin (take 0 wholes)) before put.0
                  (λ index below. file_none origin index) put.2,
            ),
          ),
    )

pub put_lost_pieces-requires-clause-heads : goal.put_lost_pieces-requires-clause-heads
put_lost_pieces-requires-clause-heads g c =
    let origin = c.args.layout.origin in
    subst (λ (o : Origin). AreHeadDigests o (shard_total o) c.as_slice.result.now) (sym c.in_ok-group.ensures.of)
    (subst (AreHeadDigests origin (shard_total origin)) (sym c.as_slice.ensures.value) c.in-Ok.ensures)

pub loop-stripe-preserved : goal.loop-stripe-preserved
loop-stripe-preserved g c =
    let origin = c.args.layout.origin in
    let lost = c.args.lost.now in
    let stripe = c.loop-stripe.stripe in
    let group = c.in_ok-group.group in
    let restored = group.shards.items in
    let own : group.layout.origin ≡ origin = c.in_ok-group.ensures.of in
    let bytes = c.content_of.result.now in
    let within : stripe < stripe_total origin = omega (arith, c.loop-stripe-test.true, c.stripe_count-stripe-end.ensures) in
    let old = c.loop-stripe.invariant.0 in
    let long = all_long origin group.layout.origin own stripe bytes restored group.whole c.content_of.ensures in
    let bytes_long = first_long origin group.layout.origin own stripe bytes restored group.whole c.content_of.ensures in
    let begins = begin_with origin group.layout.origin own stripe bytes restored group.whole c.content_of.ensures in
    let pieces : List ℕ → ℕ → List ℕ = λ whole index. piece_bytes (head_digest (numbered origin index)) stripe (shard_at origin.size whole index) in
    let added : (before now : ℕ → List ℕ)
    → AppendsToLost (length lost) lost
    (λ index. piece_bytes (head_digest (numbered group.layout.origin index)) stripe (shard_at group.layout.origin.size restored index)) before now
    → AppendsToLost (length lost) lost (pieces restored) before now =
    λ before now put. subst (λ (o : Origin). AppendsToLost (length lost) lost
    (λ index. piece_bytes (head_digest (numbered o index)) stripe (shard_at o.size restored index)) before now) own put in (
      (
        old.0 ++ bytes,
        old.1 ++ restored ∷ [],
        c.update.ensures old.0 old.2,
        split_more BeginWith origin c.args.layout.possible stripe within old.0 bytes restored old.1 old.3 begins long bytes_long,
        λ held source_held.
            let so_far = old.4 held source_held in (
              c.in_ok-group.ensures.kept held so_far.0,
              each_more (GivesEnough origin held) old.1 restored stripe old.3.count so_far.1 (c.in_ok-group.ensures.given held so_far.0),
              λ content wholes gives.
                  let given = gives.stripes stripe within in
                  joined_content stripe (stripe_width origin) content old.0 bytes (so_far.2 content wholes gives)
                  (first_bytes origin group.layout.origin own stripe bytes restored group.whole c.content_of.ensures
                  ∙ ap₂ (λ (n : ℕ) (l : List ℕ). take n l) (sym (content_length origin stripe content gives.length_is))
                  (c.in_ok-group.ensures.restored held (stripe_content origin stripe content) (wholes stripe) so_far.0 given)
                  ∙ given.split.begins),
            ),
        λ before files_held.
            let so_far = old.5 before files_held in
            let put = c.in_ok-put_lost_pieces.ensures.put so_far.0 so_far.1 in (
              put.0,
              put.1,
              lost_twice (length lost) lost (shard_file origin old.1) (pieces restored) (shard_file origin (old.1 ++ restored ∷ [])) before so_far.0 put.0
                  (λ index below. file_more BeginWith origin c.args.layout.possible stripe within old.0 bytes restored old.1 old.3 begins long bytes_long index)
                  so_far.2 (added so_far.0 put.0 put.2),
            ),
      ),
      λ held content wholes before source_held count gives files_held.
          let so_far = c.loop-stripe.invariant.1 held content wholes before source_held count gives files_held in
          let whole = get_or wholes stripe [] in
          let shards_are : restored ≡ whole =
          c.in_ok-group.ensures.restored held (stripe_content origin stripe content) whole so_far.0 (gives.stripes stripe within) in
          let put = c.in_ok-put_lost_pieces.ensures.put so_far.1.0 so_far.1.1 in (
            c.in_ok-group.ensures.kept held so_far.0,
            (
              put.0,
              put.1,
              lost_twice (length lost) lost (shard_file origin (take stripe wholes)) (pieces whole) (shard_file origin (take (stripe + 1) wholes)) before
                  so_far.1.0 put.0
                  (λ index below. file_taken origin wholes stripe (subst (λ (n : ℕ). stripe < n) (sym count) within) index) so_far.1.2
                  (subst (λ (l : List ℕ). AppendsToLost (length lost) lost (pieces l) so_far.1.0 put.0) shards_are (added so_far.1.0 put.0 put.2)),
            ),
          ),
    )

pub returns-clause-named : goal.returns-clause-named
returns-clause-named g c =
    let origin = c.args.layout.origin in
    let done = c.loop-stripe.invariant.0 in (
      done.0,
      done.1,
      split_all BeginWith origin c.args.layout.possible done.0 done.1 c.loop-stripe.stripe
          (omega (arith, c.loop-stripe-test.false, c.stripe_count-stripe-end.ensures))
          (omega (arith, c.loop-stripe.auto.stripe-end, c.stripe_count-stripe-end.ensures)) done.3 ((c.names.ensures done.0 done.2).0 c.if-not-names.false),
      λ held source_held stripe within.
          (done.4 held source_held).1 stripe (omega (arith, within, c.loop-stripe-test.false, c.stripe_count-stripe-end.ensures)),
      done.5,
    )

pub returns-clause-restored : goal.returns-clause-restored
returns-clause-restored g c =
    λ held content wholes before source_held count gives files_held.
    let origin = c.args.layout.origin in
    let lost = c.args.lost.now in
    let done = c.loop-stripe.invariant.1 held content wholes before source_held count gives files_held in
    let all : take c.loop-stripe.stripe wholes ≡ wholes =
    take_all c.loop-stripe.stripe wholes (omega (arith, count, c.loop-stripe-test.false, c.stripe_count-stripe-end.ensures)) in
    (done.1.0, done.1.1, subst (λ (l : List (List ℕ)). AppendsToLost (length lost) lost (shard_file origin l) before done.1.0) all done.1.2)

pub returns-in_err-group-clause-granted : goal.returns-in_err-group-clause-granted
returns-in_err-group-clause-granted g c =
    λ held content wholes source_held gives.
    let stripe = c.loop-stripe.stripe in
    let within : stripe < stripe_total c.args.layout.origin = omega (arith, c.loop-stripe-test.true, c.stripe_count-stripe-end.ensures) in
    let error = err_from_is_err_and c.from_residual-in_err-group.result c.from_residual-in_err-group.ensures.1 in
    rw (error.1, error.2) (c.in_err-group.ensures.granted held (wholes stripe) (c.loop-stripe.invariant.0.4 held source_held).0
    (gives.stripes stripe within).given)

pub returns-then-not-names-clause-granted : goal.returns-then-not-names-clause-granted
returns-then-not-names-clause-granted g c =
    λ held content wholes source_held gives.
    let origin = c.args.layout.origin in
    let done = c.loop-stripe.invariant.0 in
    let all = ends_at origin c.args.layout.possible c.loop-stripe.stripe (omega (arith, c.loop-stripe-test.false, c.stripe_count-stripe-end.ensures)) in
    let is : done.0 ≡ content =
    (done.4 held source_held).2 content wholes gives
    ∙ take_all (c.loop-stripe.stripe * stripe_width origin) content (omega (arith, all, gives.length_is)) in
    absurd (true≢false (sym ((c.names.ensures done.0 done.2).1 (ap sha256 is ∙ gives.identity_is)) ∙ c.if-not-names.true))

pub returns-in_err-group-clause-refused : goal.returns-in_err-group-clause-refused
returns-in_err-group-clause-refused g c =
    let error = err_from_is_err_and c.from_residual-in_err-group.result c.from_residual-in_err-group.ensures.1 in
    rw (error.1, error.2) (elim c.in_err-group.ensures.refused [
      | inl few ↦ inr (inl (ap (λ (e : JoinError). Join e) few))
      | inr memory ↦ inl memory
    ])

pub returns-then-not-names-clause-refused : goal.returns-then-not-names-clause-refused
returns-then-not-names-clause-refused g c =
    let origin = c.args.layout.origin in
    let stripe = c.loop-stripe.stripe in
    let done = c.loop-stripe.invariant.0 in
    let least : stripe_total origin ≤ stripe = omega (arith, c.loop-stripe-test.false, c.stripe_count-stripe-end.ensures) in
    inr (inr (
      refl,
      (
        done.0,
        done.1,
        λ same. true≢false (sym ((c.names.ensures done.0 done.2).1 same) ∙ c.if-not-names.true),
        λ held source_held. record {
          length_is = whole_length stripe (stripe_width origin) origin.length (length done.0) (ends_at origin c.args.layout.possible stripe least) done.3.long;
          begins = λ s within. done.3.split s (omega (arith, within, least));
          given = λ s within. (done.4 held source_held).1 s (omega (arith, within, least));
        },
      ),
    ))

pub returns-in_err-group-clause-enough : goal.returns-in_err-group-clause-enough
returns-in_err-group-clause-enough g c =
    λ held wholes source_held gives.
    let stripe = c.loop-stripe.stripe in
    let within : stripe < stripe_total c.args.layout.origin = omega (arith, c.loop-stripe-test.true, c.stripe_count-stripe-end.ensures) in
    let error = err_from_is_err_and c.from_residual-in_err-group.result c.from_residual-in_err-group.ensures.1 in
    rw (error.1, error.2) (not_few_join c.in_err-group.field-0.0
    (c.in_err-group.ensures.granted held (wholes stripe) (c.loop-stripe.invariant.0.4 held source_held).0 (gives stripe within)))
