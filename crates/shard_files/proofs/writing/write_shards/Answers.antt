use Rattle.std.proofs.Common.{◌<◌, inr, [], ◌∷◌, ◌++◌, refl, sym, subst, arith}
use Rattle.std.specs.Io.KnownBytes.{Consumes}
use Rattle.std.proofs.KnownBytes.{Consumes-nil, Consumes-trans}
use Rattle.shard_files.specs.Files.{shard_file}
use Rattle.shard_files.specs.Groups.{AreHeadDigests, numbered}
use Rattle.shard_files.specs.Heads.{head_file}
use Rattle.shard_files.specs.Splits.{IsSplit}
use Rattle.shard_files.specs.Stripes.{shard_total, stripe_total}
use Rattle.shard_files.proofs.Appended.{appends_same, appends_twice}
use Rattle.shard_files.proofs.Written.{file_more, file_none, moved_other, piece_of, split_all, split_more, split_none}
use Rattle.shard_files.proofs.writing.write_shards.Goals as goal

pub loop-stripe-init : goal.loop-stripe-init
loop-stripe-init g c =
    let origin = c.args.layout.origin in (
      [],
      [],
      Consumes-nil (g.R.Read.remaining c.args.reader.now),
      c.new-hasher.ensures,
      split_none (IsSplit origin) origin,
      λ before held.
          let put = c.in_ok-put_heads.ensures.put before held in (
            put.0,
            put.1,
            appends_same (shard_total origin) (λ index. head_file (numbered origin index)) (shard_file origin []) before put.0
                (λ index below. file_none origin index) put.2,
          ),
    )

pub write_stripe-requires-clause-heads : goal.write_stripe-requires-clause-heads
write_stripe-requires-clause-heads g c =
    let origin = c.args.layout.origin in
    subst (AreHeadDigests origin (shard_total origin)) (sym c.as_slice.ensures.value) c.in-Ok.ensures

pub loop-stripe-preserved : goal.loop-stripe-preserved
loop-stripe-preserved g c =
    let origin = c.args.layout.origin in
    let stripe = c.loop-stripe.stripe in
    let old = c.loop-stripe.invariant in
    let wrote = c.in_ok-write_stripe.ensures.written in
    let within : stripe < stripe_total origin = omega (arith, c.loop-stripe-test.true, c.stripe_count-stripe-end.ensures) in (
      old.0 ++ wrote.0,
      old.1 ++ wrote.1 ∷ [],
      Consumes-trans (g.R.Read.remaining c.args.reader.now) (g.R.Read.remaining c.loop-stripe.reader) (g.R.Read.remaining c.write_stripe.new.reader)
          old.0 wrote.0 old.2 wrote.5,
      wrote.6 old.0 old.3,
      split_more (IsSplit origin) origin c.args.layout.possible stripe within old.0 wrote.0 wrote.1 old.1 old.4 wrote.2 wrote.3 wrote.4,
      λ before held.
          let so_far = old.5 before held in
          let put = wrote.7 so_far.0 so_far.1 in (
            put.0,
            put.1,
            appends_twice (shard_total origin) (shard_file origin old.1) (λ index. piece_of (numbered origin index) stripe wrote.1)
                (shard_file origin (old.1 ++ wrote.1 ∷ [])) before so_far.0 put.0
                (λ index below.
                file_more (IsSplit origin) origin c.args.layout.possible stripe within old.0 wrote.0 wrote.1 old.1 old.4 wrote.2 wrote.3 wrote.4 index)
                so_far.2 put.2,
          ),
    )

pub returns-clause-written : goal.returns-clause-written
returns-clause-written g c =
    let origin = c.args.layout.origin in
    let done = c.loop-stripe.invariant in (
      done.0,
      done.1,
      split_all (IsSplit origin) origin c.args.layout.possible done.0 done.1 c.loop-stripe.stripe (omega (arith, c.loop-stripe-test.false, c.stripe_count-stripe-end.ensures))
          (omega (arith, c.loop-stripe.auto.stripe-end, c.stripe_count-stripe-end.ensures)) done.4 ((c.names.ensures done.0 done.3).0 c.if-not-names.false),
      done.2,
      done.5,
    )

pub returns-then-not-names-clause-refused : goal.returns-then-not-names-clause-refused
returns-then-not-names-clause-refused g c =
    let origin = c.args.layout.origin in
    let done = c.loop-stripe.invariant in
    inr (
      refl,
      moved_other (IsSplit origin) origin c.args.layout.possible
          (Consumes (g.R.Read.remaining c.args.reader.now) (g.R.Read.remaining c.loop-stripe.reader)) done.0 done.1 c.loop-stripe.stripe
          (omega (arith, c.loop-stripe-test.false, c.stripe_count-stripe-end.ensures)) done.4 done.2 c.names.result
          (c.names.ensures done.0 done.3).1 c.if-not-names.true,
    )
