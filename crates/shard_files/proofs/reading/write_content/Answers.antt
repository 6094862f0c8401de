use Rattle.std.proofs.Common.{◌≡◌, ◌*◌, ◌<◌, [], ◌∷◌, ◌++◌, inr, refl, sym, ◌∙◌, ap, subst, arith}
use Rattle.std.specs.Io.KnownBytes.{Appends}
use Rattle.std.proofs.lemmas.Bool.{true≢false}
use Rattle.std.proofs.lemmas.Result.{err_from_is_err_and}
use Rattle.sha2.specs.Sha256.{sha256}
use Rattle.std.proofs.KnownBytes.{Appends-nil, Appends-trans}
use Rattle.shard_files.specs.Groups.{GivesEnough}
use Rattle.shard_files.specs.Splits.{BeginWith}
use Rattle.shard_files.specs.Stripes.{stripe_content, stripe_total, stripe_width}
use Rattle.shard_files.proofs.Faults.{not_few}
use Rattle.shard_files.proofs.Joined.{joined_content, none_yet, take_all}
use Rattle.shard_files.proofs.Positions.{content_length, ends_at}
use Rattle.shard_files.proofs.Written.{each_more, moved_other, split_all, split_more, split_none}
use Rattle.shard_files.proofs.reading.write_content.Goals as goal

pub loop-stripe-init : goal.loop-stripe-init
loop-stripe-init g c =
    let origin = c.args.layout.origin in (
      [],
      [],
      Appends-nil (g.W.Write.contents c.args.writer.now),
      c.new-hasher.ensures,
      split_none BeginWith origin,
      λ files held. (held, λ s below. absurd (omega (arith, below)), λ content wholes gives. none_yet (stripe_width origin) content),
    )

pub loop-stripe-preserved : goal.loop-stripe-preserved
loop-stripe-preserved g c =
    let origin = c.args.layout.origin in
    let stripe = c.loop-stripe.stripe in
    let width = stripe_width origin in
    let old = c.loop-stripe.invariant in
    let wrote = c.in_ok-write_stripe.ensures.wrote in
    let within : stripe < stripe_total origin = omega (arith, c.loop-stripe-test.true, c.stripe_count-stripe-end.ensures) in (
      old.0 ++ wrote.0,
      old.1 ++ wrote.1 ∷ [],
      Appends-trans (g.W.Write.contents c.args.writer.now) (g.W.Write.contents c.loop-stripe.writer) (g.W.Write.contents c.write_stripe.new.writer)
          old.0 wrote.0 old.2 wrote.2,
      wrote.6 old.0 old.3,
      split_more BeginWith origin c.args.layout.possible stripe within old.0 wrote.0 wrote.1 old.1 old.4 wrote.3 wrote.4 wrote.7,
      λ files held.
          let before = old.5 files held in (
            c.in_ok-write_stripe.ensures.kept files before.0,
            each_more (GivesEnough origin files) old.1 wrote.1 stripe old.4.count before.1 (wrote.5 files before.0),
            λ content wholes gives.
                joined_content stripe width content old.0 wrote.0 (before.2 content wholes gives)
                (wrote.8 files (stripe_content origin stripe content) (wholes stripe) before.0 (gives.stripes stripe within)
                (content_length origin stripe content gives.length_is)),
          ),
    )

pub returns-clause-named : goal.returns-clause-named
returns-clause-named g c =
    let origin = c.args.layout.origin in
    let done = c.loop-stripe.invariant in (
      done.0,
      done.1,
      split_all BeginWith origin c.args.layout.possible done.0 done.1 c.loop-stripe.stripe
          (omega (arith, c.loop-stripe-test.false, c.stripe_count-stripe-end.ensures))
          (omega (arith, c.loop-stripe.auto.stripe-end, c.stripe_count-stripe-end.ensures)) done.4 ((c.names.ensures done.0 done.3).0 c.if-not-names.false),
      done.2,
      λ files held stripe within.
          (done.5 files held).1 stripe (omega (arith, within, c.loop-stripe-test.false, c.stripe_count-stripe-end.ensures)),
    )

pub returns-clause-restored : goal.returns-clause-restored
returns-clause-restored g c =
    λ files content wholes held gives.
    let origin = c.args.layout.origin in
    let done = c.loop-stripe.invariant in
    let all = ends_at origin c.args.layout.possible c.loop-stripe.stripe (omega (arith, c.loop-stripe-test.false, c.stripe_count-stripe-end.ensures)) in
    subst (Appends (g.W.Write.contents c.args.writer.now) (g.W.Write.contents c.loop-stripe.writer))
    ((done.5 files held).2 content wholes gives
    ∙ take_all (c.loop-stripe.stripe * stripe_width origin) content (omega (arith, all, gives.length_is))) done.2

pub returns-in_err-write_stripe-clause-enough : goal.returns-in_err-write_stripe-clause-enough
returns-in_err-write_stripe-clause-enough g c =
    λ files wholes held gives.
    let stripe = c.loop-stripe.stripe in
    let within : stripe < stripe_total c.args.layout.origin = omega (arith, c.loop-stripe-test.true, c.stripe_count-stripe-end.ensures) in
    let error = err_from_is_err_and c.from_residual.result c.from_residual.ensures.1 in
    rw (error.1, error.2) (not_few c.in_err-write_stripe.field-0.0
    (c.in_err-write_stripe.ensures.granted files (wholes stripe) (c.loop-stripe.invariant.5 files held).0 (gives stripe within)))

pub returns-in_err-write_stripe-clause-granted : goal.returns-in_err-write_stripe-clause-granted
returns-in_err-write_stripe-clause-granted g c =
    λ files content wholes held gives.
    let stripe = c.loop-stripe.stripe in
    let within : stripe < stripe_total c.args.layout.origin = omega (arith, c.loop-stripe-test.true, c.stripe_count-stripe-end.ensures) in
    let error = err_from_is_err_and c.from_residual.result c.from_residual.ensures.1 in
    rw (error.1, error.2) (c.in_err-write_stripe.ensures.granted files (wholes stripe) (c.loop-stripe.invariant.5 files held).0
    (gives.stripes stripe within).given)

pub returns-then-not-names-clause-refused : goal.returns-then-not-names-clause-refused
returns-then-not-names-clause-refused g c =
    let done = c.loop-stripe.invariant in
    inr (inr (inr (
      refl,
      moved_other BeginWith c.args.layout.origin c.args.layout.possible (Appends (g.W.Write.contents c.args.writer.now) (g.W.Write.contents c.loop-stripe.writer))
          done.0 done.1 c.loop-stripe.stripe (omega (arith, c.loop-stripe-test.false, c.stripe_count-stripe-end.ensures)) done.4 done.2 c.names.result
          (c.names.ensures done.0 done.3).1 c.if-not-names.true,
    )))

pub returns-then-not-names-clause-granted : goal.returns-then-not-names-clause-granted
returns-then-not-names-clause-granted g c =
    λ files content wholes held gives.
    let origin = c.args.layout.origin in
    let done = c.loop-stripe.invariant in
    let all = ends_at origin c.args.layout.possible c.loop-stripe.stripe (omega (arith, c.loop-stripe-test.false, c.stripe_count-stripe-end.ensures)) in
    let is : done.0 ≡ content =
    (done.5 files held).2 content wholes gives
    ∙ take_all (c.loop-stripe.stripe * stripe_width origin) content (omega (arith, all, gives.length_is)) in
    absurd (true≢false (sym ((c.names.ensures done.0 done.3).1 (ap sha256 is ∙ gives.identity_is)) ∙ c.if-not-names.true))
