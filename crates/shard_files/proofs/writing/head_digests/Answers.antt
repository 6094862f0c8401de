use Rattle.std.proofs.Common.{◌≡◌, ◌+◌, ◌∷◌, ℕ, [], sym, ◌∙◌, ap, subst, arith}
use Rattle.std.proofs.lemmas.List.{length-append}
use Rattle.shard_files.specs.Groups.{AreHeadDigests, numbered}
use Rattle.shard_files.specs.Heads.{head_digest}
use Rattle.shard_files.specs.Stripes.{shard_total}
use Rattle.shard_files.proofs.Written.{each_more}
use Rattle.shard_files.proofs.writing.head_digests.Goals as goal

pub loop-index-preserved : goal.loop-index-preserved
loop-index-preserved c =
    let before = c.loop-index.invariant in
    subst (AreHeadDigests c.args.layout.now.origin (c.loop-index.index + 1)) (sym c.in_ok-push.ensures.items)
    (record {
      long = length-append c.loop-index.digests.items (c.digest.result ∷ []) ∙ ap (λ (n : ℕ). n + 1) before.long;
      are = each_more (λ index digest. digest ≡ head_digest (numbered c.args.layout.now.origin index)) c.loop-index.digests.items c.digest.result
          c.loop-index.index before.long before.are c.digest.ensures;
    })

pub returns : goal.returns
returns c =
    let all : c.loop-index.index ≡ shard_total c.args.layout.now.origin =
    omega (arith, c.loop-index-test.false, c.loop-index.auto.index-end, c.total-index-end.ensures) in
    subst (λ (n : ℕ). AreHeadDigests c.args.layout.now.origin n c.loop-index.digests.items) all c.loop-index.invariant
