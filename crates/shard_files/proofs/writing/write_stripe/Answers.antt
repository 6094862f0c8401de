use Rattle.std.proofs.Common.{◌++◌, ℕ, List, ◌∙◌, subst}
use Rattle.sha2.specs.Hashers.{Holds256}
use Rattle.shard_files.specs.Files.{AppendsToEach}
use Rattle.shard_files.specs.Groups.{numbered, shard_at}
use Rattle.shard_files.specs.Heads.{head_digest}
use Rattle.shard_files.specs.Pieces.{piece_bytes}
use Rattle.shard_files.specs.Splits.{IsSplit}
use Rattle.shard_files.specs.Stripes.{shard_total}
use Rattle.shard_files.proofs.writing.write_stripe.Goals as goal

pub returns-clause-written : goal.returns-clause-written
returns-clause-written g c =
    let origin = c.args.layout.now.origin in
    let content = c.in_ok-content.content.items in
    let shards = c.in_ok-shards.shards.items in (
      content,
      shards,
      subst (λ (l : List ℕ). IsSplit origin l shards) c.as_slice-2.ensures.value c.in_ok-shards.ensures.split,
      c.in_ok-shards.ensures.long,
      c.in_ok-content.ensures.read.0 ∙ c.stripe_length.ensures,
      c.in_ok-content.ensures.read.1,
      λ before held. subst (λ (l : List ℕ). Holds256 c.update.new.self (before ++ l)) c.as_slice.ensures.value (c.update.ensures before held),
      λ before held.
          let put = c.in_ok-put_pieces.ensures.put before held in (
            put.0,
            put.1,
            subst (λ (l : List ℕ). AppendsToEach (shard_total origin)
                (λ index. piece_bytes (head_digest (numbered origin index)) c.args.stripe (shard_at origin.size l index)) before put.0)
                c.as_slice-3.ensures.value put.2,
          ),
    )
