use Rattle.std.proofs.Common.{◌<◌, ℕ, length, ◌∙◌, subst}
use Rattle.shard_files.proofs.Layouts.{own_long}
use Rattle.shard_files.proofs.Splits.{split_of_code}
use Rattle.shard_files.proofs.split.split_into.Goals as goal

pub encode-requires : goal.encode-requires
encode-requires c = own_long c.args.layout.now (length c.fill.new.shards) (c.fill.ensures.long ∙ c.requires.whole)

pub returns-in-Ok-clause-split : goal.returns-in-Ok-clause-split
returns-in-Ok-clause-split c =
    λ ok.
    split_of_code c.args.layout.now c.args.content.now c.fill.new.shards c.encode.new.shards
    (c.encode.ensures.long ∙ c.fill.ensures.long ∙ c.requires.whole) c.requires.fits
    (λ i below. c.fill.ensures.begins i (subst (λ (n : ℕ). i < n) (c.encode.ensures.long ∙ c.fill.ensures.long) below))
    c.encode.ensures.kept (c.in-Ok.ensures.encoded ok)
