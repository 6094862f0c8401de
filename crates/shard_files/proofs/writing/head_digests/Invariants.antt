use Rattle.shard_files.specs.Groups.{AreHeadDigests}
use Rattle.shard_files.proofs.writing.head_digests.Given as goal

abbrev pub invariant-loop-index : goal.invariant-loop-index
invariant-loop-index l = AreHeadDigests l.layout.origin l.index l.digests.items
