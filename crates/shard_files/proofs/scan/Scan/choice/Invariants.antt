use Rattle.shard_files.specs.Scans.{IsChoice}
use Rattle.shard_files.proofs.scan.Scan.choice.Given as goal

abbrev pub invariant-loop-place : goal.invariant-loop-place
invariant-loop-place l = IsChoice l.self.seen.items l.wanted l.place l.choice
