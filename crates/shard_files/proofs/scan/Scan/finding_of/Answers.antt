use Rattle.shard_files.proofs.Heads.{same_some}
use Rattle.shard_files.proofs.Scanned.{known_head}
use Rattle.shard_files.proofs.scan.Scan.finding_of.Goals as goal

pub returns-in-Some-clause-found : goal.returns-in-Some-clause-found
returns-in-Some-clause-found c =
    c.finding_of_head.ensures.found c.args.begin.now c.in-Some.ensures.written
    (λ other known is. same_some c.in-Some.head other (c.in-Some.ensures.read other (known_head other known) is))
