use Rattle.shard_files.proofs.Scanned.{now_several, still_only}
use Rattle.shard_files.proofs.scan.Scan.after_only.Goals as goal

pub returns-then-is_other : goal.returns-then-is_other
returns-then-is_other c =
    λ wanted flag says.
    let other = c.is_other.ensures.other c.if-is_other.true in
    now_several c.args.self.now.seen.items wanted c.args.place flag c.args.first says other.0 (other.1 says.enough.inside)

pub returns-else-is_other : goal.returns-else-is_other
returns-else-is_other c =
    λ wanted flag says.
    still_only c.args.self.now.seen.items wanted c.args.place flag c.args.first says (c.is_other.ensures.same c.if-is_other.false)
