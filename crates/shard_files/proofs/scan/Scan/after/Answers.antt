use Rattle.std.proofs.Common.{sym, ◌∙◌}
use Rattle.shard_files.proofs.Scanned.{skipped}
use Rattle.shard_files.proofs.scan.Scan.after.Goals as goal

pub returns-then-is_wanted : goal.returns-then-is_wanted
returns-then-is_wanted c = λ wanted flag says. c.better.ensures wanted (sym flag ∙ c.if-is_wanted.true) says

pub returns-else-is_wanted : goal.returns-else-is_wanted
returns-else-is_wanted c =
    λ wanted flag says. skipped c.args.self.now.seen.items wanted c.args.place (sym flag ∙ c.if-is_wanted.false) c.args.before says
