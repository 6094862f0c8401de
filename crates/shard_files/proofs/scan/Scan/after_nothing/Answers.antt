use Rattle.std.proofs.Common.{sym, ◌∙◌}
use Rattle.std.proofs.lemmas.Bool.{true≢false}
use Rattle.shard_files.proofs.Scanned.{first_enough, new_most}
use Rattle.shard_files.proofs.scan.Scan.after_nothing.Goals as goal

pub returns-then-has_enough : goal.returns-then-has_enough
returns-then-has_enough c =
    λ wanted flag none.
    first_enough c.args.self.now.seen.items wanted c.args.place flag (c.has_enough.ensures.0 c.if-has_enough.true) (λ other is _. none other is)

pub returns-else-has_enough : goal.returns-else-has_enough
returns-else-has_enough c =
    λ wanted flag none.
    new_most c.args.self.now.seen.items wanted c.args.place flag
    (λ has. true≢false (sym (c.has_enough.ensures.1 has) ∙ c.if-has_enough.false)) (λ other is _. none other is)
    (λ other is. absurd (none other is))
