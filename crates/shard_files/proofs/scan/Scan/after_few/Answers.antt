use Rattle.std.proofs.Common.{sym, ◌∙◌, arith}
use Rattle.std.proofs.lemmas.Bool.{true≢false}
use Rattle.shard_files.proofs.Scanned.{first_enough, new_most, old_most}
use Rattle.shard_files.proofs.scan.Scan.after_few.Goals as goal

pub returns-then-has_enough : goal.returns-then-has_enough
returns-then-has_enough c =
    λ wanted flag says.
    first_enough c.args.self.now.seen.items wanted c.args.place flag (c.has_enough.ensures.0 c.if-has_enough.true) says.few

pub returns-then-count : goal.returns-then-count
returns-then-count c =
    λ wanted flag says.
    new_most c.args.self.now.seen.items wanted c.args.place flag
    (λ has. true≢false (sym (c.has_enough.ensures.1 has) ∙ c.if-has_enough.false)) says.few
    (λ other is. omega (arith, says.most other is, c.if-count.true, c.count.ensures, c.count-2.ensures))

pub returns-else-count : goal.returns-else-count
returns-else-count c =
    λ wanted flag says.
    old_most c.args.self.now.seen.items wanted c.args.place flag
    (λ has. true≢false (sym (c.has_enough.ensures.1 has) ∙ c.if-has_enough.false)) c.args.first says
    (omega (arith, c.if-count.false, c.count.ensures, c.count-2.ensures))
