use Rattle.std.proofs.Common.{◌-◌, arith, length, refl, sym, ◌∙◌}
use Rattle.std.proofs.lemmas.Bool.{true≢false}
use Rattle.secret.proofs.ShareLines.{few_end, is_end, no_end}
use Rattle.secret.proofs.lines.end_of.Goals as goal

pub returns-then-bytes-clause-refused : goal.returns-then-bytes-clause-refused
returns-then-bytes-clause-refused c = few_end c.args.bytes.now (omega arith)

pub returns-then-not-is_summed-clause-refused : goal.returns-then-not-is_summed-clause-refused
returns-then-not-is_summed-clause-refused c =
    no_end c.args.bytes.now c.split_at-halves.result.0.now c.split_at-halves.result.1.now (length c.args.bytes.now - 8) refl
    c.split_at-halves.ensures.front c.split_at-halves.ensures.back (λ same. true≢false (sym (c.has_sum-is_summed.ensures.1 same) ∙ c.if-not-is_summed.true))

pub returns-clause-whole : goal.returns-clause-whole
returns-clause-whole c =
    is_end c.args.bytes.now c.split_at-halves.result.0.now c.split_at-halves.result.1.now (length c.args.bytes.now - 8) (omega arith) refl
    c.split_at-halves.ensures.front c.split_at-halves.ensures.back (c.has_sum-is_summed.ensures.0 c.if-not-is_summed.false)
