use Rattle.std.proofs.Common.{◌≡◌}
use Rattle.tags.proofs.Folding.{hash_from}
use Rattle.tags.proofs.short.with_message.Given as goal

-- the blocks before have been added
abbrev pub invariant-loop-i : goal.invariant-loop-i
invariant-loop-i g l = l.hash ≡ hash_from g.E.Encoding.element l.multiplier l.sum l.message l.i
