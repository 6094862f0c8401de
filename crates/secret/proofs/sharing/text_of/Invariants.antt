use Rattle.std.proofs.Common.{◌≡◌}
use Rattle.std.specs.Prelude.{string_bytes}
use Rattle.secret.specs.Records.{lines_of}
use Rattle.secret.proofs.sharing.text_of.Given as goal

-- the lines of the first shares
abbrev pub invariant-loop-i : goal.invariant-loop-i
invariant-loop-i l = string_bytes l.text ≡ lines_of l.choice.field l.choice.needed l.identity l.size l.shares l.i
