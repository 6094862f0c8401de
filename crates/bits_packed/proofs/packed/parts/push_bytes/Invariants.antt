use Rattle.std.proofs.Common.{◌≡◌, ◌++◌}
use Rattle.field_base.specs.Chunks.{chunks}
use Rattle.bits_packed.proofs.packed.parts.push_bytes.Given as goal

-- the bytes so far
abbrev pub invariant-loop-i : goal.invariant-loop-i
invariant-loop-i g l = l.bytes.items ≡ l.initial.bytes.items ++ chunks 8 l.i (g.U.Underlier.number l.packed.bits)
