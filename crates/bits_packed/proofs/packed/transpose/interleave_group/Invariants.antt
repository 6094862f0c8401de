use Rattle.std.proofs.Common.{◌*◌, ℕ, List, map}
use Rattle.bits_packed.specs.Rounds.{IsPassTo}
use Rattle.bits_packed.proofs.packed.transpose.interleave_group.Given as goal

abbrev pub invariant-loop-i : goal.invariant-loop-i
invariant-loop-i g l =
    (old : List ℕ)
    → IsPassTo g.U.Underlier.BITS l.block (l.count * l.block) (l.group * (l.count * l.block)) old (map (λ x. g.U.Underlier.number x.bits) l.fn.rows)
    → IsPassTo g.U.Underlier.BITS l.block (l.count * l.block) l.i old (map (λ x. g.U.Underlier.number x.bits) l.rows)
