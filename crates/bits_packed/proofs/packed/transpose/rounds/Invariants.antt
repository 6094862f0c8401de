use Rattle.std.proofs.Common.{◌*◌, ℕ, List, map}
use Rattle.bits_packed.specs.Rounds.{AreMixed, IsPassTo}
use Rattle.bits_packed.proofs.packed.transpose.rounds.Given as goal

abbrev pub invariant-loop-group : goal.invariant-loop-group
invariant-loop-group g l =
    (old : List ℕ) → AreMixed g.U.Underlier.BITS l.block old (map (λ x. g.U.Underlier.number x.bits) l.fn.rows)
    → IsPassTo g.U.Underlier.BITS l.block (l.count * l.block) (l.group * (l.count * l.block)) old (map (λ x. g.U.Underlier.number x.bits) l.rows)
