use Rattle.std.proofs.Common.{◌≡◌, ◌-◌, length}
use Rattle.field_base.specs.Powers.{power}
use Rattle.many_words.proofs.PlacesPut.{AreRelated}
use Rattle.many_words.proofs.powers.raise_blocks.Given as goal

abbrev pub invariant-loop-start : goal.invariant-loop-start
invariant-loop-start g l =
    AreRelated (λ x y. g.W.Reads.number y ≡ power 1 g.K.FieldKernel.product (g.W.Reads.number x) l.exponent) l.fn.words l.words l.start
    × (length l.powers ≡ length l.fn.powers)

abbrev pub decreases-loop-start : goal.decreases-loop-start
decreases-loop-start g l = length l.words - l.start
