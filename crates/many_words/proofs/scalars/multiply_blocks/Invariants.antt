use Rattle.std.proofs.Common.{◌≡◌, ◌-◌, length}
use Rattle.ghash_slices.specs.LowStages.{ghash_product}
use Rattle.many_words.proofs.PlacesPut.{AreRelated}
use Rattle.many_words.proofs.scalars.multiply_blocks.Given as goal

abbrev pub invariant-loop-start : goal.invariant-loop-start
invariant-loop-start g l =
    AreRelated (λ x y. g.W.Reads.number y ≡ ghash_product (g.W.Reads.number x) (g.W.Reads.number l.scalar)) l.fn.words l.words l.start
    × (length l.copies ≡ length l.fn.copies)

abbrev pub decreases-loop-start : goal.decreases-loop-start
decreases-loop-start g l = length l.words - l.start
