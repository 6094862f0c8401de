use Rattle.std.proofs.Common.{◌∙◌}
use Rattle.field_base.proofs.ChunkLists.{chunk_pushed, none_pushed}
use Rattle.field_space.proofs.space.BasedVectorSpace.flatten_to_base.Goals as goal

pub loop-i-init : goal.loop-i-init
loop-i-init g c = c.loop-place.invariant ∙ none_pushed g.F.Represented.width _ _

pub loop-i-preserved : goal.loop-i-preserved
loop-i-preserved g c =
    chunk_pushed g.F.Represented.repr g.F.Represented.width c.loop-i.i _ _ _ c.basis_coefficient.result _ c.in_ok-push.ensures.items c.loop-i.invariant
    c.basis_coefficient.ensures
