use Rattle.std.proofs.Common.{length, slice_index, refl, arith}
use Rattle.std.specs.Prelude.{nat_eq, not}
use Rattle.error_codes.specs.Filling.{is_marked}
use Rattle.error_codes.proofs.Marking.{mark-set}
use Rattle.error_codes.proofs.field_code.correcting.mark_differing.Goals as goal

pub loop-i-init : goal.loop-i-init
loop-i-init c = (c.requires.room, λ j below. absurd (omega (arith, below)), λ j above. refl)

pub loop-i-preserved : goal.loop-i-preserved
loop-i-preserved c =
    mark-set (length c.args.word.now) (λ j. not (nat_eq (slice_index c.args.word.now j) (slice_index c.args.other.now j)))
    (is_marked c.args.marks.now) c.loop-i.i _ c.loop-i.marks c.loop-i.invariant (omega arith) refl
