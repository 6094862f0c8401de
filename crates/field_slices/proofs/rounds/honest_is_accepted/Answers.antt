use Rattle.field_slices.proofs.Completeness.{honest-accepted}
use Rattle.field_slices.proofs.rounds.honest_is_accepted.Goals as goal

pub returns : goal.returns
returns c width times left right challenges messages ring wide is_left is_right honest =
    honest-accepted ring wide challenges messages left right is_left is_right honest
