use Rattle.prove_sums.proofs.WrittenProofs.{written_proofs_are_accepted}
use Rattle.prove_sums.proofs.laws.written_proofs_are_accepted.Goals as goal

pub returns : goal.returns
returns g c =
    written_proofs_are_accepted g.H.ByteHasher32.digest c.field_has_points.ensures c.honest_reduces.ensures c.openings_have_one_count.ensures
    c.parts_determine.ensures
