use Rattle.sum_checks.proofs.Soundness.{honest_reduces}
use Rattle.sum_checks.proofs.laws.honest_reduces.Goals as goal

pub returns : goal.returns
returns c = honest_reduces
