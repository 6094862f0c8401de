use Rattle.c_calls.proofs.ErasureCounts.{refused}
use Rattle.c_calls.proofs.erasure.erasure_encode.Goals as goal

pub returns-in-Err : goal.returns-in-Err
returns-in-Err g c =
    λ n r counts. refused (c.in-Err.ensures.no_code n r counts) (c.in-Err.ensures.no_room n r counts) (λ fits. fits.room)
