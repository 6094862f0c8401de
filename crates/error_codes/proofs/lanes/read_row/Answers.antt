use Rattle.std.proofs.Common.{arith}
use Rattle.std.proofs.lemmas.Simd.{get_or-chunk}
use Rattle.error_codes.proofs.lanes.read_row.Goals as goal

pub returns-then-width-eq-LANES : goal.returns-then-width-eq-LANES
returns-then-width-eq-LANES c = λ lane below.
    get_or-chunk c.args.start 32 c.args.words.now lane 0 (omega (arith, below, c.requires.few))
