use Rattle.std.proofs.Common.{◌+◌, ◌*◌}
use Rattle.reed_solomon.proofs.locators.+halves.Given as goal

-- the calls for both halves are below that for the whole, and above those for a half
abbrev pub decreases-set_locator : goal.decreases-set_locator
decreases-set_locator g l = 2 * l.levels

abbrev pub decreases-set_extended : goal.decreases-set_extended
decreases-set_extended g l = 2 * l.levels + 1
