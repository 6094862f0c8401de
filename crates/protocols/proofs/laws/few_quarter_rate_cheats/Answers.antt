use Rattle.std.proofs.Common.{lit<}
use Rattle.protocols.proofs.CodeDistances.{few_quarter_rate_cheats}
use Rattle.protocols.proofs.laws.few_quarter_rate_cheats.Goals as goal

pub returns-clause-cheats : goal.returns-clause-cheats
returns-clause-cheats c = few_quarter_rate_cheats

pub returns-clause-share : goal.returns-clause-share
returns-clause-share c = lit< tt
